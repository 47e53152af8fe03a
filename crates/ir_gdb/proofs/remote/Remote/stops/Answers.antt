use Rattle.std.proofs.Common.{◌∙◌, ap, refl}
use Rattle.ir_gdb.specs.Stub.{Stub, stub_spoken}
use Rattle.ir_gdb.proofs.Moving.{length_push_by_count, own_stops_push, stops_within_last_push}
use Rattle.ir_gdb.proofs.remote.Remote.stops.Goals as goal

pub threads-preserved : goal.threads-preserved
threads-preserved g c =
    let s = c.args.self.now.stub in
    let u = c.threads.self.stub in
    let n = c.threads.thread in
    let xs = c.threads.stops.items in
    let ys = c.push.new.self.items in
    let x = c.in_ok-stopped.stopped in
    let same = c.threads.invariant.stub in
    record {
      stub = c.continued.ensures.stub ∙ ap (λ (y : Stub). stub_spoken y) same;
      len = length_push_by_count xs ys x n c.threads.invariant.len c.in_ok-push.ensures.items;
      own =
          own_stops_push s u c.args.direction c.args.mover n _ xs ys x same c.threads.invariant.len refl c.in_ok-push.ensures.items
          c.in_ok-stopped.ensures.stops c.threads.invariant.own;
      within =
          stops_within_last_push s u n xs ys x same c.threads.invariant.len c.in_ok-push.ensures.items c.in_ok-stopped.ensures.within
          c.threads.invariant.within;
    }
