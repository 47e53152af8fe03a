use Rattle.std.proofs.Common.{◌∷◌, [], length, ap, ◌∙◌, arith, length-append}
use Rattle.ir_replay.proofs.Dealt.{threads_whole_if_moved, seats_whole_if_moved}
use Rattle.ir_replay.proofs.round.assign_seats.Goals as goal

pub threads-preserved-in-Some-pop : goal.threads-preserved-in-Some-pop
threads-preserved-in-Some-pop c =
    let i = c.threads.invariant in
    let t = ap (λ z. length z) c.in-Some.ensures.items ∙ length-append c.pop.new.self.items (c.in-Some.thread ∷ []) in
    let s = ap (λ z. length z) c.in-Some-pop.ensures.items ∙ length-append c.pop-in-Some.new.self.items (c.in-Some-pop.seat ∷ []) in
    let w = ap (λ z. length z) c.push_reserved.ensures.items
    ∙ length-append c.threads.workers.items (record { seat = c.in-Some-pop.seat; thread = c.in-Some.thread; apart = _ } ∷ []) in
    let counts = i.counts in let room = i.room in let cap = c.push_reserved.ensures.capacity in record {
      held = c.pop.ensures.capacity ∙ i.held;
      counts = omega (arith, t, s, counts);
      room = omega (arith, t, w, room, cap);
      threads = threads_whole_if_moved c.threads.threads.items c.pop.new.self.items _ c.threads.workers.items c.push_reserved.new.self.items
          (record { seat = c.in-Some-pop.seat; thread = c.in-Some.thread; apart = _ }) c.in-Some.ensures.items c.push_reserved.ensures.items
          i.threads;
      seats = seats_whole_if_moved c.threads.seats.items c.pop-in-Some.new.self.items _ c.threads.workers.items c.push_reserved.new.self.items
          (record { seat = c.in-Some-pop.seat; thread = c.in-Some.thread; apart = _ }) c.in-Some-pop.ensures.items
          c.push_reserved.ensures.items i.seats;
    }
