use Rattle.std.proofs.Common.{◌∙◌, sym, ap}
use Rattle.ir_gdb.specs.Serving.{Serving}
use Rattle.ir_gdb.specs.Moves.{with_together}
use Rattle.ir_gdb.proofs.Stopping.{serving_seen}
use Rattle.ir_gdb.proofs.Moving.{interruption_moves}
use Rattle.ir_gdb.proofs.Over.{uninterrupted_moves}
use Rattle.ir_gdb.proofs.remote.Remote.carry_out.Goals as goal

pub returns-then-self-clause-ok : goal.returns-then-self-clause-ok
returns-then-self-clause-ok g c =
    let stopped = ap (λ (x : Serving). x.stub.interrupted) (sym c.self.view_is) ∙ c.if-self.true in
    interruption_moves c.args.self.now.stub c.stay.new.self.stub c.args.who c.args.motion c.args.out.now.items c.put_told.new.out.items stopped
    c.in_ok-stay.ensures.ok c.put_told.ensures.bytes

pub returns-clause-ok : goal.returns-clause-ok
returns-clause-ok g c =
    let together = c.together_after-together.result in
    uninterrupted_moves c.args.self.now.stub c.arrive.new.self.stub (with_together (serving_seen c.self-2.view_is).stub together) c.put_stop_here.new.self.stub c.args.who
    c.args.motion together c.args.out.now.items c.put_stop_here.new.out.items
    (ap (λ (x : Serving). x.stub.interrupted) (sym c.self.view_is) ∙ c.if-self.false) c.in_ok-arrive.ensures.ok c.together_after-together.ensures
    (ap (λ (x : Serving). with_together x.stub together) c.self-2.view_is) c.put_stop_here.ensures.bytes c.put_stop_here.ensures.stub
