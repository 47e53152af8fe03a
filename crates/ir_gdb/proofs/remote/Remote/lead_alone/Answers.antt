use Rattle.std.proofs.Common.{sym}
use Rattle.std.proofs.lemmas.Result.{on_ok_weaker}
use Rattle.ir_gdb.proofs.Over.{leads_alone_if_waiting, step_over_leads_alone, leads_alone_by_move}
use Rattle.ir_gdb.proofs.remote.Remote.lead_alone.Goals as goal

pub returns-then-waits-clause-ok : goal.returns-then-waits-clause-ok
returns-then-waits-clause-ok g c =
    on_ok_weaker c.move_alone.result
    (leads_alone_if_waiting c.args.self.now.stub c.move_alone.new.self.stub c.args.thread c.args.motion c.no_more.result (sym c.if-waits.ensures) c.no_more.ensures)
    c.move_alone.ensures.ok

pub returns-then-is_step-clause-ok : goal.returns-then-is_step-clause-ok
returns-then-is_step-clause-ok g c =
    on_ok_weaker c.step_over.result
    (step_over_leads_alone c.args.self.now.stub c.step_over.new.self.stub c.args.thread c.args.motion (sym c.if-waits.ensures) (sym c.if-is_step.ensures))
    c.step_over.ensures.ok

pub returns-clause-ok : goal.returns-clause-ok
returns-clause-ok g c =
    on_ok_weaker c.move_alone-2.result
    (leads_alone_by_move c.args.self.now.stub c.move_alone-2.new.self.stub c.args.thread c.args.motion (sym c.if-waits.ensures) (sym c.if-is_step.ensures))
    c.move_alone-2.ensures.ok
