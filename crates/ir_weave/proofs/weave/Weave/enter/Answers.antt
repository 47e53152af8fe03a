use Rattle.std.proofs.Common.{◌∙◌, suc, false, sym, subst}
use Rattle.ir_weave.specs.Woven.{M, met_of, Rises}
use Rattle.ir_weave.proofs.Seats.{view_at}
use Rattle.ir_weave.proofs.weave.Weave.enter.Goals as goal

pub step_in-requires-clause-granted : goal.step_in-requires-clause-granted
step_in-requires-clause-granted c = (c.look.ensures.granted c.if-not-look.false).1

pub returns-clause-entered : goal.returns-clause-entered
returns-clause-entered c on = c.step_in.ensures.entered
    ∙ (λ i. (
      view_at c.args.self.now.table.shared.key c.args.thread.now (suc c.args.thread.now.steps) false
          (met_of (sym c.step_in.ensures.entered i).0),
      ((c.look.ensures.granted c.if-not-look.false).0 i).1,
    ))

pub returns-clause-rises : goal.returns-clause-rises
returns-clause-rises c = subst (λ (z : M). Rises (met_of c.args.seat.now.me.0) (met_of z.0)) (sym c.step_in.ensures.entered)
    (record { cut = c.look.ensures.rises.cut; looks = c.look.ensures.rises.looks })
