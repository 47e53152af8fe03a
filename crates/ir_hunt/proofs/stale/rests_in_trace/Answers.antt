use Rattle.std.proofs.Common.{◌∙◌}
use Rattle.std.proofs.lemmas.Result.{IfOk-weaker}
use Rattle.ir_hunt.proofs.stale.rests_in_trace.Goals as goal

pub returns-in-Ok : goal.returns-in-Ok
returns-in-Ok c = IfOk-weaker c.has_rests.result _ _
    (λ has h. (c.in-Ok.fitted, c.in-Ok.ensures.fits.0 ∙ c.in_ok-copy_of.ensures, c.in-Ok.ensures.fits.1, c.in-Ok.ensures.run, h)) c.has_rests.ensures
