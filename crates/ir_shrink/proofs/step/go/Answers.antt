use Rattle.std.proofs.Common.{sym, subst}
use Rattle.ir_shrink.specs.Steps.{GoesOn}
use Rattle.ir_shrink.proofs.Steps.{taken_step_goes_on}
use Rattle.ir_shrink.proofs.step.go.Goals as goal

pub returns : goal.returns
returns c = λ refused. subst (λ b. GoesOn b c.args.asked refused c.args.t c.args.flat.now c.take.new.self) (sym c.is_ok.ensures.value)
    (taken_step_goes_on c.args.flat.now c.take.new.self c.args.t c.args.asked refused c.take.result c.requires.asked c.take.ensures.admitted
    c.take.ensures.taken c.take.ensures.code c.take.ensures.threads c.take.ensures.objects c.take.ensures.refused c.take.ensures.unchanged)
