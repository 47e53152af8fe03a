use Rattle.std.proofs.Common.{ap, subst, ◌∙◌}
use Rattle.ir_image.specs.Guest.{guest_at}
use Rattle.ir_image.specs.Results.{YieldsImage}
use Rattle.ir_image.proofs.Whole.{guest_at_of_encoding}
use Rattle.ir_image.proofs.reading.read_image.Goals as goal

pub returns-clause-only : goal.returns-clause-only
returns-clause-only c = λ g fits e. subst (λ f. YieldsImage (λ image. image) c.image.result f) (ap guest_at e ∙ guest_at_of_encoding g fits)
    c.image.ensures.exact
