use Rattle.std.proofs.Common.{ap, ◌∙◌}
use Rattle.ir_flat.proofs.Fresh.{made_start_is_flat}
use Rattle.ir_flat.proofs.flat.Flat.start.Goals as goal

pub invariant_of-result : goal.invariant_of-result
invariant_of-result c = made_start_is_flat c.args.image.now c.args.budget c.args.profile c.new.result
    (ap (λ f. f.code) c.new.ensures ∙ c.code.ensures.value)
    (ap (λ f. f.threads) c.new.ensures ∙ c.in_ok-threads.ensures)
    (ap (λ f. f.objects) c.new.ensures ∙ c.in_ok-objects.ensures)
    c.code.ensures.within
