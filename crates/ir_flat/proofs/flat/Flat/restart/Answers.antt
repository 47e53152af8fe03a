use Rattle.std.proofs.Common.{ap}
use Rattle.ir_flat.proofs.Fresh.{made_start_is_flat}
use Rattle.ir_flat.proofs.flat.Flat.restart.Goals as goal

pub invariant_of-self-2 : goal.invariant_of-self-2
invariant_of-self-2 c = made_start_is_flat c.args.image.now c.args.budget c.args.profile c.restart.new.self
    (ap (λ f. f.code) c.restart.ensures) (ap (λ f. f.threads) c.restart.ensures) (ap (λ f. f.objects) c.restart.ensures) c.entries.ensures.within
