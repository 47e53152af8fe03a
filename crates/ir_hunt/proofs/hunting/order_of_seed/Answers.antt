use Rattle.std.proofs.Common.{ap, ◌∙◌}
use Rattle.std.specs.String.{string_bytes}
use Rattle.ir_hunt.specs.Hunt.{hunt_of}
use Rattle.ir_hunt.proofs.Stopping.{list_is_order_of_seed}
use Rattle.ir_hunt.proofs.hunting.order_of_seed.Goals as goal

pub returns-in-Ok-clause-found : goal.returns-in-Ok-clause-found
returns-in-Ok-clause-found g c =
    let made = c.in_ok-seeker.ensures in
    let chosen = c.in_ok-choices.ensures in
    let image = ap (λ r. r.now) chosen.image ∙ made.image in
    let plan = ap (λ r. r.now) chosen.plan ∙ made.plan in
    list_is_order_of_seed (λ s. string_bytes s) c.args.image.now c.in_ok-guest.guest.now c.args.how c.args.way c.args.seed c.in_ok-choices.choices _ c.in-Ok.list
    c.in_ok-guest.ensures.exact (λ i. hunt_of (image i) (plan i) c.in_ok-choices.choices) c.in-Ok.ensures.tried
