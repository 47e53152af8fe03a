use Rattle.std.proofs.Common.{ap, ◌∙◌}
use Rattle.ir_flat.specs.Flat.{start_flat}
use Rattle.ir_record.specs.Recording.{turns_of_items}
use Rattle.ir_record_command.specs.Plan.{Plan}
use Rattle.ir_shrink.proofs.playing.start.Goals as goal

pub returns-clause-moment : goal.returns-clause-moment
returns-clause-moment g c =
    let flat = c.in_ok-flat.ensures ∙ ap (λ (p : Plan). start_flat c.args.image.now p.budget p.profile) c.plan.view_is in
    λ i. record { flat = flat i; turns = turns_of_items (c.new.ensures.items i); answers = c.in_ok-worlds.ensures.fresh i }
