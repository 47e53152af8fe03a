use Rattle.std.proofs.Common.{[], length, true, ap, ◌∙◌}
use Rattle.std.specs.Prelude.{replicate}
use Rattle.ir_flat.specs.Flat.{start_flat}
use Rattle.ir_record_command.specs.Plan.{Plan}
use Rattle.ir_world.specs.Sources.{made_with}
use Rattle.ir_world.proofs.CallerLemmas.{world_count_is_threads}
use Rattle.ir_hunt.proofs.seeker.Seeker.restart.Goals as goal

pub returns-clause-fresh : goal.returns-clause-fresh
returns-clause-fresh g c =
    let s = c.args.self.now in
    let flat = c.in_ok-restart.ensures ∙ ap (λ (p : Plan). start_flat s.image.now p.budget p.profile) c.record.view_is in
    let long = world_count_is_threads (λ w. made_with w.time w.seed w.file.now) s.runner.worlds.items true s.plan.now.record.random s.plan.now.record.input
    (length s.image.now.entries) s.origins in
    let answers = c.restart_all.ensures.answers ∙ ap (λ n. replicate n []) long in
    λ i. record { flat = flat i; turns = c.clear.ensures.items i; answers = answers i }
