use Rattle.std.proofs.Common.{◌≡◌, ℕ, List, length, map, false, sym, ap, ◌∙◌, subst, arith}
use Rattle.ir_record_command.specs.Plan.{Plan}
use Rattle.ir_record_command.specs.Recording.{IsRecordedOf}
use Rattle.ir_world.specs.Sources.{made_with}
use Rattle.ir_world.proofs.CallerLemmas.{world_count_is_threads, answered_by_own_origin}
use Rattle.ir_record_command.proofs.Fresh.{fresh_by_threads}
use Rattle.ir_record_command.proofs.recording.recorded_by_threads.Goals as goal

pub record-requires-clause-each : goal.record-requires-clause-each
record-requires-clause-each g c =
    let count : length c.in_ok-worlds.worlds.items ≡ length c.entries-threads.result.now =
    world_count_is_threads (λ w. made_with w.time w.seed w.file.now) c.in_ok-worlds.worlds.items false c.plan.inside.random c.plan.inside.input.now
    (length c.entries-threads.result.now) c.in_ok-worlds.ensures.origins in
    let same : length c.entries-threads.result.now ≡ length c.in_ok-guest.guest.now.entries =
    ap (λ (z : List ℕ). length z) c.entries-threads.ensures.value in
    omega (arith, count, same, c.in_ok-worlds.worlds.ok)

pub returns-in_ok-printed-in-Ok-record-clause-recorded : goal.returns-in_ok-printed-in-Ok-record-clause-recorded
returns-in_ok-printed-in-Ok-record-clause-recorded g c = subst (λ (z : List (List ℕ)). IsRecordedOf c.args.image.now c.args.plan.now
    c.in-Ok-record.trace z) (sym c.in_ok-printed-in-Ok-record.ensures)
    (subst (λ (p : Plan). IsRecordedOf c.args.image.now p c.in-Ok-record.trace (map (λ o. o.bytes.items) c.in-Ok-record.outputs.each.items)) c.plan.view_is
    (fresh_by_threads c.args.image.now _ c.in_ok-guest.guest.now
    c.entries-threads.result.now
    (map (λ w. w.answers.items) c.in_ok-worlds.worlds.items) c.in-Ok-record.trace
    (map (λ o. o.bytes.items) c.in-Ok-record.outputs.each.items) (map (λ o. o.world.answers.items) c.in-Ok-record.outputs.each.items)
    (ap (λ (p : Plan). p.order) c.plan.view_is ∙ c.requires) c.in_ok-guest.ensures.exact c.entries-threads.ensures.value c.in_ok-worlds.ensures.fresh c.in-Ok-record.ensures.recorded
    (answered_by_own_origin (λ o. made_with o.world.time o.world.seed o.world.file.now) (λ o. o.world.answers.items) (λ o. (o.world.sources, o.world.gave))
    false c.plan.inside.random c.plan.inside.input.now c.in-Ok-record.outputs.each.items (length c.entries-threads.result.now)
    (c.in-Ok-record.ensures.origins ∙ c.in_ok-worlds.ensures.origins))))
