use Rattle.std.proofs.Common.{◌≡◌, ℕ, List, length, map, true, sym, ap, ◌∙◌, subst, arith}
use Rattle.ir_record.specs.Recording.{turns_of_items}
use Rattle.ir_record_command.specs.Plan.{Plan}
use Rattle.ir_record_command.specs.Recording.{IsRecordedOf}
use Rattle.ir_world.specs.Sources.{made_with}
use Rattle.ir_world.proofs.CallerLemmas.{world_count_is_threads, answered_by_own_origin}
use Rattle.ir_record_command.proofs.Fresh.{fresh_by_order}
use Rattle.ir_record_command.proofs.recording.recorded_in_order.Goals as goal

pub record_with_refusals-requires-clause-each : goal.record_with_refusals-requires-clause-each
record_with_refusals-requires-clause-each g c =
    let count : length c.in_ok-worlds.worlds.items ≡ length c.entries-threads.result.now =
    world_count_is_threads (λ w. made_with w.time w.seed w.file.now) c.in_ok-worlds.worlds.items true c.plan.inside.random c.plan.inside.input.now
    (length c.entries-threads.result.now) c.in_ok-worlds.ensures.origins in
    let same : length c.entries-threads.result.now ≡ length c.in_ok-guest.guest.now.entries =
    ap (λ (z : List ℕ). length z) c.entries-threads.ensures.value in
    omega (arith, count, same, c.in_ok-worlds.worlds.ok)

pub returns-in-Ok-record_with_refusals-clause-recorded : goal.returns-in-Ok-record_with_refusals-clause-recorded
returns-in-Ok-record_with_refusals-clause-recorded g c = subst (λ (z : List (List ℕ)). IsRecordedOf c.args.image.now c.args.plan.now
    c.in-Ok-record_with_refusals.trace z) (sym c.in_ok-printed-in-Ok-record_with_refusals.ensures)
    (subst (λ (p : Plan). IsRecordedOf c.args.image.now p c.in-Ok-record_with_refusals.trace (map (λ o. o.bytes.items) c.in-Ok-record_with_refusals.outputs.each.items)) c.plan.view_is
    (fresh_by_order c.args.image.now c.args.list.now _ c.in_ok-guest.guest.now
    c.entries-threads.result.now (turns_of_items c.in-Ok.order.items) (turns_of_items c.as_slice.result.now)
    (map (λ w. w.answers.items) c.in_ok-worlds.worlds.items) c.in-Ok-record_with_refusals.trace
    (map (λ o. o.bytes.items) c.in-Ok-record_with_refusals.outputs.each.items) (map (λ o. o.world.answers.items) c.in-Ok-record_with_refusals.outputs.each.items)
    (ap (λ (p : Plan). p.order) c.plan.view_is ∙ c.requires) c.in_ok-guest.ensures.exact c.entries-threads.ensures.value c.in-Ok.ensures.spelled (ap turns_of_items c.as_slice.ensures.value)
    c.in_ok-worlds.ensures.fresh c.in-Ok-record_with_refusals.ensures.recorded
    (answered_by_own_origin (λ o. made_with o.world.time o.world.seed o.world.file.now) (λ o. o.world.answers.items) (λ o. (o.world.sources, o.world.gave))
    true c.plan.inside.random c.plan.inside.input.now c.in-Ok-record_with_refusals.outputs.each.items (length c.entries-threads.result.now)
    (c.in-Ok-record_with_refusals.ensures.origins ∙ c.in_ok-worlds.ensures.origins))))
