use Rattle.std.proofs.Common.{map, ap, ◌∙◌, subst}
use Rattle.ir_record.specs.Recording.{turns_of_items}
use Rattle.ir_shrink.specs.Judging.{IsVerdict}
use Rattle.ir_shrink.specs.Shrinking.{goal_of}
use Rattle.ir_shrink.specs.Stale.{IsTraceInTurns}
use Rattle.ir_shrink.specs.Switches.{thread_changes}
use Rattle.ir_shrink.proofs.Ends.{played_is_order, played_is_unmet, played_is_unwanted, played_has_other}
use Rattle.ir_shrink.proofs.Judged.{good_is_kept}
use Rattle.ir_shrink.proofs.judging.Judge.given.Goals as goal

pub returns-then-not-is_same-clause-refused : goal.returns-then-not-is_same-clause-refused
returns-then-not-is_same-clause-refused g c = played_has_other c.args.self.now.image.now c.args.self.now.plan.now _ c.in_ok-played.played.items.items
    c.in_ok-played.played.flat c.in_ok-played.ensures c.in_ok-own.own (subst (λ xs. IsTraceInTurns c.args.self.now.image.now c.args.self.now.plan.now.record (turns_of_items xs) c.in_ok-own.own)
    c.as_slice-2.ensures.value c.in_ok-own.ensures.by) c.args.trace.now (c.in_ok-is_same.ensures.differ c.if-not-is_same.true)

pub returns-in-Good-clause-kept : goal.returns-in-Good-clause-kept
returns-in-Good-clause-kept g c = good_is_kept c.args.self.now.image.now c.args.self.now.plan.now _ c.in_ok-played.played.items.items
    c.in_ok-played.played.flat c.in_ok-played.ensures c.switches-count.result
    (c.switches-count.ensures ∙ ap (λ xs. thread_changes (map (λ t. t.0) (turns_of_items xs))) c.as_slice-in-Good.ensures.value)
    (subst (IsVerdict (goal_of c.args.self.now.image.now c.args.self.now.plan.now) c.in_ok-played.ensures.run) c.in-Good.is
    (c.in_ok-verdict.ensures _ c.in_ok-played.ensures))

pub returns-in-Good-clause-order : goal.returns-in-Good-clause-order
returns-in-Good-clause-order g c = played_is_order c.args.self.now.image.now c.args.self.now.plan.now _ c.in_ok-played.played.items.items
    c.in_ok-played.played.flat c.in_ok-played.ensures c.in_ok-own.own (subst (λ xs. IsTraceInTurns c.args.self.now.image.now c.args.self.now.plan.now.record (turns_of_items xs) c.in_ok-own.own)
    c.as_slice-2.ensures.value c.in_ok-own.ensures.by) c.args.trace.now c.switches-count.result
    (c.in_ok-is_same.ensures.same c.if-not-is_same.false)
    (c.switches-count.ensures ∙ ap (λ xs. thread_changes (map (λ t. t.0) (turns_of_items xs))) c.as_slice-in-Good.ensures.value)

pub returns-in-Unmet-clause-refused : goal.returns-in-Unmet-clause-refused
returns-in-Unmet-clause-refused g c = played_is_unmet c.args.self.now.image.now c.args.self.now.plan.now _ c.in_ok-played.played.items.items
    c.in_ok-played.played.flat c.in_ok-played.ensures c.in_ok-own.own (subst (λ xs. IsTraceInTurns c.args.self.now.image.now c.args.self.now.plan.now.record (turns_of_items xs) c.in_ok-own.own)
    c.as_slice-2.ensures.value c.in_ok-own.ensures.by) c.args.trace.now c.in-Unmet.place
    (c.in_ok-is_same.ensures.same c.if-not-is_same.false)
    (subst (IsVerdict (goal_of c.args.self.now.image.now c.args.self.now.plan.now) c.in_ok-played.ensures.run) c.in-Unmet.is
    (c.in_ok-verdict.ensures _ c.in_ok-played.ensures))

pub returns-clause-refused : goal.returns-clause-refused
returns-clause-refused g c = played_is_unwanted c.args.self.now.image.now c.args.self.now.plan.now _ c.in_ok-played.played.items.items
    c.in_ok-played.played.flat c.in_ok-played.ensures c.in_ok-own.own (subst (λ xs. IsTraceInTurns c.args.self.now.image.now c.args.self.now.plan.now.record (turns_of_items xs) c.in_ok-own.own)
    c.as_slice-2.ensures.value c.in_ok-own.ensures.by) c.args.trace.now (c.in_ok-is_same.ensures.same c.if-not-is_same.false)
    (subst (IsVerdict (goal_of c.args.self.now.image.now c.args.self.now.plan.now) c.in_ok-played.ensures.run) c.in-Stale.is
    (c.in_ok-verdict.ensures _ c.in_ok-played.ensures))
