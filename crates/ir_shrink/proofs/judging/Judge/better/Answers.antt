use Rattle.std.proofs.Common.{◌∙◌, map, ap, subst, arith}
use Rattle.ir_record.specs.Recording.{turns_of_items}
use Rattle.ir_shrink.specs.Judging.{IsVerdict}
use Rattle.ir_shrink.specs.Shrinking.{goal_of}
use Rattle.ir_shrink.specs.Switches.{thread_changes}
use Rattle.ir_shrink.proofs.Judged.{many_switches_no_better, unmet_is_no_better, stale_is_no_better, good_is_kept}
use Rattle.ir_shrink.proofs.judging.Judge.better.Goals as goal

pub returns-then-count-limit : goal.returns-then-count-limit
returns-then-count-limit g c = many_switches_no_better c.args.self.now.image.now c.args.self.now.plan.now c.args.items.now c.in_ok-played.played.items.items
    c.in_ok-played.played.flat c.in_ok-played.ensures c.args.limit c.switches-count.result
    (c.switches-count.ensures ∙ ap (λ xs. thread_changes (map (λ t. t.0) (turns_of_items xs))) c.as_slice.ensures.value) c.if-count-limit.true

pub returns-in-Good : goal.returns-in-Good
returns-in-Good g c = (
  good_is_kept c.args.self.now.image.now c.args.self.now.plan.now c.args.items.now c.in_ok-played.played.items.items c.in_ok-played.played.flat
      c.in_ok-played.ensures c.switches-count.result
      (c.switches-count.ensures ∙ ap (λ xs. thread_changes (map (λ t. t.0) (turns_of_items xs))) c.as_slice.ensures.value)
      (subst (IsVerdict (goal_of c.args.self.now.image.now c.args.self.now.plan.now) c.in_ok-played.ensures.run) c.in-Good.is
      (c.in_ok-verdict.ensures c.args.items.now c.in_ok-played.ensures)),
  omega (arith, c.if-count-limit.false),
)

pub returns-in-Unmet : goal.returns-in-Unmet
returns-in-Unmet g c = unmet_is_no_better c.args.self.now.image.now c.args.self.now.plan.now c.args.items.now c.in_ok-played.played.items.items
    c.in_ok-played.played.flat c.in_ok-played.ensures c.args.limit _
    (subst (IsVerdict (goal_of c.args.self.now.image.now c.args.self.now.plan.now) c.in_ok-played.ensures.run) c.in-Unmet.is
    (c.in_ok-verdict.ensures c.args.items.now c.in_ok-played.ensures))

pub returns-in-Stale : goal.returns-in-Stale
returns-in-Stale g c = stale_is_no_better c.args.self.now.image.now c.args.self.now.plan.now c.args.items.now c.in_ok-played.played.items.items
    c.in_ok-played.played.flat c.in_ok-played.ensures c.args.limit
    (subst (IsVerdict (goal_of c.args.self.now.image.now c.args.self.now.plan.now) c.in_ok-played.ensures.run) c.in-Stale.is
    (c.in_ok-verdict.ensures c.args.items.now c.in_ok-played.ensures))
