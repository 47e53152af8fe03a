use Rattle.std.proofs.Common.{◌≡◌, ◌+◌, ◌-◌, ◌<◌, ◌∙◌, length, get_or, refl, sym, ap, subst, rules, arith}
use Rattle.std.proofs.lemmas.List.Sorted.{IsPartitionPoint-from_clause}
use Rattle.std.proofs.lemmas.Option.{slice_get-get_or, get_or_from_slice_get}
use Rattle.std.specs.Prelude.{slice_get, Some}
use Rattle.ir_lemmas.proofs.CallerLemmas.{true_is_not_false}
use Rattle.ir_picture.specs.Shown.{begins_by}
use Rattle.ir_picture.specs.declared.placed_box.PlacedBox.{PlacedBox}
use Rattle.ir_picture.proofs.Sorted.{boxes_split_by_begin, event_box_is_last_begun, is_in_true_if_in_box, in_box_if_is_in_true}
use Rattle.ir_picture.proofs.finding.box_of.Goals as goal

pub returns-then-count-eq0-clause-none : goal.returns-then-count-eq0-clause-none
returns-then-count-eq0-clause-none c = λ k b at has. omega (
  arith,
  c.if-count-eq0.true,
  event_box_is_last_begun c.args.boxes.now c.args.place.thread c.args.place.event c.partition_point-count.result c.requires c.partition_point-count.ensures.bound
      (IsPartitionPoint-from_clause (λ (b : PlacedBox). begins_by c.args.place.thread c.args.place.event b.events) c.args.boxes.now _
      c.partition_point-count.ensures.partitioned (boxes_split_by_begin c.args.boxes.now c.args.place.thread c.args.place.event c.requires)
      (λ a r q k. search rules)) k b at has,
)

pub returns-then-has-clause-found : goal.returns-then-has-clause-found
returns-then-has-clause-found c =
    let n = c.partition_point-count.result in
    let inside : n - 1 < length c.args.boxes.now = omega (arith, c.if-count-eq0.false, c.partition_point-count.ensures.bound) in (
      n - 1,
      slice_get-get_or c.args.boxes.now (n - 1) _ inside,
      in_box_if_is_in_true (get_or c.args.boxes.now (n - 1) _) c.args.place.thread c.args.place.event
          (sym (c.has.ensures (get_or c.args.boxes.now (n - 1) _) refl) ∙ c.if-has.true),
    )

pub returns-else-has-clause-none : goal.returns-else-has-clause-none
returns-else-has-clause-none c = λ k b at has.
    let n = c.partition_point-count.result in
    let last : k + 1 ≡ n = event_box_is_last_begun c.args.boxes.now c.args.place.thread c.args.place.event n c.requires c.partition_point-count.ensures.bound
    (IsPartitionPoint-from_clause (λ (b : PlacedBox). begins_by c.args.place.thread c.args.place.event b.events) c.args.boxes.now _
    c.partition_point-count.ensures.partitioned (boxes_split_by_begin c.args.boxes.now c.args.place.thread c.args.place.event c.requires)
    (λ a r q k. search rules)) k b at has in
    let place : k ≡ n - 1 = omega (arith, last) in
    let same : get_or c.args.boxes.now (n - 1) _ ≡ b = get_or_from_slice_get c.args.boxes.now (n - 1) b _
    (subst (λ m. slice_get c.args.boxes.now m ≡ Some b) place at) in
    true_is_not_false c.has.result (c.has.ensures b (ap (λ (x : PlacedBox). x.events) (sym same)) ∙ is_in_true_if_in_box b c.args.place.thread c.args.place.event has)
    c.if-has.false
