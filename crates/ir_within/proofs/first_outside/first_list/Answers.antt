use Rattle.std.proofs.Common.{◌≡◌, ◌<◌, List, Some, true, length, sym, ap, ◌∙◌, subst, arith}
use Rattle.std.specs.Prelude.{slice_get}
use Rattle.std.specs.List.{slice_index_or}
use Rattle.std.proofs.lemmas.Option.{slice_get-get_or, slice_get_within}
use Rattle.ir_order.specs.Spelling.{IsListOf}
use Rattle.ir_outcomes.specs.declared.shown.Shown.{Shown}
use Rattle.ir_record.specs.Recording.{turns_of_items}
use Rattle.ir_record.specs.declared.item.Item.{Item}
use Rattle.std.specs.String.{string_bytes}
use Rattle.ir_within.proofs.first_outside.first_list.Goals as goal

pub returns-in_ok-list-in-Some : goal.returns-in_ok-list-in-Some
returns-in_ok-list-in-Some c =
    let outcomes = c.args.explored.now.outcomes.items in
    let place = c.in-Some.place in
    let count = c.requires in
    let marked = c.in-Some.ensures in
    let within = slice_get_within c.args.outside.now place true marked.0 in
    let less : place < length outcomes = omega (arith, within, count) in
    let value = c.as_slice-outcomes.ensures.value in
    let x : Shown = c.index-outcomes-place.result in
    let at : slice_get outcomes place ≡ Some x =
    slice_get-get_or outcomes place x less ∙ ap Some (sym (c.index-outcomes-place.is ∙ ap (λ z. slice_index_or z place x) value)) in (
      place,
      x,
      at,
      marked,
      subst (λ (ts : List Item). IsListOf (string_bytes c.in_ok-list-in-Some.list) (turns_of_items ts))
          (c.as_slice.ensures.value ∙ ap (λ (z : Shown). z.turns.items) (sym c.index-outcomes-place.is)) c.in_ok-list-in-Some.ensures,
    )
