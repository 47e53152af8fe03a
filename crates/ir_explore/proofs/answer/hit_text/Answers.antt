use Rattle.std.proofs.Common.{◌≡◌, ◌++◌, [], suc, ◌+◌, Some, length, sym, ap, ◌∙◌, subst, arith}
use Rattle.std.specs.Prelude.{List, slice_get}
use Rattle.std.specs.List.{slice_index_or}
use Rattle.std.specs.String.{string_bytes}
use Rattle.std.proofs.lemmas.Option.{same_Some, slice_get-get_or}
use Rattle.ir_order.specs.Spelling.{IsListOf, SpellsTurns}
use Rattle.ir_order.proofs.CallerLemmas.{nonempty_list_spells}
use Rattle.ir_outcomes.specs.declared.shown.Shown.{Shown}
use Rattle.ir_record.specs.Recording.{turns_of_items}
use Rattle.ir_record.specs.declared.item.Item.{Item}
use Rattle.ir_explore.specs.Lines.{outcome_found_line}
use Rattle.ir_explore.specs.Plan.{setup_of}
use Rattle.ir_explore.specs.Texts.{Objects, objects_of, AreTexts, known_of}
use Rattle.ir_explore.proofs.Hits.{shown_order_nonempty, is_hit_if_shown_outcome_is_first_to_fulfil}
use Rattle.ir_explore.proofs.Joined.{no_outcome_no_texts}
use Rattle.ir_explore.proofs.answer.hit_text.Goals as goal

pub outcomes_text-requires-clause-objects : goal.outcomes_text-requires-clause-objects
outcomes_text-requires-clause-objects c = λ v f is.
    (c.requires.reached v f is).like.objects
    ∙ sym (ap length c.objects.ensures.value ∙ ap (λ z. length z.objects) c.in_ok-start.ensures)

pub returns : goal.returns
returns c = λ cs none (x, s, at, does).
    let guest = c.args.image.now in
    let flats = c.args.explored.now.states.graph.flats.items in
    let outcomes = c.args.explored.now.outcomes.items in
    let place = c.args.place in
    let lines = c.in_ok-text.text.items in
    let list = string_bytes c.in_ok-list.list in
    let value = c.as_slice-outcomes.ensures.value in
    let own : Objects = record { words = c.object_words.result; first = c.objects.result.now } in
    let first : own ≡ objects_of guest =
    λ i. record {
      words = c.object_words.ensures.value i;
      first = (c.objects.ensures.value ∙ ap (λ z. z.objects) c.in_ok-start.ensures) i;
    } in
    let y : Shown = c.index-outcomes-place.result in
    let here : slice_get outcomes place ≡ Some y =
    slice_get-get_or outcomes place y c.requires.place
    ∙ ap Some (sym (c.index-outcomes-place.is ∙ ap (λ z. slice_index_or z place y) value)) in
    let same : y ≡ x = same_Some y x (sym here ∙ at.0) in
    let next : place + 1 ≡ suc place = omega arith in
    let turns = c.as_slice.ensures.value ∙ ap (λ (z : Shown). z.turns.items) same in
    let some = shown_order_nonempty (setup_of guest c.args.plan.now) s x.level (turns_of_items x.turns.items) c.entries.ensures.within.some_thread (c.requires.explored.shown place x s at) in
    let listed : IsListOf list (turns_of_items x.turns.items) = subst (λ (ts : List Item). IsListOf list (turns_of_items ts)) turns c.in_ok-list.ensures in
    let spells : SpellsTurns list (turns_of_items x.turns.items) = nonempty_list_spells list (turns_of_items x.turns.items) listed some in
    record {
      known = known_of c.args.explored.now;
      explored = c.requires.explored;
      place = place;
      shown = x;
      state = s;
      at = at;
      listed = listed;
      first = none;
      fulfils = does;
      same = (c.requires.explored.shown place x s at).same;
      hit = is_hit_if_shown_outcome_is_first_to_fulfil guest c.args.plan.now cs flats outcomes c.args.explored.now.levels place x s list c.requires.explored at none does spells;
      lines = lines;
      texts = subst (λ z. AreTexts z flats outcomes (suc place) lines) first
          (subst (λ z. AreTexts own flats z (suc place) lines) value
          (subst (λ z. AreTexts own flats c.as_slice-outcomes.result.now z lines) next
          (c.in_ok-text.ensures [] (no_outcome_no_texts own flats c.as_slice-outcomes.result.now))));
      whole = c.in_ok-extend_from_slice.ensures.items
          ∙ ap (λ z. lines ++ z) (c.as_bytes.ensures.value ∙ c.in_ok-line.ensures ∙ (λ i. outcome_found_line (next i) (same i).level (c.as_str.ensures.value i)));
    }
