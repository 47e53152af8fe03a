use Rattle.std.proofs.Common.{◌≡◌, ◌++◌, [], length, sym, ap, ◌∙◌, subst}
use Rattle.ir_explore.specs.Texts.{Objects, objects_of, AreTexts}
use Rattle.ir_explore.proofs.Joined.{no_outcome_no_texts}
use Rattle.ir_explore.proofs.answer.known_text.Goals as goal

pub outcomes_text-requires-clause-objects : goal.outcomes_text-requires-clause-objects
outcomes_text-requires-clause-objects c = λ v f is.
    (c.requires.known.reached v f is).like.objects
    ∙ sym (ap length c.objects.ensures.value ∙ ap (λ z. length z.objects) c.in_ok-start.ensures)

pub returns : goal.returns
returns c =
    let guest = c.args.image.now in
    let flats = c.args.explored.now.states.graph.flats.items in
    let outcomes = c.args.explored.now.outcomes.items in
    let lines = c.in_ok-text.text.items in
    let value = c.as_slice-outcomes.ensures.value in
    let own : Objects = record { words = c.object_words.result; first = c.objects.result.now } in
    let first : own ≡ objects_of guest =
    λ i. record {
      words = c.object_words.ensures.value i;
      first = (c.objects.ensures.value ∙ ap (λ z. z.objects) c.in_ok-start.ensures) i;
    } in
    let many = ap length value in
    record {
      lines = lines;
      texts = subst (λ z. AreTexts z flats outcomes (length outcomes) lines) first
          (subst (λ z. AreTexts own flats z (length outcomes) lines) value
          (subst (λ z. AreTexts own flats c.as_slice-outcomes.result.now z lines) many
          (c.in_ok-text.ensures [] (no_outcome_no_texts own flats c.as_slice-outcomes.result.now))));
      last_lines = c.in_ok-ending.ending.items;
      ending = c.in_ok-ending.ensures;
      whole = c.in_ok-extend_from_slice.ensures.items ∙ ap (λ z. lines ++ z) c.as_slice.ensures.value;
    }
