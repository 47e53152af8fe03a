use Rattle.std.proofs.Common.{◌≡◌, ◌++◌, length, sym, ap, ◌∙◌, subst}
use Rattle.std.specs.Prelude.{codes, option_map}
use Rattle.std.specs.String.{string_bytes}
use Rattle.ir_explore.specs.Texts.{Objects, objects_of, known_of}
use Rattle.ir_within.specs.Outside.{IsListOfFirst}
use Rattle.ir_within.specs.Plans.{aspects_of}
use Rattle.ir_within.specs.Within.{AreMarkedTexts, IsCompared, marked_count, verdict_of, verdict_line}
use Rattle.ir_within.proofs.First.{listed_if_compared}
use Rattle.ir_within.proofs.run.compared.Goals as goal

pub marked_text-requires-clause-objects : goal.marked_text-requires-clause-objects
marked_text-requires-clause-objects c = λ v s is.
    (c.requires.known.reached v s is).like.objects
    ∙ sym (ap length c.objects.ensures.value ∙ ap (λ z. length z.objects) c.in_ok-start.ensures)

pub returns : goal.returns
returns c = λ guest known.
    let image = c.args.image.now in
    let k = known_of c.args.found.now in
    let outside = c.in_ok-outside.outside.items in
    let lines = c.in_ok-text.text.items in
    let verdict = c.of-verdict.result in
    let text = c.extend_from_slice.new.self.items in
    let list = option_map string_bytes c.in_ok-list.list in
    let own : Objects = record { words = c.object_words.result; first = c.objects.result.now } in
    let first : own ≡ objects_of image =
    λ i. record {
      words = c.object_words.ensures.value i;
      first = (c.objects.ensures.value ∙ ap (λ z. z.objects) c.in_ok-start.ensures) i;
    } in
    let compared : IsCompared (aspects_of c.args.aspects) image guest c.args.plan.now verdict text = record {
      known = k;
      are = c.requires.known;
      other_known = known_of c.args.other.now;
      other_are = known;
      finished = c.requires.finished;
      outside = outside;
      judged = c.in_ok-outside.ensures image guest c.args.plan.now c.requires.known known;
      lines = lines;
      texts = subst (λ z. AreMarkedTexts z k outside (length k.outcomes) lines) first
          (subst (λ z. AreMarkedTexts own k z (length k.outcomes) lines) c.as_slice-2.ensures.value c.in_ok-text.ensures);
      found = c.of-verdict.ensures ∙ ap (verdict_of k.ended) (c.marked_count.ensures ∙ ap marked_count c.as_slice-3.ensures.value);
      whole = c.in_ok-extend_from_slice.ensures.items ∙ ap (λ z. lines ++ z) (
          c.as_bytes.ensures.value ∙ c.in_ok-last.ensures
          ∙ λ i. codes "image " ++ ((c.as_str.ensures.value ∙ c.in_ok-image_line.ensures) i ++ (codes "other " ++ (
          (c.as_str-2.ensures.value ∙ c.in_ok-other_line.ensures) i ++ verdict_line verdict
          )))
          );
    } in
    listed_if_compared (aspects_of c.args.aspects) image guest c.args.plan.now list verdict text c.entries.ensures.within.some_thread compared
    (subst (λ z. IsListOfFirst k z list) c.as_slice.ensures.value c.in_ok-list.ensures)
