use Rattle.std.proofs.Common.{◌≡◌, ◌++◌, length, sym, ap, ◌∙◌, subst, append_assoc}
use Rattle.ir_explore.specs.Texts.{Objects, objects_of, known_of}
use Rattle.ir_within.specs.Classes.{classes_line}
use Rattle.ir_within.specs.Within.{AreMarkedTexts, marked_count}
use Rattle.ir_within.proofs.classes.classes_text.Goals as goal

pub marked_text-requires-clause-objects : goal.marked_text-requires-clause-objects
marked_text-requires-clause-objects c = λ v s is.
    (c.requires.known.reached v s is).like.objects
    ∙ sym (ap length c.objects.ensures.value ∙ ap (λ z. length z.objects) c.in_ok-start.ensures)

pub returns : goal.returns
returns c =
    let image = c.args.image.now in
    let k = known_of c.args.found.now in
    let firsts = c.in_ok-firsts.firsts.items in
    let lines = c.in_ok-text.text.items in
    let last_lines = c.in_ok-ending.ending.items in
    let own : Objects = record { words = c.object_words.result; first = c.objects.result.now } in
    let first : own ≡ objects_of image =
    λ i. record {
      words = c.object_words.ensures.value i;
      first = (c.objects.ensures.value ∙ ap (λ z. z.objects) c.in_ok-start.ensures) i;
    } in
    let told : c.as_bytes.result.now ≡ classes_line (marked_count firsts) =
    c.as_bytes.ensures.value ∙ c.in_ok-last.ensures ∙ ap classes_line (c.marked_count.ensures ∙ ap marked_count c.as_slice-3.ensures.value) in
    let both : c.extend_from_slice.new.self.items ≡ lines ++ last_lines =
    c.in_ok-extend_from_slice.ensures.items ∙ ap (λ z. lines ++ z) c.as_slice-2.ensures.value in
    record {
      firsts = firsts;
      classes = c.in_ok-firsts.ensures image c.args.plan.now c.requires.known;
      lines = lines;
      texts = subst (λ z. AreMarkedTexts z k firsts (length k.outcomes) lines) first
          (subst (λ z. AreMarkedTexts own k z (length k.outcomes) lines) c.as_slice.ensures.value c.in_ok-text.ensures);
      last_lines = last_lines;
      ending = c.in_ok-ending.ensures;
      whole = c.in_ok-extend_from_slice-2.ensures.items ∙ (λ i. both i ++ told i) ∙ append_assoc lines last_lines (classes_line (marked_count firsts));
    }
