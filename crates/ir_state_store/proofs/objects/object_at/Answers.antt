use Rattle.std.proofs.Common.{[], sym, ◌∙◌}
use Rattle.std.proofs.lemmas.Option.{get_or_from_slice_get}
use Rattle.ir_object.specs.Word.{fields_of}
use Rattle.ir_state_store.proofs.objects.object_at.Goals as goal

pub returns : goal.returns
returns c =
    let words = c.args.words.now in
    let s = c.args.spot in
    c.from_parts.ensures
    ∙ (λ j. record { fields = fields_of (c.word.ensures j); words = sym (get_or_from_slice_get words s.words c.get.result [] c.get.ensures) j })
