use Rattle.std.proofs.Common.{[], ◌<◌, length, get_or, sym, ap, ◌∙◌, subst}
use Rattle.std.proofs.lemmas.Option.{slice_get_within, get_or_from_slice_get}
use Rattle.ir_object.specs.Word.{fields_of}
use Rattle.ir_state_store.proofs.objects.spot_of.Goals as goal

pub returns-clause-within : goal.returns-clause-within
returns-clause-within c =
    subst (λ k. k < length c.number.new.self) (sym c.in_ok-spot.ensures.words)
    (slice_get_within c.number.new.self c.in_ok-n.n c.contents.result.now c.in_ok-n.ensures.found)

pub returns-clause-found : goal.returns-clause-found
returns-clause-found c = λ j. record {
  fields = (ap fields_of c.in_ok-spot.ensures.word ∙ c.word.ensures) j;
  words = (ap (λ k. get_or c.number.new.self k []) c.in_ok-spot.ensures.words
      ∙ get_or_from_slice_get c.number.new.self c.in_ok-n.n c.contents.result.now [] c.in_ok-n.ensures.found ∙ c.contents.ensures.value) j;
}
