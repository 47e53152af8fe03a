use Rattle.std.proofs.Common.{None, refl, sym, ap, ◌∙◌}
use Rattle.std.specs.List.{slice_index_or}
use Rattle.std.proofs.lemmas.Option.{slice_get-get_or}
use Rattle.ir_who.specs.declared.version.Version.{Version}
use Rattle.ir_who_word.specs.declared.worded.Worded.{Worded}
use Rattle.ir_who_word.proofs.Built.{some_version_injective}
use Rattle.ir_who_word.proofs.Noted.{left_hold_is_worded, adds_words_after_found}
use Rattle.ir_who_word.proofs.noting.note.Goals as goal

pub returns : goal.returns
returns c = record {
  words = λ t from way of here low put.
      let f = c.args.guide.route.fitted.now in
      let rows = c.args.guide.rows.now in
      let w = c.args.guide.word in
      let h = c.args.hold in
      let none : Version = record { made_by = None; readers = 0 } in
      let d : Worded = record { made_by = (slice_index_or rows h.row none).made_by; word = c.word_at.result; step = c.put_past-step.result } in
      adds_words_after_found f rows w c.args.words.now _ h.row d c.requires.size refl
      (λ x there. left_hold_is_worded f rows w c.args.state.now t h d way.stands of here c.word_at.ensures (c.put_past-step.ensures f w t from h.leave low put)
      x there (ap (λ (z : Version). z.made_by)
      (some_version_injective (slice_index_or rows h.row none) x (sym (slice_get-get_or rows h.row none c.requires.row) ∙ there))));
}
