use Rattle.std.proofs.Common.{◌≡◌, ◌∙◌, List, length, sym, subst}
use Rattle.std.specs.Vec.{with_items}
use Rattle.std.proofs.lemmas.List.{with_items_is}
use Rattle.ir_weave.specs.Standing.{flat_in, positions}
use Rattle.ir_opened.specs.Paired.{ArePaired}
use Rattle.ir_who_word.specs.Words.{IsWorded}
use Rattle.ir_who_word.specs.Track.{AreTracked}
use Rattle.ir_who_word.specs.declared.track.Track.{Track}
use Rattle.ir_who_word.specs.declared.worded.Worded.{Worded}
use Rattle.ir_who_word.proofs.Built.{track_at_start_if_built, built_versions_are_found}
use Rattle.ir_who_word.proofs.walk.words.Goals as goal

pub walk-requires-clause-tracked : goal.walk-requires-clause-tracked
walk-requires-clause-tracked c =
    let f = c.args.fitted.now in
    let rows = c.args.rows.now in
    let w = c.args.word in
    let s = c.in_ok-state.state in
    subst (λ (z : List Track × List Worded). AreTracked f rows w s z.0 z.1)
    (λ i. (sym c.deref_mut.ensures.value i, sym c.deref_mut-2.ensures.value i))
    (record {
      each = λ t d l. let is = c.in_ok-tracks.ensures.built t d l in (
        track_at_start_if_built f rows w t (positions (flat_in f s) t) _ is (c.in_ok-tracks.ensures.sorted t d l) (c.in_ok-state.ensures.below (λ u. 0) t),
        built_versions_are_found f rows w c.in_ok-words.words.items t _ is,
      );
      first = c.in_ok-words.ensures.first;
    })

pub returns : goal.returns
returns c =
    let v = c.in_ok-words.words in
    let new = c.walk.new.words in
    let is = c.walk.ensures in
    let size : length new ≡ length v.items = is.size ∙ sym c.in_ok-words.ensures.size in
    let items : (with_items v new).items ≡ new = with_items_is v new (size ∙ sym v.ok.0) in
    subst (ArePaired (IsWorded c.args.fitted.now c.args.word) c.args.rows.now) (sym items) is
