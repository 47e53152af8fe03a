use Rattle.std.proofs.Common.{◌≡◌, List, length, sym, ap, subst, ◌∙◌, arith}
use Rattle.std.specs.Vec.{with_items}
use Rattle.std.proofs.lemmas.List.{with_items_is}
use Rattle.ir_who_word.specs.Track.{AreTracksBuilt, AreTracksSorted}
use Rattle.ir_who_word.specs.declared.track.Track.{Track}
use Rattle.ir_who_word.proofs.Built.{all_built_after_sorting}
use Rattle.ir_who_word.proofs.tracks.tracks.Goals as goal

pub returns-clause-built : goal.returns-clause-built
returns-clause-built c =
    let f = c.args.guide.route.fitted.now in
    let rows = c.args.guide.rows.now in
    let w = c.args.guide.word in
    let v = c.loop-row.tracks in
    let new = c.sort_all.new.tracks in
    let size : length new ≡ length v.items = c.sort_all.ensures.size ∙ ap (λ (xs : List Track). length xs) c.deref_mut-2.ensures.value in
    let items : (with_items v new).items ≡ new = with_items_is v new (size ∙ sym v.ok.0) in
    let all : c.loop-row.row ≡ length rows = (let a = c.loop-row-test.false in let b = c.loop-row.auto.row-end in omega (arith, a, b)) in
    subst (AreTracksBuilt f rows w (length rows)) (sym items)
    (all_built_after_sorting f rows w (length rows) v.items new (subst (λ n. AreTracksBuilt f rows w n v.items) all c.loop-row.invariant.built)
    (subst (λ (xs : List Track). AreTracksSorted xs new) c.deref_mut-2.ensures.value c.in_ok-sort_all.ensures.sorted) size)
