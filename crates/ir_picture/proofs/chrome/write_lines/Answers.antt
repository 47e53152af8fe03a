use Rattle.std.proofs.Common.{◌≡◌, length, List, flat_map, refl, subst, sym, ap, ◌∙◌}
use Rattle.std.proofs.lemmas.Result.{err_from_is_err_and}
use Rattle.ir_files.proofs.CallerLemmas.{if_err_handed_on}
use Rattle.ir_past.specs.declared.past_err.PastErr.TheVariants.{NoMem}
use Rattle.ir_past.specs.Past.{IsRising}
use Rattle.ir_picture.specs.Chrome.{box_line, picture_slices, all_arrows, chrome_end}
use Rattle.ir_picture.specs.Progress.{AreBoxesOf}
use Rattle.ir_picture.specs.declared.placed_box.Point.{Point}
use Rattle.ir_picture.proofs.InPieces.{stops_in_second, stops_in_third, stops_in_last, four_texts_are_appended}
use Rattle.ir_picture.proofs.Texts.{four_parts_are_chrome}
use Rattle.ir_picture.proofs.chrome.write_lines.Goals as goal

pub chrome_head-requires : goal.chrome_head-requires
chrome_head-requires g c = ap (λ (ps : List Point). length ps) c.deref.ensures.value ∙ c.requires.of_trace.ends

pub write_slices-requires-clause-boxes : goal.write_slices-requires-clause-boxes
write_slices-requires-clause-boxes g c = subst (AreBoxesOf c.args.trace.now) (sym c.deref-2.ensures.value) c.requires.of_trace.boxes

pub write_slices-requires-clause-rising : goal.write_slices-requires-clause-rising
write_slices-requires-clause-rising g c = subst IsRising (sym c.deref-3.ensures.value) c.requires.of_trace.stale

pub returns-in_err-write_slices-clause-fails : goal.returns-in_err-write_slices-clause-fails
returns-in_err-write_slices-clause-fails g c =
    let p = err_from_is_err_and c.from_residual-in_err-write_slices.result c.from_residual-in_err-write_slices.ensures.1 in
    let e = c.in_err-write_slices.field-0.0 in
    let r = c.args.trace.now in
    if_err_handed_on _ c.from_residual-in_err-write_slices.result e p.0 p.1 p.2
    (stops_in_second e _ _ _ c.in_ok-text.text.items
    (flat_map (box_line r c.deref-3.result.now) c.deref-2.result.now) (all_arrows 0 c.args.sights.now) chrome_end _
    (four_parts_are_chrome r r c.args.near.now c.deref.result.now c.args.picture.now.ends.items c.args.sights.now c.in_ok-text.text.items
    (flat_map (box_line r c.deref-3.result.now) c.deref-2.result.now) (picture_slices r c.args.picture.now) chrome_end c.in_ok-text.ensures refl c.deref.ensures.value
    (λ i. flat_map (box_line r (c.deref-3.ensures.value i)) (c.deref-2.ensures.value i)) refl)
    c.in_err-write_slices.ensures.fails)

pub returns-in_err-write_arrows-clause-fails : goal.returns-in_err-write_arrows-clause-fails
returns-in_err-write_arrows-clause-fails g c =
    let p = err_from_is_err_and c.from_residual-in_err-write_arrows.result c.from_residual-in_err-write_arrows.ensures.1 in
    let e = c.in_err-write_arrows.field-0.0 in
    let r = c.args.trace.now in
    if_err_handed_on _ c.from_residual-in_err-write_arrows.result e p.0 p.1 p.2
    (stops_in_third e _ _ _ _ c.in_ok-text.text.items
    (flat_map (box_line r c.deref-3.result.now) c.deref-2.result.now) (all_arrows 0 c.args.sights.now) chrome_end _ _
    (four_parts_are_chrome r r c.args.near.now c.deref.result.now c.args.picture.now.ends.items c.args.sights.now c.in_ok-text.text.items
    (flat_map (box_line r c.deref-3.result.now) c.deref-2.result.now) (picture_slices r c.args.picture.now) chrome_end c.in_ok-text.ensures refl c.deref.ensures.value
    (λ i. flat_map (box_line r (c.deref-3.ensures.value i)) (c.deref-2.ensures.value i)) refl)
    c.in_ok-write_slices.ensures.ok c.in_err-write_arrows.ensures.fails)

pub returns-clause-ok : goal.returns-clause-ok
returns-clause-ok g c =
    let r = c.args.trace.now in
    four_texts_are_appended c.write_last.result _ _ _ _ c.in_ok-text.text.items
    (flat_map (box_line r c.deref-3.result.now) c.deref-2.result.now) (all_arrows 0 c.args.sights.now) c.as_bytes.result.now _ _ _
    (four_parts_are_chrome r r c.args.near.now c.deref.result.now c.args.picture.now.ends.items c.args.sights.now c.in_ok-text.text.items
    (flat_map (box_line r c.deref-3.result.now) c.deref-2.result.now) (picture_slices r c.args.picture.now) c.as_bytes.result.now c.in_ok-text.ensures refl
    c.deref.ensures.value (λ i. flat_map (box_line r (c.deref-3.ensures.value i)) (c.deref-2.ensures.value i)) (c.as_bytes.ensures.value ∙ c.chrome_end.ensures))
    c.in_ok-write_slices.ensures.ok c.in_ok-write_arrows.ensures.ok c.write_last.ensures.ok

pub returns-clause-fails : goal.returns-clause-fails
returns-clause-fails g c =
    let r = c.args.trace.now in
    stops_in_last c.write_last.result _ _ _ _ _ c.in_ok-text.text.items
    (flat_map (box_line r c.deref-3.result.now) c.deref-2.result.now) (all_arrows 0 c.args.sights.now) c.as_bytes.result.now _ _ _
    (four_parts_are_chrome r r c.args.near.now c.deref.result.now c.args.picture.now.ends.items c.args.sights.now c.in_ok-text.text.items
    (flat_map (box_line r c.deref-3.result.now) c.deref-2.result.now) (picture_slices r c.args.picture.now) c.as_bytes.result.now c.in_ok-text.ensures refl
    c.deref.ensures.value (λ i. flat_map (box_line r (c.deref-3.ensures.value i)) (c.deref-2.ensures.value i)) (c.as_bytes.ensures.value ∙ c.chrome_end.ensures))
    c.in_ok-write_slices.ensures.ok c.in_ok-write_arrows.ensures.ok c.write_last.ensures.fails
