use Rattle.std.proofs.Common.{◌++◌, refl}
use Rattle.std.proofs.lemmas.Result.{err_from_is_err_and}
use Rattle.ir_files.proofs.CallerLemmas.{if_err_handed_on}
use Rattle.ir_past.specs.declared.past_err.PastErr.TheVariants.{NoMem}
use Rattle.ir_picture.specs.Numbers.{rows_from}
use Rattle.ir_picture.specs.Progress.{stale_head}
use Rattle.ir_picture.proofs.CallerLemmas.{buffered_at_start, buffered_is_prefix, stops_in_second, stops_in_third, stops_in_last, four_texts_are_appended}
use Rattle.ir_run_picture.specs.Numbers.{drawn_row, resting_row}
use Rattle.ir_run_picture.proofs.Lasts.{drawn_are_trace_boxes}
use Rattle.ir_run_picture.proofs.Shown.{framed_parts_are_rows}
use Rattle.ir_run_picture.proofs.data.write_data.Goals as goal

pub write_box_rows-requires-clause-boxes : goal.write_box_rows-requires-clause-boxes
write_box_rows-requires-clause-boxes g c = drawn_are_trace_boxes c.args.view.fitted.now c.args.view.picture.now.boxes.items c.args.view.drawn.now
    c.requires.of_trace.boxes c.requires.drawn

pub returns-in_err-text-clause-fails : goal.returns-in_err-text-clause-fails
returns-in_err-text-clause-fails g c =
    let p = err_from_is_err_and c.from_residual.result c.from_residual.ensures.1 in
    if_err_handed_on _ c.from_residual.result NoMem p.0 p.1 p.2 (buffered_is_prefix _ _ _ _ (buffered_at_start _ _), c.requires.works)

pub returns-in_err-write_box_rows-clause-fails : goal.returns-in_err-write_box_rows-clause-fails
returns-in_err-write_box_rows-clause-fails g c =
    let p = err_from_is_err_and c.from_residual-in_err-write_box_rows.result c.from_residual-in_err-write_box_rows.ensures.1 in
    let e = c.in_err-write_box_rows.field-0.0 in
    let v = c.args.view in
    let after = c.args.frame.now.after.items in
    if_err_handed_on _ c.from_residual-in_err-write_box_rows.result e p.0 p.1 p.2
    (stops_in_second e _ _ _ c.in_ok-text.text.items (rows_from (drawn_row v.fitted.now) 0 v.drawn.now) (stale_head ++ rows_from resting_row 0 v.kept.now)
    after _
    (framed_parts_are_rows v.fitted.now v.near.now v.picture.now v.drawn.now v.kept.now c.deref-2.result.now c.in_ok-text.text.items after
    c.args.frame.now.before.items after c.trace-trace.result.now c.deref.result.now c.in_ok-text.ensures c.deref-2.ensures.value c.trace-trace.ensures.value
    c.deref.ensures.value refl)
    c.in_err-write_box_rows.ensures.fails)

pub returns-in_err-write_stale-clause-fails : goal.returns-in_err-write_stale-clause-fails
returns-in_err-write_stale-clause-fails g c =
    let p = err_from_is_err_and c.from_residual-in_err-write_stale.result c.from_residual-in_err-write_stale.ensures.1 in
    let e = c.in_err-write_stale.field-0.0 in
    let v = c.args.view in
    let after = c.args.frame.now.after.items in
    if_err_handed_on _ c.from_residual-in_err-write_stale.result e p.0 p.1 p.2
    (stops_in_third e _ _ _ _ c.in_ok-text.text.items (rows_from (drawn_row v.fitted.now) 0 v.drawn.now)
    (stale_head ++ rows_from resting_row 0 v.kept.now) after _ _
    (framed_parts_are_rows v.fitted.now v.near.now v.picture.now v.drawn.now v.kept.now c.deref-2.result.now c.in_ok-text.text.items after
    c.args.frame.now.before.items after c.trace-trace.result.now c.deref.result.now c.in_ok-text.ensures c.deref-2.ensures.value c.trace-trace.ensures.value
    c.deref.ensures.value refl)
    c.in_ok-write_box_rows.ensures.ok c.in_err-write_stale.ensures.fails)

pub returns-clause-ok : goal.returns-clause-ok
returns-clause-ok g c =
    let v = c.args.view in
    four_texts_are_appended c.write_last.result _ _ _ _ c.in_ok-text.text.items (rows_from (drawn_row v.fitted.now) 0 v.drawn.now)
    (stale_head ++ rows_from resting_row 0 v.kept.now) c.deref-3.result.now _ _ _
    (framed_parts_are_rows v.fitted.now v.near.now v.picture.now v.drawn.now v.kept.now c.deref-2.result.now c.in_ok-text.text.items c.deref-3.result.now
    c.args.frame.now.before.items c.args.frame.now.after.items c.trace-trace.result.now c.deref.result.now c.in_ok-text.ensures c.deref-2.ensures.value
    c.trace-trace.ensures.value c.deref.ensures.value c.deref-3.ensures.value)
    c.in_ok-write_box_rows.ensures.ok c.in_ok-write_stale.ensures.ok c.write_last.ensures.ok

pub returns-clause-fails : goal.returns-clause-fails
returns-clause-fails g c =
    let v = c.args.view in
    stops_in_last c.write_last.result _ _ _ _ _ c.in_ok-text.text.items (rows_from (drawn_row v.fitted.now) 0 v.drawn.now)
    (stale_head ++ rows_from resting_row 0 v.kept.now) c.deref-3.result.now _ _ _
    (framed_parts_are_rows v.fitted.now v.near.now v.picture.now v.drawn.now v.kept.now c.deref-2.result.now c.in_ok-text.text.items c.deref-3.result.now
    c.args.frame.now.before.items c.args.frame.now.after.items c.trace-trace.result.now c.deref.result.now c.in_ok-text.ensures c.deref-2.ensures.value
    c.trace-trace.ensures.value c.deref.ensures.value c.deref-3.ensures.value)
    c.in_ok-write_box_rows.ensures.ok c.in_ok-write_stale.ensures.ok c.write_last.ensures.fails
