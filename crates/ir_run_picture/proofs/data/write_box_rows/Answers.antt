use Rattle.std.proofs.Common.{◌∙◌}
use Rattle.std.proofs.lemmas.Option.{slice_get-get_or}
use Rattle.std.proofs.lemmas.Result.{err_from_is_err_and}
use Rattle.ir_files.proofs.CallerLemmas.{if_err_handed_on}
use Rattle.ir_past.specs.declared.past_err.PastErr.TheVariants.{NoMem, Write}
use Rattle.ir_run_picture.specs.Numbers.{drawn_row}
use Rattle.ir_picture.proofs.CallerLemmas.{buffered_after_line, buffered_after_piece, buffered_is_prefix, only_held_is_unwritten, rows_begin_with_line, rows_from_past_end}
use Rattle.ir_text.proofs.CallerLemmas.{prefix_by_failed_write}
use Rattle.ir_run_picture.proofs.data.write_box_rows.Goals as goal

pub returns-in_err-write_piece-clause-fails : goal.returns-in_err-write_piece-clause-fails
returns-in_err-write_piece-clause-fails g c =
    let p = err_from_is_err_and c.from_residual.result c.from_residual.ensures.1 in
    if_err_handed_on _ c.from_residual.result Write p.0 p.1 p.2
    (prefix_by_failed_write _ _ _ _ _ _ c.loop-number.invariant.text c.in_err-write_piece.ensures.prefix, c.in_err-write_piece.ensures.err)

pub returns-in_err-push_drawn_row-clause-fails : goal.returns-in_err-push_drawn_row-clause-fails
returns-in_err-push_drawn_row-clause-fails g c =
    let p = err_from_is_err_and c.from_residual-in_err-push_drawn_row.result c.from_residual-in_err-push_drawn_row.ensures.1 in
    if_err_handed_on _ c.from_residual-in_err-push_drawn_row.result NoMem p.0 p.1 p.2 (
      buffered_is_prefix _ _ _ _ (buffered_after_piece _ _ _ _ _ _ _ c.loop-number.invariant.text c.in_ok-write_piece.ensures.ok),
      c.in_ok-write_piece.ensures.stays ∙ c.loop-number.invariant.works,
    )

pub loop-number-preserved : goal.loop-number-preserved
loop-number-preserved g c = record {
  text = buffered_after_line _ _ _ _ _ _ _ _ _ _ c.loop-number.invariant.text c.in_ok-write_piece.ensures.ok
      (rows_begin_with_line (drawn_row c.args.fitted.now) c.loop-number.number c.args.drawn.now _ c.loop-number-test.true) c.in_ok-push_drawn_row.ensures;
  works = c.in_ok-write_piece.ensures.stays ∙ c.loop-number.invariant.works;
}

pub returns-clause-ok : goal.returns-clause-ok
returns-clause-ok g c = only_held_is_unwritten _ _ _ _ _ c.loop-number.invariant.text
    (rows_from_past_end (drawn_row c.args.fitted.now) c.loop-number.number c.loop-number.number c.args.drawn.now c.loop-number-test.false)

pub push_drawn_row-requires : goal.push_drawn_row-requires
push_drawn_row-requires g c =
    c.requires.boxes c.loop-number.number _ (slice_get-get_or c.args.drawn.now c.loop-number.number _ c.loop-number-test.true)
