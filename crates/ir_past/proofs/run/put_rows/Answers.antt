use Rattle.std.proofs.Common.{◌∙◌}
use Rattle.std.proofs.lemmas.Result.{err_from_is_err_and}
use Rattle.ir_files.proofs.CallerLemmas.{if_err_handed_on}
use Rattle.ir_past.specs.declared.past_err.PastErr.TheVariants.{NoMem, Write}
use Rattle.ir_past.proofs.Written.{row_lines_next, row_lines_past_end, written_after_line, none_left_is_appended, written_to_is_prefix, next_line_prefix}
use Rattle.ir_past.proofs.run.put_rows.Goals as goal

pub loop-row-preserved : goal.loop-row-preserved
loop-row-preserved g c = record {
  text = written_after_line _ _ _ _ c.as_bytes.result.now _ _ c.loop-row.invariant.text
      (row_lines_next c.loop-row.row-index c.args.rows.now _ c.as_bytes.result.now c.loop-row-test.true
      (c.as_bytes.ensures.value ∙ c.in_ok-line.ensures))
      c.in_ok-write_all.ensures.ok;
  works = c.in_ok-write_all.ensures.stays ∙ c.loop-row.invariant.works;
}

pub returns-in_err-line-clause-fails : goal.returns-in_err-line-clause-fails
returns-in_err-line-clause-fails g c =
    let p = err_from_is_err_and c.from_residual.result c.from_residual.ensures.1 in
    if_err_handed_on _ c.from_residual.result NoMem p.0 p.1 p.2 (written_to_is_prefix _ _ _ _ c.loop-row.invariant.text, c.loop-row.invariant.works)

pub returns-in_err-write_all-clause-fails : goal.returns-in_err-write_all-clause-fails
returns-in_err-write_all-clause-fails g c =
    let p = err_from_is_err_and c.from_residual-in_err-write_all.result c.from_residual-in_err-write_all.ensures.1 in
    if_err_handed_on _ c.from_residual-in_err-write_all.result Write p.0 p.1 p.2 (
      next_line_prefix _ _ _ _ c.as_bytes.result.now _ _ c.loop-row.invariant.text
          (row_lines_next c.loop-row.row-index c.args.rows.now _ c.as_bytes.result.now c.loop-row-test.true
          (c.as_bytes.ensures.value ∙ c.in_ok-line.ensures))
          c.in_err-write_all.ensures.prefix,
      c.in_err-write_all.ensures.err,
    )

pub returns-clause-ok : goal.returns-clause-ok
returns-clause-ok g c = none_left_is_appended _ _ _ _ c.loop-row.invariant.text (row_lines_past_end c.loop-row.row-index c.args.rows.now c.loop-row-test.false)
