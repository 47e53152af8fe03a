use Rattle.std.proofs.Common.{◌∙◌, ap, length, refl}
use Rattle.std.specs.Prelude.{None}
use Rattle.std.specs.List.{slice_index_or}
use Rattle.std.proofs.lemmas.Option.{slice_get-get_or}
use Rattle.ir_past.specs.Past.{write_count}
use Rattle.ir_past.specs.Lines.{count_line}
use Rattle.ir_past.specs.declared.stale_write.StaleWrite.{StaleWrite}
use Rattle.ir_stale_run.specs.Lines.{rows_kept}
use Rattle.ir_stale_run.proofs.Joined.{append_no_rest_lines, rest_lines_step}
use Rattle.ir_stale_run.proofs.lines.rests_text.Goals as goal

abbrev no_row : StaleWrite
no_row = record { thread = 0; event = 0; object = 0; written = 0; read = 0; version = 0; overwritten_by = record { thread = 0; event = 0 } }

pub loop-i-init : goal.loop-i-init
loop-i-init c = append_no_rest_lines c.args.fitted.now c.args.rows.now c.args.rests.now c.in_ok-text.text.items
    (count_line (rows_kept c.args.rests.now (length c.args.rests.now)) (write_count c.args.fitted.now.recorded))
    (c.in_ok-text.ensures.items ∙ c.as_bytes.ensures.value ∙ c.in_ok-first.ensures
    ∙ (λ i. count_line (c.kept_of.ensures.count i) ((c.write_count.ensures ∙ ap write_count c.trace.ensures.value) i)))

pub put_row-requires : goal.put_row-requires
put_row-requires c = record {
  row = c.requires.rows.sound c.loop-i.i (slice_index_or c.args.rows.now c.loop-i.i no_row) (slice_get-get_or c.args.rows.now c.loop-i.i no_row c.loop-i-test.true);
}

pub loop-i-preserved : goal.loop-i-preserved
loop-i-preserved c = rest_lines_step c.args.fitted.now c.args.rows.now c.args.rests.now c.loop-i.i (slice_index_or c.args.rows.now c.loop-i.i no_row)
    (slice_index_or c.args.rests.now c.loop-i.i None) c.loop-i.text.items c.put_row.new.text.items
    (count_line (rows_kept c.args.rests.now (length c.args.rests.now)) (write_count c.args.fitted.now.recorded))
    c.loop-i.invariant c.in_ok-put_row.ensures
    (slice_get-get_or c.args.rows.now c.loop-i.i no_row c.loop-i-test.true) refl
