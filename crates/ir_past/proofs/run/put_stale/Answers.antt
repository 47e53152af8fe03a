use Rattle.std.proofs.Common.{◌∙◌, length}
use Rattle.std.proofs.lemmas.Result.{err_from_is_err_and}
use Rattle.ir_files.proofs.CallerLemmas.{if_err_handed_on}
use Rattle.ir_past.specs.Lines.{count_line, row_lines}
use Rattle.ir_past.specs.declared.past_err.PastErr.TheVariants.{Write}
use Rattle.ir_past.proofs.Written.{writer_failed_in_text, failed_stops_after_part}
use Rattle.ir_past.proofs.run.put_stale.Goals as goal

pub returns-in_err-write_all-clause-fails : goal.returns-in_err-write_all-clause-fails
returns-in_err-write_all-clause-fails g c =
    let p = err_from_is_err_and c.from_residual-in_err-write_all.result c.from_residual-in_err-write_all.ensures.1 in
    if_err_handed_on _ c.from_residual-in_err-write_all.result Write p.0 p.1 p.2
    (writer_failed_in_text (g.O.Sink.written c.args.out.now) (g.O.Sink.written c.write_all.new.writer) _ c.as_bytes.result.now
    (count_line (length c.args.rows.now) c.args.writes) (row_lines c.args.rows.now)
    (c.as_bytes.ensures.value ∙ c.in_ok-first.ensures) c.in_err-write_all.ensures.prefix c.in_err-write_all.ensures.err)

pub returns-clause-fails : goal.returns-clause-fails
returns-clause-fails g c =
    failed_stops_after_part c.put_rows.result (g.O.Sink.written c.args.out.now) (g.O.Sink.written c.write_all.new.writer)
    (g.O.Sink.written c.put_rows.new.out) _ c.as_bytes.result.now (count_line (length c.args.rows.now) c.args.writes) (row_lines c.args.rows.now)
    (c.as_bytes.ensures.value ∙ c.in_ok-first.ensures) c.in_ok-write_all.ensures.ok c.put_rows.ensures.fails
