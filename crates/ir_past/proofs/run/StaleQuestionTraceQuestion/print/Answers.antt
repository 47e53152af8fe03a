use Rattle.std.proofs.Common.{sym, subst}
use Rattle.std.proofs.lemmas.Result.{err_from_is_err_and}
use Rattle.ir_files.proofs.CallerLemmas.{if_err_handed_on}
use Rattle.ir_files.specs.declared.exit_status.ExitStatus.TheVariants.{Done}
use Rattle.ir_past.specs.Past.{AreStaleWrites}
use Rattle.ir_past.specs.Lines.{stale_text, IsStaleAnswer}
use Rattle.ir_past.specs.Replies.{IsDoneWith}
use Rattle.ir_past.specs.declared.ask_err.AskErr.TheVariants.{Unwritten}
use Rattle.ir_past.specs.declared.past_err.PastErr.TheVariants.{NoMem}
use Rattle.ir_past.proofs.Shown.{answered_if_written, no_memory_no_answer, not_answered_if_stopped, stale_text_is_answer}
use Rattle.ir_past.proofs.run.StaleQuestionTraceQuestion.print.Goals as goal

pub returns-in_err-rows-clause-fails : goal.returns-in_err-rows-clause-fails
returns-in_err-rows-clause-fails g c =
    let p = err_from_is_err_and c.from_residual.result c.from_residual.ensures.1 in
    if_err_handed_on _ c.from_residual.result (Unwritten NoMem) p.0 p.1 p.2
    (no_memory_no_answer (IsDoneWith (IsStaleAnswer c.args.trace.now)) (g.O.Sink.written c.args.out.now) (g.O.Sink.broken c.args.out.now) c.requires.works)

pub returns-in_err-put_stale-clause-fails : goal.returns-in_err-put_stale-clause-fails
returns-in_err-put_stale-clause-fails g c =
    let p = err_from_is_err_and c.from_residual-in_err-put_stale.result c.from_residual-in_err-put_stale.ensures.1 in
    if_err_handed_on _ c.from_residual-in_err-put_stale.result (Unwritten c.in_err-put_stale.field-0.0) p.0 p.1 p.2
    (not_answered_if_stopped (IsDoneWith (IsStaleAnswer c.args.trace.now)) Done (stale_text c.write_count.result c.as_slice.result.now)
    c.in_err-put_stale.field-0.0 _
    (stale_text_is_answer c.args.trace.now c.as_slice.result.now c.write_count.result
    (subst (AreStaleWrites c.args.trace.now) (sym c.as_slice.ensures.value) c.in_ok-rows.ensures) c.write_count.ensures)
    c.in_err-put_stale.ensures.fails)

pub returns-clause-ok : goal.returns-clause-ok
returns-clause-ok g c =
    answered_if_written (IsDoneWith (IsStaleAnswer c.args.trace.now)) Done (g.O.Sink.written c.args.out.now) (g.O.Sink.written c.put_stale.new.out)
    (g.O.Sink.broken c.put_stale.new.out) (stale_text c.write_count.result c.as_slice.result.now)
    (stale_text_is_answer c.args.trace.now c.as_slice.result.now c.write_count.result
    (subst (AreStaleWrites c.args.trace.now) (sym c.as_slice.ensures.value) c.in_ok-rows.ensures) c.write_count.ensures)
    c.in_ok-put_stale.ensures.ok c.in_ok-put_stale.ensures.works
