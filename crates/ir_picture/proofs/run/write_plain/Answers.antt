use Rattle.std.proofs.lemmas.Result.{err_from_is_err_and}
use Rattle.ir_files.proofs.CallerLemmas.{if_err_handed_on}
use Rattle.ir_files.specs.declared.exit_status.ExitStatus.TheVariants.{Done}
use Rattle.ir_past.specs.declared.past_err.PastErr.TheVariants.{NoMem}
use Rattle.ir_past.proofs.CallerLemmas.{answered_if_written, no_memory_no_answer, not_answered_if_stopped}
use Rattle.ir_picture.specs.Answers.{IsForm}
use Rattle.ir_picture.specs.declared.asked.Form.TheVariants as form
use Rattle.ir_picture.proofs.ViewAnswers.{framed_rows_are_data}
use Rattle.ir_picture.proofs.run.write_plain.Goals as goal

pub returns-in_err-frame-clause-fails : goal.returns-in_err-frame-clause-fails
returns-in_err-frame-clause-fails g c =
    let p = err_from_is_err_and c.from_residual.result c.from_residual.ensures.1 in
    if_err_handed_on _ c.from_residual.result NoMem p.0 p.1 p.2
    (no_memory_no_answer (IsForm form.Data c.args.trace.now c.args.near.now c.args.picture.now) (g.O.Sink.written c.args.out.now)
    (g.O.Sink.broken c.args.out.now) c.requires.works)

pub returns-in_err-write_data-clause-fails : goal.returns-in_err-write_data-clause-fails
returns-in_err-write_data-clause-fails g c =
    let p = err_from_is_err_and c.from_residual-in_err-write_data.result c.from_residual-in_err-write_data.ensures.1 in
    let e = c.in_err-write_data.field-0.0 in
    if_err_handed_on _ c.from_residual-in_err-write_data.result e p.0 p.1 p.2
    (not_answered_if_stopped (IsForm form.Data c.args.trace.now c.args.near.now c.args.picture.now) Done _ e _
    (framed_rows_are_data c.args.trace.now c.args.near.now c.args.picture.now _ _ c.in_ok-frame.ensures.before c.in_ok-frame.ensures.after)
    c.in_err-write_data.ensures.fails)

pub returns-clause-ok : goal.returns-clause-ok
returns-clause-ok g c =
    answered_if_written (IsForm form.Data c.args.trace.now c.args.near.now c.args.picture.now) Done (g.O.Sink.written c.args.out.now)
    (g.O.Sink.written c.write_data.new.out) (g.O.Sink.broken c.write_data.new.out) _
    (framed_rows_are_data c.args.trace.now c.args.near.now c.args.picture.now _ _ c.in_ok-frame.ensures.before c.in_ok-frame.ensures.after)
    c.in_ok-write_data.ensures.ok c.in_ok-write_data.ensures.works
