use Rattle.std.proofs.Common.{refl, sym, subst}
use Rattle.std.proofs.lemmas.Result.{err_from_is_err_and}
use Rattle.ir_files.specs.declared.exit_status.ExitStatus.TheVariants.{Done}
use Rattle.ir_files.proofs.CallerLemmas.{if_err_handed_on}
use Rattle.ir_past.proofs.CallerLemmas.{not_answered_if_stopped}
use Rattle.ir_past.specs.Replies.{IsDoneWith}
use Rattle.ir_past.specs.declared.ask_err.AskErr.TheVariants.{Unwritten}
use Rattle.ir_monitor.specs.Events.{AreEventsSaid}
use Rattle.ir_monitor.proofs.events.EventsQuestionRunQuestion.print.Goals as goal

pub returns-in_err-put_bytes-clause-fails : goal.returns-in_err-put_bytes-clause-fails
returns-in_err-put_bytes-clause-fails g c =
    let p = err_from_is_err_and c.from_residual-in_err-put_bytes.result c.from_residual-in_err-put_bytes.ensures.1 in
    let e = c.in_err-put_bytes.field-0.0 in
    if_err_handed_on _ c.from_residual-in_err-put_bytes.result (Unwritten e) p.0 p.1 p.2
    (not_answered_if_stopped (IsDoneWith (AreEventsSaid c.args.self.now.thread c.args.fitted.now)) Done c.as_slice.result.now e _
    (refl, subst (AreEventsSaid c.args.self.now.thread c.args.fitted.now) (sym c.as_slice.ensures.value) c.in_ok-text.ensures.ok) c.in_err-put_bytes.ensures.fails)
