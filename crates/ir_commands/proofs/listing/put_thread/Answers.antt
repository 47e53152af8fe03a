use Rattle.std.proofs.Common.{◌∙◌}
use Rattle.std.proofs.lemmas.Result.{err_from_is_err_and}
use Rattle.ir_past.specs.declared.past_err.PastErr.TheVariants.{Write}
use Rattle.ir_files.proofs.CallerLemmas.{if_err_handed_on}
use Rattle.ir_commands.proofs.Listed.{failed_in_second_part, log_prefix_equal_events}
use Rattle.ir_past.proofs.CallerLemmas.{writer_failed_in_text}
use Rattle.ir_commands.proofs.listing.put_thread.Goals as goal

pub returns-in_err-write_all-clause-fails : goal.returns-in_err-write_all-clause-fails
returns-in_err-write_all-clause-fails g c =
    let p = err_from_is_err_and c.from_residual-in_err-write_all.result c.from_residual-in_err-write_all.ensures.1 in
    if_err_handed_on _ c.from_residual-in_err-write_all.result Write p.0 p.1 p.2
    (writer_failed_in_text (g.W.Sink.written c.args.out.now) (g.W.Sink.written c.write_all.new.writer) _ c.as_bytes.result.now _ _
    (c.as_bytes.ensures.value ∙ c.in_ok-line.ensures) c.in_err-write_all.ensures.prefix c.in_err-write_all.ensures.err)

pub returns-in_err-write_log-clause-fails : goal.returns-in_err-write_log-clause-fails
returns-in_err-write_log-clause-fails g c =
    let p = err_from_is_err_and c.from_residual-in_err-write_log.result c.from_residual-in_err-write_log.ensures.1 in
    if_err_handed_on _ c.from_residual-in_err-write_log.result Write p.0 p.1 p.2
    (failed_in_second_part (g.W.Sink.written c.args.out.now) (g.W.Sink.written c.write_all.new.writer) (g.W.Sink.written c.write_log.new.writer) _
    c.as_bytes.result.now _ _ (c.as_bytes.ensures.value ∙ c.in_ok-line.ensures) c.in_ok-write_all.ensures.ok
    (log_prefix_equal_events _ _ c.events-events.result.now _ (c.events-events.ensures.value ∙ c.log.ensures) c.in_err-write_log.ensures.prefix)
    c.in_err-write_log.ensures.err)
