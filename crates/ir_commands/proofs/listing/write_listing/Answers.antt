use Rattle.std.proofs.Common.{◌∙◌, length}
use Rattle.std.proofs.lemmas.Result.{err_from_is_err_and}
use Rattle.ir_commands.specs.Listing.{header_line}
use Rattle.ir_past.specs.declared.past_err.PastErr.TheVariants.{Write}
use Rattle.ir_files.proofs.CallerLemmas.{if_err_handed_on}
use Rattle.ir_commands.proofs.Listed.{header_line_by_parts, stops_in_listing}
use Rattle.ir_past.proofs.CallerLemmas.{writer_failed_in_text}
use Rattle.ir_commands.proofs.listing.write_listing.Goals as goal

pub returns-in_err-write_all-clause-fails : goal.returns-in_err-write_all-clause-fails
returns-in_err-write_all-clause-fails g c =
    let p = err_from_is_err_and c.from_residual-in_err-write_all.result c.from_residual-in_err-write_all.ensures.1 in
    if_err_handed_on _ c.from_residual-in_err-write_all.result Write p.0 p.1 p.2
    (writer_failed_in_text (g.W.Sink.written c.args.out.now) (g.W.Sink.written c.write_all.new.writer) _ c.as_bytes.result.now
    (header_line (length c.args.trace.now.threads) c.args.trace.now.objects c.args.trace.now.budget c.args.trace.now.profile) _
    (c.as_bytes.ensures.value ∙ c.in_ok-header.ensures
    ∙ header_line_by_parts _ _ _ _ _ _ _ _ c.threads-threads.ensures.value c.objects.ensures.value c.budget.ensures.value c.profile.ensures)
    c.in_err-write_all.ensures.prefix c.in_err-write_all.ensures.err)

pub returns-clause-fails : goal.returns-clause-fails
returns-clause-fails g c =
    stops_in_listing c.put_threads.result (g.W.Sink.written c.args.out.now) (g.W.Sink.written c.write_all.new.writer)
    (g.W.Sink.written c.put_threads.new.out) _ c.as_bytes.result.now
    (header_line (length c.args.trace.now.threads) c.args.trace.now.objects c.args.trace.now.budget c.args.trace.now.profile) c.threads-threads.result.now _
    (c.as_bytes.ensures.value ∙ c.in_ok-header.ensures
    ∙ header_line_by_parts _ _ _ _ _ _ _ _ c.threads-threads.ensures.value c.objects.ensures.value c.budget.ensures.value c.profile.ensures)
    c.threads-threads.ensures.value c.in_ok-write_all.ensures.ok c.put_threads.ensures.fails
