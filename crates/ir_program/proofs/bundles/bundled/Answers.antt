use Rattle.std.proofs.Common.{refl, Ok, Err, ap, ◌∙◌}
use Rattle.ir_debug.specs.declared.ended.SessionErr.{SessionErr}
use Rattle.ir_debug.specs.declared.ended.SessionErr.TheVariants as err
use Rattle.ir_program.specs.Leaving.{Came, CameWhole, CameInPart, session_fault}
use Rattle.std.proofs.lemmas.Result.{err_from_is_err_and}
use Rattle.ir_files.proofs.CallerLemmas.{if_err_handed_on}
use Rattle.ir_program.proofs.TakenLines.{leaves_at_image_line, leaves_at_trace_line, leaves_if_session_fails, serves_after_both_lines, bundled_of_equal_bytes}
use Rattle.ir_program.proofs.bundles.bundled.Goals as goal

pub returns-in_err-image-clause-fault : goal.returns-in_err-image-clause-fault
returns-in_err-image-clause-fault g c =
    let p = err_from_is_err_and c.from_residual.result c.from_residual.ensures.1 in
    if_err_handed_on _ c.from_residual.result c.in_err-image.field-0.0 p.0 p.1 p.2
    (leaves_at_image_line c.in_err-image.field-0.0 _ _ _ _ _ c.requires.writes refl c.in_err-image.ensures.fails)

pub returns-in_err-trace-clause-fault : goal.returns-in_err-trace-clause-fault
returns-in_err-trace-clause-fault g c =
    let p = err_from_is_err_and c.from_residual-in_err-trace.result c.from_residual-in_err-trace.ensures.1 in
    if_err_handed_on _ c.from_residual-in_err-trace.result c.in_err-trace.field-0.0 p.0 p.1 p.2
    (leaves_at_trace_line c.in_err-trace.field-0.0 _ _ _ _ _ _ c.in_ok-image.image.items c.requires.writes refl c.in_ok-image.ensures.ok
    c.in_err-trace.ensures.fails)

pub returns-in_err-ended-clause-fault : goal.returns-in_err-ended-clause-fault
returns-in_err-ended-clause-fault g c =
    let e = c.in_err-ended.field-0.0 in
    let p = err_from_is_err_and c.from_residual-in_err-ended.result c.from_residual-in_err-ended.ensures.1 in
    if_err_handed_on _ c.from_residual-in_err-ended.result (session_fault e) p.0 p.1 p.2
    (leaves_if_session_fails e _ _ _
    (λ is. let h = c.in_err-ended.ensures.no_memory (ap (λ (x : SessionErr). Err x) is) in
    (ap g.R.Source.broken h.0 ∙ c.in_ok-trace.ensures.stays, h.1))
    (λ is. let h = c.in_err-ended.ensures.read (ap (λ (x : SessionErr). Err x) is) in (
      h.0,
      h.1,
      serves_after_both_lines (g.R.Source.left c.args.reader.now) (g.R.Source.left c.next_bytes.new.reader) (g.R.Source.left c.next_bytes-2.new.reader)
          (g.R.Source.left c.session.new.reader)
          c.in_ok-image.image.items c.in_ok-trace.trace.items c.as_slice-image.result.now c.as_slice-trace.result.now
          (CameWhole (g.W.Sink.written c.args.writer.now) (g.W.Sink.written c.session.new.writer))
          c.in_ok-image.ensures.ok c.in_ok-trace.ensures.ok c.as_slice-image.ensures.value c.as_slice-trace.ensures.value h.2,
    ))
    (λ is. let h = c.in_err-ended.ensures.write (ap (λ (x : SessionErr). Err x) is) in (
      h.0,
      h.1,
      serves_after_both_lines (g.R.Source.left c.args.reader.now) (g.R.Source.left c.next_bytes.new.reader) (g.R.Source.left c.next_bytes-2.new.reader)
          (g.R.Source.left c.session.new.reader)
          c.in_ok-image.image.items c.in_ok-trace.trace.items c.as_slice-image.result.now c.as_slice-trace.result.now
          (CameInPart (g.R.Source.left c.session.new.reader) (g.W.Sink.written c.args.writer.now) (g.W.Sink.written c.session.new.writer))
          c.in_ok-image.ensures.ok c.in_ok-trace.ensures.ok c.as_slice-image.ensures.value c.as_slice-trace.ensures.value h.2,
    ))
    (λ is. record {
      reads = (rw is at c.in_err-ended.ensures.works).0;
      writes = (rw is at c.in_err-ended.ensures.works).1;
      known = bundled_of_equal_bytes (g.R.Source.left c.args.reader.now) (g.R.Source.left c.next_bytes.new.reader)
          (g.R.Source.left c.next_bytes-2.new.reader) _ _
          c.in_ok-image.image.items c.in_ok-trace.trace.items c.as_slice-image.result.now c.as_slice-trace.result.now _ c.in_ok-image.ensures.ok
          c.in_ok-trace.ensures.ok c.as_slice-image.ensures.value c.as_slice-trace.ensures.value (rw is at c.in_err-ended.ensures.known);
      served = serves_after_both_lines (g.R.Source.left c.args.reader.now) (g.R.Source.left c.next_bytes.new.reader)
          (g.R.Source.left c.next_bytes-2.new.reader) (g.R.Source.left c.session.new.reader)
          c.in_ok-image.image.items c.in_ok-trace.trace.items c.as_slice-image.result.now c.as_slice-trace.result.now
          (Came (Err err.TooLong) (g.W.Sink.written c.args.writer.now) (g.W.Sink.written c.session.new.writer))
          c.in_ok-image.ensures.ok c.in_ok-trace.ensures.ok c.as_slice-image.ensures.value c.as_slice-trace.ensures.value
          (rw is at c.in_err-ended.ensures.ended);
    }))

pub returns-clause-ok : goal.returns-clause-ok
returns-clause-ok g c = record {
  reads = c.in_ok-ended.ensures.works.0;
  writes = c.in_ok-ended.ensures.works.1;
  known = bundled_of_equal_bytes (g.R.Source.left c.args.reader.now) (g.R.Source.left c.next_bytes.new.reader)
      (g.R.Source.left c.next_bytes-2.new.reader) _ _
      c.in_ok-image.image.items c.in_ok-trace.trace.items c.as_slice-image.result.now c.as_slice-trace.result.now _ c.in_ok-image.ensures.ok
      c.in_ok-trace.ensures.ok c.as_slice-image.ensures.value c.as_slice-trace.ensures.value c.in_ok-ended.ensures.known;
  served = serves_after_both_lines (g.R.Source.left c.args.reader.now) (g.R.Source.left c.next_bytes.new.reader) (g.R.Source.left c.next_bytes-2.new.reader)
      (g.R.Source.left c.session.new.reader)
      c.in_ok-image.image.items c.in_ok-trace.trace.items c.as_slice-image.result.now c.as_slice-trace.result.now
      (Came (Ok c.in_ok-ended.ended) (g.W.Sink.written c.args.writer.now) (g.W.Sink.written c.session.new.writer))
      c.in_ok-image.ensures.ok c.in_ok-trace.ensures.ok c.as_slice-image.ensures.value c.as_slice-trace.ensures.value c.in_ok-ended.ensures.ended;
}
