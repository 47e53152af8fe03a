use Rattle.std.proofs.Common.{[], refl, sym, ap, ◌∙◌, subst}
use Rattle.std.specs.Prelude.{IfOk, IfSome, Result}
use Rattle.ir_stream.specs.Answers.{ReadsUpTo}
use Rattle.ir_debug.specs.declared.ended.Ended.{Ended}
use Rattle.ir_debug.specs.declared.ended.Ended.TheVariants.{ImageRefused, TraceRefused, NotFit}
use Rattle.ir_debug.specs.declared.ended.SessionErr.{SessionErr}
use Rattle.ir_debug.specs.Openings.{opening_of}
use Rattle.ir_debug.specs.Session.{ReadsThrough}
use Rattle.ir_debug.specs.Machine as opening
use Rattle.ir_debug.proofs.Openings.{opening_answered_part, reads_up_to_unchanged, if_some_if_each_holds, refused_session}
use Rattle.ir_debug.proofs.Openings.{reads_up_to_of_implied, if_some_of_implied, opens_ready_desk, appends_ready_opening}
use Rattle.ir_debug.proofs.Openings.{read_end_is_read_fault, write_end_is_fault, lines_lead_to_session, ready_transcript}
use Rattle.ir_debug.proofs.Openings.{part_answered_is_written}
use Rattle.ir_debug.proofs.sessions.session_up_to.Goals as goal

pub returns-in-Err-clause-write : goal.returns-in-Err-clause-write
returns-in-Err-clause-write g c = λ e.
    (c.requires.reads, c.in-Err.ensures.err, opening_answered_part _ _ _ c.args.limit _ _ _ c.in-Ok.ensures c.in-Err.ensures.prefix)

pub returns-in-ImageRefused-clause-ended : goal.returns-in-ImageRefused-clause-ended
returns-in-ImageRefused-clause-ended g c =
    reads_up_to_unchanged c.args.limit (g.R.Source.left c.args.reader.now) _
    (refused_session c.args.image.now c.args.trace.now _ (opening.ImageRefused c.in-ImageRefused._error) c.args.limit _
    (g.W.Sink.written c.args.writer.now) (g.W.Sink.written c.announce.new.writer) (ap opening_of c.in-ImageRefused.is) (λ lines. (refl, refl))
    (λ input. refl) c.in-Ok.ensures c.in-Ok-announce.ensures.ok [])

pub returns-in-ImageRefused-clause-known : goal.returns-in-ImageRefused-clause-known
returns-in-ImageRefused-clause-known g c =
    if_some_if_each_holds (g.R.Source.left c.args.reader.now) _
    (refused_session c.args.image.now c.args.trace.now _ (opening.ImageRefused c.in-ImageRefused._error) c.args.limit _
    (g.W.Sink.written c.args.writer.now) (g.W.Sink.written c.announce.new.writer) (ap opening_of c.in-ImageRefused.is) (λ lines. (refl, refl))
    (λ input. refl) c.in-Ok.ensures c.in-Ok-announce.ensures.ok)

pub returns-in-TraceRefused-clause-ended : goal.returns-in-TraceRefused-clause-ended
returns-in-TraceRefused-clause-ended g c =
    reads_up_to_unchanged c.args.limit (g.R.Source.left c.args.reader.now) _
    (refused_session c.args.image.now c.args.trace.now _ (opening.TraceRefused c.in-TraceRefused._error) c.args.limit _
    (g.W.Sink.written c.args.writer.now) (g.W.Sink.written c.announce.new.writer) (ap opening_of c.in-TraceRefused.is) (λ lines. (refl, refl))
    (λ input. refl) c.in-Ok.ensures c.in-Ok-announce.ensures.ok [])

pub returns-in-TraceRefused-clause-known : goal.returns-in-TraceRefused-clause-known
returns-in-TraceRefused-clause-known g c =
    if_some_if_each_holds (g.R.Source.left c.args.reader.now) _
    (refused_session c.args.image.now c.args.trace.now _ (opening.TraceRefused c.in-TraceRefused._error) c.args.limit _
    (g.W.Sink.written c.args.writer.now) (g.W.Sink.written c.announce.new.writer) (ap opening_of c.in-TraceRefused.is) (λ lines. (refl, refl))
    (λ input. refl) c.in-Ok.ensures c.in-Ok-announce.ensures.ok)

pub returns-in-Unfit-clause-ended : goal.returns-in-Unfit-clause-ended
returns-in-Unfit-clause-ended g c =
    reads_up_to_unchanged c.args.limit (g.R.Source.left c.args.reader.now) _
    (refused_session c.args.image.now c.args.trace.now _ (opening.Unfit c.in-Unfit._verdict) c.args.limit _
    (g.W.Sink.written c.args.writer.now) (g.W.Sink.written c.announce.new.writer) (ap opening_of c.in-Unfit.is) (λ lines. (refl, refl))
    (λ input. refl) c.in-Ok.ensures c.in-Ok-announce.ensures.ok [])

pub returns-in-Unfit-clause-known : goal.returns-in-Unfit-clause-known
returns-in-Unfit-clause-known g c = if_some_if_each_holds (g.R.Source.left c.args.reader.now) _ (refused_session c.args.image.now c.args.trace.now _ (opening.Unfit c.in-Unfit._verdict) c.args.limit _
    (g.W.Sink.written c.args.writer.now) (g.W.Sink.written c.announce.new.writer) (ap opening_of c.in-Unfit.is) (λ lines. (refl, refl))
    (λ input. refl) c.in-Ok.ensures c.in-Ok-announce.ensures.ok)

pub returns-in-Ready-clause-ended : goal.returns-in-Ready-clause-ended
returns-in-Ready-clause-ended g c =
    lines_lead_to_session (ReadsUpTo c.args.limit (g.R.Source.left c.args.reader.now) (g.R.Source.left c.serve.new.reader)) (reads_up_to_of_implied _ _ _) _ _ _ c.args.limit
    _ _ _ _ _ c.ended.ensures (opens_ready_desk _ _ _ _ c.in-Ready.is c.in-Ok.ensures)
    (appends_ready_opening _ _ _ _ c.in-Ready.is c.in-Ok-announce.ensures.ok) c.serve.ensures.ended

pub returns-in-Ready-clause-known : goal.returns-in-Ready-clause-known
returns-in-Ready-clause-known g c =
    lines_lead_to_session (IfSome (g.R.Source.left c.args.reader.now)) (if_some_of_implied _) _ _ _ c.args.limit _ _ _ _ _ c.ended.ensures
    (opens_ready_desk _ _ _ _ c.in-Ready.is c.in-Ok.ensures) (appends_ready_opening _ _ _ _ c.in-Ready.is c.in-Ok-announce.ensures.ok)
    c.serve.ensures.known

pub returns-in-Ready-clause-read : goal.returns-in-Ready-clause-read
returns-in-Ready-clause-read g c = λ e.
    let r = c.serve.ensures.read (read_end_is_read_fault c.serve.result (sym c.ended.ensures ∙ e)) in (
      r.0,
      r.1,
      reads_up_to_of_implied c.args.limit _ _ _ _ (λ consumed p. record {
        goes = p.0;
        transcript = ready_transcript _ _ _ _ _ _ _ (opens_ready_desk _ _ _ _ c.in-Ready.is c.in-Ok.ensures)
            (appends_ready_opening _ _ _ _ c.in-Ready.is c.in-Ok-announce.ensures.ok) p.1;
      }) r.2,
    )

pub returns-in-Ready-clause-write : goal.returns-in-Ready-clause-write
returns-in-Ready-clause-write g c = λ e.
    let r = c.serve.ensures.write (write_end_is_fault c.serve.result (sym c.ended.ensures ∙ e)) in (
      r.0,
      r.1,
      reads_up_to_of_implied c.args.limit _ _ _ _ (λ consumed p. record {
        goes = p.0;
        ended = p.1;
        wrote = part_answered_is_written _ _ _ _ _ _ _ (opens_ready_desk _ _ _ _ c.in-Ready.is c.in-Ok.ensures)
            (appends_ready_opening _ _ _ _ c.in-Ready.is c.in-Ok-announce.ensures.ok) p.2;
      }) r.2,
    )

pub returns-in-ImageRefused-clause-last : goal.returns-in-ImageRefused-clause-last
returns-in-ImageRefused-clause-last g c = reads_up_to_unchanged c.args.limit (g.R.Source.left c.args.reader.now)
    (ReadsThrough ImageRefused (g.R.Source.left c.args.reader.now)) tt

pub returns-in-TraceRefused-clause-last : goal.returns-in-TraceRefused-clause-last
returns-in-TraceRefused-clause-last g c = reads_up_to_unchanged c.args.limit (g.R.Source.left c.args.reader.now)
    (ReadsThrough TraceRefused (g.R.Source.left c.args.reader.now)) tt

pub returns-in-Unfit-clause-last : goal.returns-in-Unfit-clause-last
returns-in-Unfit-clause-last g c = reads_up_to_unchanged c.args.limit (g.R.Source.left c.args.reader.now)
    (ReadsThrough NotFit (g.R.Source.left c.args.reader.now)) tt

pub returns-in-Ready-clause-last : goal.returns-in-Ready-clause-last
returns-in-Ready-clause-last g c = subst
    (λ (x : Result Ended SessionErr). IfOk x (λ e. ReadsUpTo c.args.limit (g.R.Source.left c.args.reader.now) (g.R.Source.left c.serve.new.reader)
    (ReadsThrough e (g.R.Source.left c.serve.new.reader)))) (sym c.ended.ensures) c.serve.ensures.last
