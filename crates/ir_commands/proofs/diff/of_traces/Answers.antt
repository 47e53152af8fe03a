use Rattle.std.proofs.Common.{subst, sym, ◌∙◌}
use Rattle.ir_trace.specs.Recorded.{recorded_at}
use Rattle.ir_files.specs.Writers.{Reports, fault_text, writer_of}
use Rattle.ir_past.specs.Answers.{IsRefusal, fault_words}
use Rattle.ir_past.specs.Replies.{IsTraceRead}
use Rattle.ir_diff.specs.Lines.{IsSecondAnswer}
use Rattle.ir_commands.proofs.Asked.{printed_if_always_there}
use Rattle.ir_commands.proofs.Made.{failed_is_other_than_refused}
use Rattle.ir_commands.proofs.diff.of_traces.Goals as goal

pub returns-clause-prints : goal.returns-clause-prints
returns-clause-prints g c =
    let read = recorded_at c.args.first.now in
    let asked = c.ask_trace-status.new.faults in
    let out = writer_of (g.O.Sink.written c.args.out.now) (g.O.Sink.written c.ask_trace-status.new.out) (g.O.Sink.broken c.ask_trace-status.new.out) in
    let printed = printed_if_always_there (IsTraceRead read) (λ a. IsSecondAnswer a (recorded_at c.args.second.now)) (IsRefusal read) c.ask_trace-status.result out
    (writer_of (g.E.Sink.written c.args.faults.now) (g.E.Sink.written asked) (g.E.Sink.broken asked))
    ((λ works sound. (c.ask_trace-status.ensures.done works sound).0), c.ask_trace-status.ensures.failed) in (
      printed.0,
      (λ failed. let why = printed.1 failed in (
        why.0,
        why.1,
        subst (λ f. Reports (writer_of (g.E.Sink.written c.args.faults.now) (g.E.Sink.written f)
            (g.E.Sink.broken f)) (fault_text (fault_words why.0)))
            (sym (c.explain_trace-2.ensures (failed_is_other_than_refused failed) ∙ c.explain_trace.ensures (failed_is_other_than_refused failed))) why.2,
      )),
    )
