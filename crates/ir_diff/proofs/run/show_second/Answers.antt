use Rattle.std.proofs.Common.{inr, refl}
use Rattle.ir_trace.specs.Recorded.{recorded_at}
use Rattle.ir_files.specs.Writers.{Writer, writer_of}
use Rattle.ir_past.specs.Answers.{refusal_status, trace_refusal_text, NotAnswered, Stops}
use Rattle.ir_diff.specs.Lines.{IsSecondAnswer}
use Rattle.ir_past.proofs.CallerLemmas.{not_answered_if_stopped}
use Rattle.ir_diff.proofs.Written.{if_err_weaker, opened_refusal_is_for}
use Rattle.ir_diff.proofs.run.show_second.Goals as goal

pub returns-in-Refused-clause-fails : goal.returns-in-Refused-clause-fails
returns-in-Refused-clause-fails g c =
    let why = c.in-Refused.why in
    let because = opened_refusal_is_for (recorded_at c.args.bytes.now) c.in_ok-b.field-0 why c.in-Refused.is c.in_ok-b.ensures in
    let w : Writer = writer_of (g.O.Sink.written c.args.out.now) (g.O.Sink.written c.refuse.new.out) (g.O.Sink.broken c.refuse.new.out) in
    if_err_weaker c.refuse.result (λ e. Stops e w (trace_refusal_text why)) (λ e. NotAnswered (IsSecondAnswer c.args.a.now (recorded_at c.args.bytes.now)) e w)
    (λ e stops. not_answered_if_stopped (IsSecondAnswer c.args.a.now (recorded_at c.args.bytes.now)) (refusal_status why) (trace_refusal_text why) e w
    (inr record { why = why; because = because; status = refl; line = refl }) stops)
    c.refuse.ensures.fails
