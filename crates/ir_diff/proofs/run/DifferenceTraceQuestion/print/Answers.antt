use Rattle.ir_trace.specs.Recorded.{recorded_at}
use Rattle.ir_diff.proofs.Statuses.{second_status_is_answer}
use Rattle.ir_diff.proofs.run.DifferenceTraceQuestion.print.Goals as goal

pub returns-clause-status : goal.returns-clause-status
returns-clause-status g c =
    let answered = c.in_ok-show_second.ensures.ok in
    second_status_is_answer c.args.trace.now (recorded_at c.args.self.now.second.now) c.in_ok-show_second.field-0 answered.text answered.is
