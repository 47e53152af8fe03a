use Rattle.std.proofs.Common.{ap, subst, ◌∙◌}
use Rattle.ir_trace.specs.Recorded.{recorded_at}
use Rattle.ir_trace.specs.Results.{YieldsTrace}
use Rattle.ir_trace.proofs.Whole.{recorded_at_of_encoding}
use Rattle.ir_trace.proofs.reader.read_trace.Goals as goal

pub returns-clause-only : goal.returns-clause-only
returns-clause-only c = λ r fits e. subst (λ f. YieldsTrace (λ trace. trace) c.trace.result f) (ap recorded_at e ∙ recorded_at_of_encoding r fits)
    c.trace.ensures.exact
