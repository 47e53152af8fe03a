use Rattle.std.proofs.Common.{refl, ◌∙◌}
use Rattle.ir_explore.proofs.answer.stopped_text.Goals as goal

pub returns : goal.returns
returns c = λ guest plan reason. record {
  why = c.args.why;
  reason = reason;
  whole = c.in_ok-text.ensures.items ∙ c.as_bytes.ensures.value ∙ c.in_ok-line.ensures;
  status = refl;
}
