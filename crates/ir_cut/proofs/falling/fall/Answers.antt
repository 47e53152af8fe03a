use Rattle.std.proofs.Common.{◌∙◌}
use Rattle.ir_cut.proofs.falling.fall.Goals as goal

pub leaves-preserved : goal.leaves-preserved
leaves-preserved c = record {
  size = c.take_leave.ensures.size ∙ c.leaves.invariant.size;
  each = c.take_leave.ensures.each;
  falls = λ ps u k h. c.take_leave.ensures.falls ps u k (c.leaves.invariant.falls ps u k h);
}
