use Rattle.std.proofs.Common.{◌∙◌}
use Rattle.ir_cut.proofs.rising.rise.Goals as goal

pub events-preserved : goal.events-preserved
events-preserved c = record {
  size = c.take_event.ensures.size ∙ c.events.invariant.size;
  each = c.take_event.ensures.each ∙ c.events.invariant.each;
  rises = λ ps u k h. c.take_event.ensures.rises ps u k (c.events.invariant.rises ps u k h);
}
