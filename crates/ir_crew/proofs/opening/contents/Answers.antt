use Rattle.std.proofs.Common.{◌∙◌, arith, length-set}
use Rattle.std.specs.Slots.{slots_items}
use Rattle.ir_crew.proofs.Ending.{copied_contents_step}
use Rattle.ir_crew.proofs.opening.contents.Goals as goal

pub loop-i-preserved : goal.loop-i-preserved
loop-i-preserved c = let at = c.loop-i in let size = at.invariant.size in let below = c.loop-i-test.true in record {
  size = length-set at.contents at.i c.content.result ∙ size;
  read = copied_contents_step (slots_items c.args.closed.now.words) at.contents c.args.o at.i c.content.result at.invariant.read
      (omega (arith, size, below)) c.content.ensures;
}
