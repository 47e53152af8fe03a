use Rattle.std.specs.Slots.{slots_items}
use Rattle.ir_weave.specs.Woven.{AreRead}
use Rattle.ir_weave.proofs.ends.contents_at.Given as goal

abbrev pub invariant-loop-i : goal.invariant-loop-i
invariant-loop-i l = AreRead (slots_items l.closed.words) l.from l.word-items l.i
