use Rattle.ir_diff.proofs.ThreadTexts.{AreTexts}
use Rattle.ir_diff.proofs.texts.diff_text.Given as goal

abbrev pub invariant-loop-thread : goal.invariant-loop-thread
invariant-loop-thread l = AreTexts l.fn.a.trace.now l.fn.b.trace.now l.part l.thread l.text.items
