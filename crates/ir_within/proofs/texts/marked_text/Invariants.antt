use Rattle.ir_explore.specs.Texts.{objects_in, known_of}
use Rattle.ir_within.specs.Within.{AreMarkedTexts}
use Rattle.ir_within.proofs.texts.marked_text.Given as goal

abbrev pub invariant-loop-i : goal.invariant-loop-i
invariant-loop-i l = AreMarkedTexts (objects_in l.started) (known_of l.explored) l.outside l.i l.text.items
