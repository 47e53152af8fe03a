use Rattle.std.proofs.Common.{List, ℕ, ◌++◌}
use Rattle.ir_explore.specs.Texts.{AreTexts, objects_in}
use Rattle.ir_explore.proofs.texts.outcomes_text.Given as goal

abbrev pub invariant-loop-i : goal.invariant-loop-i
invariant-loop-i l = (before : List ℕ) → AreTexts (objects_in l.started) l.flats.items l.outcomes l.fn.from before
    → AreTexts (objects_in l.started) l.flats.items l.outcomes l.i (before ++ l.text.items)
