use Rattle.std.proofs.Common.{take}
use Rattle.ir_within.specs.Judging.{AreCompared}
use Rattle.ir_within.specs.Plans.{aspects_of}
use Rattle.ir_within.proofs.judging.outside.Given as goal

abbrev pub invariant-loop-shown : goal.invariant-loop-shown
invariant-loop-shown l =
    AreCompared (aspects_of l.aspects) l.flats.items (take l.shown-index l.outcomes) l.others l.marks.items
