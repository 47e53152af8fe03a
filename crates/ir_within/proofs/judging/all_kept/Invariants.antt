use Rattle.std.proofs.Common.{take}
use Rattle.ir_within.specs.Judging.{AreKept}
use Rattle.ir_within.specs.Plans.{aspects_of}
use Rattle.ir_within.proofs.judging.all_kept.Given as goal

abbrev pub invariant-loop-shown : goal.invariant-loop-shown
invariant-loop-shown l = AreKept (aspects_of l.aspects) l.flats.items (take l.shown-index l.outcomes) l.kept
