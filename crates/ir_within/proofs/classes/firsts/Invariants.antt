use Rattle.std.proofs.Common.{List, length, take}
use Rattle.ir_schedule.specs.Conditions.{EndState}
use Rattle.ir_within.specs.Classes.{AreFirstSeen}
use Rattle.ir_within.specs.Judging.{AreSeen, HoldsSame}
use Rattle.ir_within.specs.Plans.{aspects_of}
use Rattle.ir_within.proofs.classes.firsts.Given as goal

abbrev pub invariant-loop-shown : goal.invariant-loop-shown
invariant-loop-shown l = (all : List EndState) × AreSeen (aspects_of l.aspects) l.flats.items (take l.shown-index l.outcomes) all × HoldsSame l.kept all
    × AreFirstSeen all (length all) l.marks.items
