use Rattle.std.proofs.Common.{◌≡◌, ◌++◌, map, option_map}
use Rattle.ir_schedule.specs.Conditions.{as_literal}
use Rattle.ir_schedule.specs.Spelling.{literals_of}
use Rattle.ir_schedule.proofs.spelling.condition_of.Given as goal

abbrev pub invariant-loop-part : goal.invariant-loop-part
invariant-loop-part l =
    option_map (λ ls. map as_literal l.alternatives.items ++ ls) (literals_of l.part-iterator) ≡ literals_of l.initial.part-iterator
