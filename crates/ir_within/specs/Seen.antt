-- What the code keeps of what a run came to.
use Rattle.std.specs.Prelude.{map}
use Rattle.ir_schedule.specs.Conditions.{EndState}
use Rattle.ir_within.specs.declared.seen.Seen.{Seen}

-- the same as definitions have it
abbrev pub value_of : Seen → EndState
value_of s = record { ends = map (λ e. e.ended) s.ends.items; outputs = map (λ v. v.items) s.outputs.items; words = map (λ v. v.items) s.words.items }
