-- An object that is none of a guest's.
use Rattle.std.specs.Prelude.{false, []}
use Rattle.ir_object.specs.Cell.{Cell}

-- nothing has been done to it, and it has no words
abbrev pub empty : Cell
empty = record { fields = record { version = 0; left = 0; inside = 0; writer = false }; words = [] }
