use Rattle.std.proofs.Common.{◌≡◌, map, take}
use Rattle.std.specs.String.{string_bytes}
use Rattle.ir_make.specs.Assembling.{masked}
use Rattle.ir_make.proofs.assembling.text_of.Given as goal

-- the bytes so far
abbrev pub invariant-loop-byte : goal.invariant-loop-byte
invariant-loop-byte l = string_bytes l.text ≡ map masked (take l.byte-index l.source)
