use Rattle.std.proofs.Common.{◌≡◌, map, take}
use Rattle.std.specs.String.{string_bytes}
use Rattle.ir_make.specs.Assembling.{shown_fault}
use Rattle.ir_make.proofs.reporting.shown_text.Given as goal

-- the bytes so far
abbrev pub invariant-loop-byte : goal.invariant-loop-byte
invariant-loop-byte l = string_bytes l.text ≡ map shown_fault (take l.byte-index l.bytes)
