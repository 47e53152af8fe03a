use Rattle.std.proofs.Common.{◌≡◌, map, drop}
use Rattle.ir_elf.specs.Segments.{seen}
use Rattle.ir_elf.specs.Memory.{table_of}
use Rattle.ir_elf.proofs.memory.table_of.Given as goal

abbrev pub invariant-loop-segment : goal.invariant-loop-segment
invariant-loop-segment l = table_of (map seen (drop l.segment-index l.segments)) ≡ table_of (map seen l.segments)
