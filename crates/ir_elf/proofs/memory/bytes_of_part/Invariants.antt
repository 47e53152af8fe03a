use Rattle.std.proofs.Common.{◌≡◌, drop, map}
use Rattle.ir_elf.specs.Memory.{memory_bytes_from}
use Rattle.ir_elf.specs.Segments.{seen}
use Rattle.ir_elf.proofs.memory.bytes_of_part.Given as goal

abbrev pub invariant-segments : goal.invariant-segments
invariant-segments l = memory_bytes_from l.total l.part (map seen (drop l.segment-index l.segments)) ≡ memory_bytes_from 0 l.part (map seen l.segments)
