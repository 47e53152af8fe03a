use Rattle.std.proofs.Common.{◌≡◌, map, drop, length}
use Rattle.ir_elf.specs.Layout.{size_of}
use Rattle.ir_elf.specs.Segments.{seen}
use Rattle.ir_elf.specs.Memory.{with_segments, memory_of}
use Rattle.ir_elf.proofs.memory.memory_of.Given as goal

abbrev pub invariant-loop-segment : goal.invariant-loop-segment
invariant-loop-segment l = record {
  exact : with_segments l.part (map seen (drop l.segment-index l.segments)) l.all.items ≡ memory_of l.part (map seen l.segments);
  count : length l.all.items ≡ size_of l.part;
}
