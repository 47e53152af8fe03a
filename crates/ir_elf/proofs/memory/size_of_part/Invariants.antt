use Rattle.std.proofs.Common.{◌≡◌, ◌≤◌, max, map, drop}
use Rattle.ir_elf.specs.Layout.{size_of}
use Rattle.ir_elf.specs.Segments.{seen}
use Rattle.ir_elf.specs.Memory.{size_in, greatest}
use Rattle.ir_elf.proofs.memory.size_of_part.Given as goal

abbrev pub invariant-loop-segment : goal.invariant-loop-segment
invariant-loop-segment l = record {
  exact : max l.size (greatest (size_in l.part) (map seen (drop l.segment-index l.segments))) ≡ greatest (size_in l.part) (map seen l.segments);
  most : l.size ≤ size_of l.part;
}
