use Rattle.std.proofs.Common.{◌≡◌, ◌≤◌, max, map, drop}
use Rattle.ir_elf.specs.Layout.{size_of}
use Rattle.ir_elf.specs.Segments.{seen}
use Rattle.ir_elf.specs.Memory.{held_in, greatest}
use Rattle.ir_elf.proofs.memory.held_of_part.Given as goal

abbrev pub invariant-loop-segment : goal.invariant-loop-segment
invariant-loop-segment l = record {
  exact : max l.held (greatest (held_in l.part) (map seen (drop l.segment-index l.segments))) ≡ greatest (held_in l.part) (map seen l.segments);
  most : l.held ≤ size_of l.part;
}
