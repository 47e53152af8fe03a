use Rattle.std.proofs.Common.{◌≡◌, map, drop}
use Rattle.ir_elf.specs.Segments.{seen, segments_from}
use Rattle.ir_elf.proofs.Loop.{after_read_segments}
use Rattle.ir_elf.proofs.segments.segments_of.Given as goal

abbrev pub invariant-loop-header : goal.invariant-loop-header
invariant-loop-header l = after_read_segments (map seen l.segments.items) (segments_from l.file l.last (drop l.header-index l.headers)) ≡ segments_from
    l.file 0 l.headers
