use Rattle.std.proofs.Common.{◌≡◌, ◌-◌}
use Rattle.ir_bytes.specs.Reading.{fields_at}
use Rattle.ir_bytes.proofs.CallerLemmas.{with_prefix}
use Rattle.ir_elf.specs.Header.{elf_header_at}
use Rattle.ir_elf.proofs.segments.headers.Given as goal

abbrev pub invariant-loop : goal.invariant-loop
invariant-loop l = with_prefix l.headers.items (fields_at elf_header_at (l.count - l.counter) l.rest) ≡ fields_at elf_header_at l.count l.bytes
