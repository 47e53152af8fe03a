use Rattle.std.proofs.Common.{◌≡◌, ◌-◌}
use Rattle.ir_bytes.specs.Reading.{fields_at}
use Rattle.ir_bytes.proofs.CallerLemmas.{with_prefix}
use Rattle.ir_elf.specs.Table.{table_entry_at}
use Rattle.ir_elf.proofs.table.entries.Given as goal

abbrev pub invariant-loop : goal.invariant-loop
invariant-loop l = with_prefix l.entries.items (fields_at (table_entry_at l.code) (l.count - l.counter) l.rest) ≡ fields_at (table_entry_at l.code) l.count
    l.bytes
