use Rattle.std.proofs.Common.{◌≡◌, ◌-◌}
use Rattle.ir_bytes.specs.Reading.{fields_at}
use Rattle.ir_image.specs.Fields.{entry_at}
use Rattle.ir_bytes.proofs.CallerLemmas.{with_prefix}
use Rattle.ir_image.proofs.reading.entries.Given as goal

abbrev pub invariant-loop : goal.invariant-loop
invariant-loop l = with_prefix l.entries.items (fields_at (entry_at l.words) (l.count - l.counter) l.rest) ≡ fields_at (entry_at l.words)
    l.count l.bytes
