use Rattle.std.proofs.Common.{◌≡◌, ◌-◌}
use Rattle.ir_bytes.specs.Reading.{fields_at}
use Rattle.ir_trace.specs.Recorded.{thread_part_at}
use Rattle.ir_bytes.proofs.CallerLemmas.{with_prefix}
use Rattle.ir_trace.proofs.reader.threads.Given as goal

abbrev pub invariant-loop : goal.invariant-loop
invariant-loop l = with_prefix l.threads.items (fields_at (thread_part_at l.profile l.objects) (l.count - l.counter) l.rest) ≡ fields_at
    (thread_part_at l.profile l.objects) l.count l.bytes
