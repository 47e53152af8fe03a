use Rattle.std.proofs.Common.{◌≡◌, [], replicate}
use Rattle.ir_thread.specs.State.{most_events}
use Rattle.ir_record.proofs.in_order.start.logs.Given as goal

abbrev pub invariant-loop-number : goal.invariant-loop-number
invariant-loop-number l = l.logs.items ≡ replicate l.number (record { events = []; room = most_events })
