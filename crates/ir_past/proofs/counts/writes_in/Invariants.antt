use Rattle.std.proofs.Common.{◌≡◌, ◌≤◌, ◌+◌, drop}
use Rattle.ir_past.specs.Past.{write_entries}
use Rattle.ir_past.proofs.counts.writes_in.Given as goal

-- what is counted, and what is left
abbrev pub invariant-loop-event : goal.invariant-loop-event
invariant-loop-event l = record {
  total : l.count + write_entries (drop l.event-index l.events) ≡ write_entries l.events;
  few : l.count ≤ l.event-index;
}
