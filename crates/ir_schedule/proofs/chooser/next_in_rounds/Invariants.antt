use Rattle.std.proofs.Common.{◌≡◌, drop, slice_index_or}
use Rattle.ir_schedule.specs.Choices.{first_above}
use Rattle.ir_schedule.proofs.chooser.next_in_rounds.Given as goal

abbrev pub invariant-ready : goal.invariant-ready
invariant-ready l = first_above l.last (drop l.thread-index l.ready) (slice_index_or l.ready 0 0) ≡ first_above l.last l.ready (slice_index_or l.ready 0 0)
