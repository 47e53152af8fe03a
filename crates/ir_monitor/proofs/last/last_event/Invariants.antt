use Rattle.std.proofs.Common.{ℕ, ◌≤◌, ◌<◌, ◌+◌, length}
use Rattle.std.specs.Prelude.{slice_index}
use Rattle.ir_monitor.proofs.last.last_event.Given as goal

-- the steps that were looked at are not before the position
abbrev pub invariant-loop-later : goal.invariant-loop-later
invariant-loop-later l = (k : ℕ) → length l.steps ≤ k + l.later → k < length l.steps → l.here.position ≤ slice_index l.steps k
