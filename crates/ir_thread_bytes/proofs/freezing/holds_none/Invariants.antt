use Rattle.std.proofs.Common.{◌≡◌, drop}
use Rattle.std.specs.Prelude.{is_none}
use Rattle.ir_thread.specs.State.{highest}
use Rattle.ir_thread_bytes.proofs.freezing.holds_none.Given as goal

abbrev pub invariant-loop-entry : goal.invariant-loop-entry
invariant-loop-entry l = is_none (highest (drop l.entry-index l.held)) ≡ is_none (highest l.held)
