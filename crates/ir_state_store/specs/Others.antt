-- States that differ in a single thread.
use Rattle.std.specs.Prelude.{◌≡◌, ◌≢◌, ℕ, length}
use Rattle.ir_state_store.specs.Nodes.{SourcedFlat, sourced_thread}

-- u has the threads of s beside what answers them, but perhaps for thread t
pub record HasOthersOf (s u : SourcedFlat) (t : ℕ) : Type 0 where
  pub each : length u.flat.threads ≡ length s.flat.threads
  pub others : (v : ℕ) → v ≢ t → sourced_thread u v ≡ sourced_thread s v
