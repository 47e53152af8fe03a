-- The events of a trace that break its coherence.
use Rattle.std.specs.Prelude.{◌≡◌, ◌≢◌, ℕ, suc, ◌<◌, ◌⊎◌}
use Rattle.ir_runs.specs.Machine.{EnteredAt, Trace}
use Rattle.ir_runs.specs.declared.access.Access.{Access}
use Rattle.ir_runs.specs.declared.access.Access.TheVariants.{Writing}
use Rattle.ir_runs.specs.Verdicts.{reads, sum_below}
use Rattle.ir_runs.specs.Run.{At}
use Rattle.ir_coherence.specs.declared.cause.Cause.{Cause}
use Rattle.ir_coherence.specs.declared.cause.Cause.TheVariants.{Unmade, Twice, Readers}

-- event i of thread t is an entry at a version after the first, and no write entry of the trace is at the version before
pub record IsUnmade (tr : Trace) (t i : ℕ) : Type 0 where
  pub object : ℕ
  pub access : Access
  pub version : ℕ
  pub left : ℕ
  pub entry : At (tr.logs t) i (EnteredAt object access (suc version) left)
  pub unmade : (u j k : ℕ) → At (tr.logs u) j (EnteredAt object Writing version k) → ⊥

-- event i of thread t is a write entry, and another write entry of the trace is at its version
pub record IsTwice (tr : Trace) (t i : ℕ) : Type 0 where
  pub object : ℕ
  pub version : ℕ
  pub left : ℕ
  pub entry : At (tr.logs t) i (EnteredAt object Writing version left)
  pub thread : ℕ
  pub event : ℕ
  pub others_left : ℕ
  pub another : At (tr.logs thread) event (EnteredAt object Writing version others_left)
  pub apart : t ≡ thread → i ≡ event → ⊥

-- event i of thread t is a write entry with another number of readers than there are read entries of its version in the n threads' logs
pub record IsMiscounted (n : ℕ) (tr : Trace) (t i : ℕ) : Type 0 where
  pub object : ℕ
  pub version : ℕ
  pub left : ℕ
  pub entry : At (tr.logs t) i (EnteredAt object Writing version left)
  pub other : left ≢ sum_below n (λ u. reads object version (tr.logs u))

-- the first cause for which event i of thread t breaks coherence
abbrev pub HasCause : ℕ → Trace → ℕ → ℕ → Cause → Type 0
HasCause n tr t i Unmade = IsUnmade tr t i
HasCause n tr t i Twice = (IsUnmade tr t i → ⊥) × IsTwice tr t i
HasCause n tr t i Readers = (IsUnmade tr t i → ⊥) × (IsTwice tr t i → ⊥) × IsMiscounted n tr t i

-- event i of thread t breaks coherence for this cause, and none before it does: of a thread before, or of this one
pub record IsFirstBreak (n : ℕ) (tr : Trace) (t i : ℕ) (c : Cause) : Type 0 where
  pub breaks : HasCause n tr t i c
  pub first : (u j : ℕ) (d : Cause) → (u < t) ⊎ ((u ≡ t) × (j < i)) → HasCause n tr u j d → ⊥

-- why an event breaks coherence
abbrev pub cause_number : Cause → ℕ
cause_number Unmade = 1
cause_number Twice = 2
cause_number Readers = 3
