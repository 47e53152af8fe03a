-- Laws of coherent traces.
use Rattle.std.specs.Prelude.{◌≡◌, ℕ, ◌≤◌, []}
use Rattle.ir_runs.specs.Machine.{Trace}
use Rattle.ir_runs.specs.Coherent.{IsCoherent}
use Rattle.ir_coherence.specs.declared.cause.Cause.{Cause}
use Rattle.ir_coherence.specs.Breaking.{HasCause}

-- no event of a coherent trace breaks coherence
abbrev pub CoherentUnbroken : Type 0
CoherentUnbroken = (n : ℕ) (tr : Trace) → IsCoherent n tr → (t i : ℕ) (c : Cause) → HasCause n tr t i c → ⊥

-- a trace of n threads is coherent where no event breaks coherence
abbrev pub UnbrokenCoherent : Type 0
UnbrokenCoherent = (n : ℕ) (tr : Trace) → ((t : ℕ) → n ≤ t → tr.logs t ≡ []) → ((t i : ℕ) (c : Cause) → HasCause n tr t i c → ⊥)
    → IsCoherent n tr

-- an event has one first cause at most
abbrev pub OneCause : Type 0
OneCause = (n : ℕ) (tr : Trace) (t i : ℕ) (c d : Cause) → HasCause n tr t i c → HasCause n tr t i d → c ≡ d
