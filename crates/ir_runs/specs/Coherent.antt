-- Coherent traces.
use Rattle.std.specs.Prelude.{◌≡◌, ℕ, suc}
use Rattle.ir_runs.specs.Machine.{EnteredAt, Trace}
use Rattle.ir_runs.specs.declared.access.Access.TheVariants.{Writing}
use Rattle.ir_runs.specs.Run.{At}
use Rattle.ir_runs.specs.declared.access.Access.{Access}
use Rattle.ir_runs.specs.Verdicts.{reads, sum_below}

-- no event of the n threads' logs breaks coherence
pub record IsCoherent (n : ℕ) (tr : Trace) : Type 0 where
  -- an entry at a later version has the write entry that made it
  pub made : (t i o v l : ℕ) (a : Access) → At (tr.logs t) i (EnteredAt o a (suc v) l) → (u j k : ℕ) × At (tr.logs u) j (EnteredAt o Writing v k)
  -- one write entry at a version
  pub writer : (t i u j o v l k : ℕ) → At (tr.logs t) i (EnteredAt o Writing v l) → At (tr.logs u) j (EnteredAt o Writing v k) → (t ≡ u) × (i ≡ j)
  -- a write entry has as many readers as there are read entries of its version in the trace
  pub readers : (t i o v l : ℕ) → At (tr.logs t) i (EnteredAt o Writing v l) → l ≡ sum_below n (λ u. reads o v (tr.logs u))
