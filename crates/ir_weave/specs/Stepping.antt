-- Steps on the way to a cut.
use Rattle.std.specs.Prelude.{◌≡◌, ◌≢◌, ℕ, ◌+◌, ◌-◌, ◌≤◌, ◌⊎◌, List, length, Option, Some, None}
use Rattle.ir_runs.specs.Machine.{logged}
use Rattle.ir_flat.specs.Flat.{Flat, tables, machine}
use Rattle.ir_runs.specs.Run.{Can, label}
use Rattle.ir_trace.specs.Recorded.{Recorded}
use Rattle.ir_fit.specs.Ahead.{log_ahead}
use Rattle.ir_runs.specs.Verdicts.{sum_below, unlogged}
use Rattle.ir_runs.specs.Admitted.{Admitted}
use Rattle.ir_fit.specs.Fit.{FittedTrace, HasRun}
use Rattle.ir_cut.specs.Positions.{machine_of, start_of, cut_of, EachRun, IsConsistentCut}
use Rattle.ir_weave.specs.Standing.{IsStateAt, positions}

-- thread t can take its next step now with this result, and logs by it what the trace emits next
abbrev pub LogsNext : Recorded → Flat → ℕ → ℕ → Type 0
LogsNext r s t v = Can (machine s) (tables s) (t, v)
    × (logged (label (machine s) (tables s) (t, v)) (unlogged (label (machine s) (tables s) (t, v)) (log_ahead r s t)) ≡ log_ahead r s t)

-- such a result, or there is none
abbrev pub IsNextOfSeat : Recorded → Flat → ℕ → Option ℕ → Type 0
IsNextOfSeat r s t (Some v) = LogsNext r s t v
IsNextOfSeat r s t None = (v : ℕ) → LogsNext r s t v → ⊥

-- there is a run with the trace, and the target is one of its consistent cuts
pub record IsTarget (f : FittedTrace) (target : List ℕ) : Type 0 where
  pub run : HasRun f
  pub size : length target ≡ length f.guest.entries
  pub consistent : IsConsistentCut f target

-- the guest at a cut that isn't past the target
pub record IsUnder (f : FittedTrace) (target : List ℕ) (s : Flat) : Type 0 where
  pub state : IsStateAt f (positions s) s
  pub below : (t : ℕ) → positions s t ≤ cut_of target t

-- thread t alone has gone on, by n steps
pub record HasGone (old new : Flat) (t n : ℕ) : Type 0 where
  pub own : positions new t ≡ positions old t + n
  pub others : (u : ℕ) → u ≢ t → positions new u ≡ positions old u

-- no thread has
abbrev pub IsSameSeat : Flat → Flat → Type 0
IsSameSeat old new = (u : ℕ) → positions new u ≡ positions old u

-- thread t is at its target, or its next step isn't admitted
abbrev pub RestsAtTarget : FittedTrace → List ℕ → Flat → ℕ → Type 0
RestsAtTarget f target s t = (cut_of target t ≤ positions s t) ⊎ EachRun f (λ run. Admitted (machine_of f) (start_of f) run (positions s) t → ⊥)

-- how many steps are left to all threads
abbrev pub steps_left : List ℕ → Flat → ℕ
steps_left target s = sum_below (length target) (λ t. cut_of target t - positions s t)
