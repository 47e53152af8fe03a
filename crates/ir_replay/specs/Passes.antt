-- Passes over the threads.
use Rattle.std.specs.Prelude.{◌≡◌, ℕ, ◌<◌, ◌≤◌, List}
use Rattle.ir_flat.specs.Flat.{Flat}
use Rattle.ir_fit.specs.Fit.{FittedTrace}
use Rattle.ir_weave.specs.Standing.{positions}
use Rattle.ir_weave.specs.Stepping.{IsUnder, IsSameSeat, RestsAtTarget, steps_left}

-- in a pass that began at old and may take most steps, after the first n threads, which took taken steps: they rest if they took none
pub record IsPass (f : FittedTrace) (target : List ℕ) (old s : Flat) (taken most n : ℕ) : Type 0 where
  pub under : IsUnder f target s
  pub above : (t : ℕ) → positions old t ≤ positions s t
  pub fewer : 0 < taken → steps_left target s < steps_left target old
  pub same : taken ≡ 0 → IsSameSeat old s
  pub rest : taken ≡ 0 → 0 < most → (t : ℕ) → t < n → RestsAtTarget f target s t
