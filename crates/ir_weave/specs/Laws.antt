-- What holds of the states at consistent cuts.
use Rattle.std.specs.Prelude.{◌≡◌}
use Rattle.ir_flat.specs.Flat.{Flat, IsFlat}
use Rattle.ir_runs.specs.Run.{Cut}
use Rattle.ir_fit.specs.Fit.{FittedTrace, HasRun}
use Rattle.ir_weave.specs.Standing.{IsStateAt}

-- a guest with a trace has one state at each cut
abbrev pub OneStateEach : Type 0
OneStateEach = (f : FittedTrace) (p : Cut) (s r : Flat) → HasRun f → IsFlat s → IsFlat r → IsStateAt f p s → IsStateAt f p r → s ≡ r
