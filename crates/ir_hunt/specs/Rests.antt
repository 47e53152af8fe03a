-- Whether a stale write of a run rests on what was read, by the run's trace.
use Rattle.std.specs.Prelude.{◌≡◌, Bool}
use Rattle.ir_image.specs.Guest.{Guest}
use Rattle.ir_trace.specs.Recorded.{Recorded}
use Rattle.ir_fit.specs.Fit.{FittedTrace, HasRun}
use Rattle.ir_stale_run.specs.Stale.{HasRests}

-- whether one does, where the guest has a run with the trace
abbrev pub RestsInTrace : Guest → Recorded → Bool → Type 0
RestsInTrace guest trace has = (fitted : FittedTrace) × (fitted.guest ≡ guest) × (fitted.recorded ≡ trace) × HasRun fitted × HasRests fitted has
