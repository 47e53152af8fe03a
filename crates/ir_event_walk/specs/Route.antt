-- What a walk over a recorded run goes by.
use Rattle.std.specs.Prelude.{◌≡◌, ℕ, List}
use Rattle.ir_mach.specs.Marks.{Marked}
use Rattle.ir_fit.specs.Fit.{FittedTrace}
use Rattle.ir_events.specs.Walk.{AreEnds}

-- the ends are those of the threads, and the code is the guest's
pub record IsRoute (f : FittedTrace) (ends : List ℕ) (code : Marked) : Type 0 where
  pub last : AreEnds f ends
  pub words : code.words ≡ f.guest.code
