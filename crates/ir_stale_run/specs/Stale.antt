-- Whether a write of a recorded run rests on a stale read.
use Rattle.std.specs.Prelude.{◌≡◌, Bool, List, length, nat_lt, Option}
use Rattle.ir_fit.specs.Fit.{FittedTrace}
use Rattle.ir_past.specs.Past.{AreStaleWrites}
use Rattle.ir_past.specs.declared.stale_write.StaleWrite.{StaleWrite}
use Rattle.ir_stale_run.specs.Lines.{rows_kept}
use Rattle.ir_stale_run.specs.Rests.{AreRests}
use Rattle.ir_stale_run.specs.declared.rest.Rest.{Rest}

-- whether one of a fitted trace's stale writes rests on its read, which is whether `ir stale` lists one where it is asked with the image
pub record HasRests (f : FittedTrace) (has : Bool) : Type 0 where
  pub rows : List StaleWrite
  pub all : AreStaleWrites f.recorded rows
  pub rests : List (Option Rest)
  pub found : AreRests f rows rests
  pub some : has ≡ nat_lt 0 (rows_kept rests (length rests))
