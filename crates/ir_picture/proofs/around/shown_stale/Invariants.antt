use Rattle.std.proofs.Common.{◌≡◌, take}
use Rattle.ir_picture.specs.Shown.{shown_stale}
use Rattle.ir_picture.proofs.around.shown_stale.Given as goal

abbrev pub invariant-loop-row : goal.invariant-loop-row
invariant-loop-row l = l.shown.items ≡ shown_stale l.boxes (take l.row-index l.rows)
