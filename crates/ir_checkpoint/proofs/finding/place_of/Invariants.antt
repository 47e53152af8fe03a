use Rattle.std.proofs.Common.{◌≡◌, ◌+◌, drop}
use Rattle.ir_checkpoint.specs.Store.{frame_place}
use Rattle.ir_checkpoint.proofs.finding.place_of.Given as goal

abbrev pub invariant-loop-place : goal.invariant-loop-place
invariant-loop-place l = l.place + frame_place l.n (drop l.place l.entries) ≡ frame_place l.n l.entries
