use Rattle.std.proofs.Common.{◌≡◌, ℕ, length, Some}
use Rattle.std.specs.Prelude.{slice_get}
use Rattle.ir_picture.specs.Placing.{first_point, IsPlacingCut}
use Rattle.ir_picture.specs.declared.placing.Lane.{Lane}
use Rattle.ir_picture.proofs.placing.lanes_of.Given as goal

abbrev pub invariant-loop-thread : goal.invariant-loop-thread
invariant-loop-thread l = record {
  lanes : length l.lanes.items ≡ l.thread;
  at : (t : ℕ) (x : Lane) → slice_get l.lanes.items t ≡ Some x → (x.free ≡ first_point) × IsPlacingCut l.boxes t 0 x.next;
}
