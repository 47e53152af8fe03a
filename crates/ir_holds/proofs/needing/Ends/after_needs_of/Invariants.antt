use Rattle.std.specs.Prelude.{List}
use Rattle.ir_trace.specs.Recorded.{Recorded}
use Rattle.ir_picture.specs.declared.placed_box.PlacedBox.{PlacedBox}
use Rattle.ir_holds.specs.Needing.{HoldsEnds, IsAfterThese}
use Rattle.ir_holds.proofs.Needs.{FirstNeedLike}
use Rattle.ir_holds.proofs.needing.Ends.after_needs_of.Given as goal

abbrev pub invariant-loop-event : goal.invariant-loop-event
invariant-loop-event l = (r : Recorded) (boxes : List PlacedBox) → HoldsEnds r boxes l.self → IsAfterThese r boxes (FirstNeedLike l.events l.event-index) l.place
