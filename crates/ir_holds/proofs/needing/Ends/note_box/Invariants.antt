use Rattle.std.specs.Prelude.{◌≡◌, vec_len}
use Rattle.ir_holds.specs.Needing.{HoldsTo}
use Rattle.ir_holds.proofs.needing.Ends.note_box.Given as goal

abbrev pub invariant-loop-event : goal.invariant-loop-event
invariant-loop-event l = record {
  made : vec_len l.self.made.objects ≡ l.trace.objects;
  left : vec_len l.self.left.objects ≡ l.trace.objects;
  holds : HoldsTo l.trace l.boxes l.number l.event l.self;
}
