use Rattle.std.specs.Prelude.{◌≡◌, vec_len}
use Rattle.ir_holds.specs.Needing.{HoldsTo}
use Rattle.ir_holds.proofs.needing.ends_of.Given as goal

abbrev pub invariant-loop-number : goal.invariant-loop-number
invariant-loop-number l = record {
  made : vec_len l.ends.made.objects ≡ l.trace.objects;
  left : vec_len l.ends.left.objects ≡ l.trace.objects;
  holds : HoldsTo l.trace l.boxes l.number 0 l.ends;
}
