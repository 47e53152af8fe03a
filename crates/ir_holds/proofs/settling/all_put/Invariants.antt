use Rattle.std.specs.Prelude.{◌≡◌, ℕ, Some, length, take}
use Rattle.std.specs.List.{slice_get}
use Rattle.ir_picture.specs.Placing.{events_of_all}
use Rattle.ir_picture.specs.declared.placed_box.PlacedBox.{PlacedBox}
use Rattle.ir_holds.specs.Held.{rows_in}
use Rattle.ir_holds.specs.Schedules.{IsPut}
use Rattle.ir_holds.specs.declared.span.Span.{Span}
use Rattle.ir_holds.proofs.settling.all_put.Given as goal

abbrev pub invariant-loop-number : goal.invariant-loop-number
invariant-loop-number l = record {
  size : length l.all.items ≡ l.number;
  events : events_of_all l.all.items ≡ events_of_all (take l.number l.boxes);
  rows : rows_in l.all.items ≡ rows_in (take l.number l.boxes);
  each : (n : ℕ) (b c : PlacedBox) (own : Span) → slice_get l.boxes n ≡ Some b → slice_get l.all.items n ≡ Some c → slice_get l.spans n ≡ Some own
      → IsPut l.trace l.boxes l.spans own b c;
}
