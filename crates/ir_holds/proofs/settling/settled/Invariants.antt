use Rattle.std.specs.Prelude.{◌≡◌, ℕ}
use Rattle.ir_picture.specs.Placing.{events_of_all}
use Rattle.ir_holds.specs.Held.{rows_in}
use Rattle.ir_holds.specs.Schedules.{IsPacing, AreNear}
use Rattle.ir_holds.proofs.Settled.{RestTo}
use Rattle.ir_holds.proofs.settling.settled.Given as goal

-- the boxes are the same ones, not too far, and after each round more of their starts and ends rest
abbrev pub invariant-loop : goal.invariant-loop
invariant-loop l = record {
  events : events_of_all l.boxes.items ≡ events_of_all l.fn.first.items;
  rows : rows_in l.boxes.items ≡ rows_in l.fn.first.items;
  near : AreNear l.boxes.items l.spans;
  rest : (at : ℕ → ℕ → ℕ) → IsPacing l.trace (events_of_all l.fn.first.items) l.spans at → RestTo l.trace l.boxes.items l.spans at l.counter;
}
