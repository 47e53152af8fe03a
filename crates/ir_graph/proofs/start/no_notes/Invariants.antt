use Rattle.std.proofs.Common.{◌≡◌, ℕ, ◌<◌, None, length}
use Rattle.ir_graph.specs.Notes.{noted_in}
use Rattle.ir_graph.proofs.start.no_notes.Given as goal

abbrev pub invariant-loop : goal.invariant-loop
invariant-loop l = record {
  free : (t v : ℕ) → t < l.counter → noted_in l.rows.items t v ≡ None;
  threads : length l.rows.items ≡ l.counter;
}
