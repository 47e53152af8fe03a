use Rattle.std.proofs.Common.{◌≡◌, ◌-◌, ◌<◌, ◌≤◌, ℕ, length}
use Rattle.ir_record.specs.Ahead.{lead_of_thread}
use Rattle.ir_record.proofs.in_order.rounds.lower.Given as goal

abbrev pub invariant-loop-t : goal.invariant-loop-t
invariant-loop-t l = record {
  size : length l.ahead.items ≡ length l.fn.ahead.items;
  lowered : (u : ℕ) → u < l.t → lead_of_thread l.ahead.items u ≡ lead_of_thread l.fn.ahead.items u - l.by;
  later : (u : ℕ) → l.t ≤ u → lead_of_thread l.ahead.items u ≡ lead_of_thread l.fn.ahead.items u;
}
