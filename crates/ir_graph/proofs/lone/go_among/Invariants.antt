use Rattle.std.proofs.Common.{ℕ, ◌≤◌}
use Rattle.ir_graph.specs.Lone.{GoesAmong, AreAmong}
use Rattle.ir_graph.proofs.lone.go_among.Given as goal

abbrev pub invariant-among : goal.invariant-among
invariant-among l = record {
  within : l.left ≤ l.limit;
  among : AreAmong l.code l.numbers l.thread l.objects;
  goes : (k : ℕ) × GoesAmong l.code l.numbers k (l.fn.thread, l.fn.source) l.fn.objects (l.thread, l.source) l.objects;
}

abbrev pub decreases-among : goal.decreases-among
decreases-among l = l.left
