use Rattle.std.proofs.Common.{◌≡◌, ℕ, vec_len}
use Rattle.ir_past.specs.Tables.{read_at_row}
use Rattle.ir_past.proofs.reads.ObjectReads.reserve.Given as goal

-- as many versions as there were, or rounds, and nothing is noted of any more
abbrev pub invariant-loop : goal.invariant-loop
invariant-loop l = record {
  versions : vec_len l.self.versions ≡ l.counter;
  same : (v : ℕ) → read_at_row l.self v ≡ read_at_row l.fn.self v;
}
