use Rattle.std.proofs.Common.{◌≡◌, ◌≢◌, ◌<◌, ℕ, None}
use Rattle.ir_state_store.specs.Hashes.{hash_place, hashed_number_at}
use Rattle.ir_state_store.proofs.index.Index.note.Given as goal

abbrev pub invariant-loop-steps : goal.invariant-loop-steps
invariant-loop-steps l = record {
  same : l.self ≡ l.fn.self;
  taken : (k : ℕ) → k < l.steps → hashed_number_at l.fn.self (hash_place l.fn.hash k) ≢ None;
}
