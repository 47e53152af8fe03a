use Rattle.std.proofs.Common.{◌≡◌, ℕ, [], vec_len}
use Rattle.ir_past.specs.Tables.{read_at_row}
use Rattle.ir_past.specs.declared.reads.ObjectReads.{ObjectReads}
use Rattle.std.specs.Option.{option_map_or}
use Rattle.std.specs.Prelude.{slice_get}
use Rattle.ir_past.proofs.reads.Reads.new.Given as goal

-- as many objects as there were rounds, and nothing is noted of any
abbrev pub invariant-loop : goal.invariant-loop
invariant-loop l = record {
  objects : vec_len l.all ≡ l.counter;
  none : (o v : ℕ) → option_map_or (λ (x : ObjectReads). read_at_row x v) (slice_get l.all.items o) [] ≡ [];
}
