use Rattle.std.proofs.Common.{◌≡◌, ℕ, vec_len}
use Rattle.std.specs.Option.{option_map_or}
use Rattle.std.specs.Prelude.{slice_get}
use Rattle.ir_picture.specs.Placing.{version_at, unknown_version}
use Rattle.ir_picture.specs.declared.table.Versions.{Versions}
use Rattle.ir_picture.proofs.table.Table.new.Given as goal

-- as many objects as there were rounds, and nothing is noted of any
abbrev pub invariant-loop : goal.invariant-loop
invariant-loop l = record {
  objects : vec_len l.all ≡ l.counter;
  none : (o v : ℕ) → option_map_or (λ (x : Versions). version_at x v) (slice_get l.all.items o) unknown_version ≡ unknown_version;
}
