use Rattle.std.proofs.Common.{◌≡◌, ◌++◌, drop}
use Rattle.ir_why.specs.Tables.{others}
use Rattle.ir_why.proofs.tables.push_others.Given as goal

abbrev pub invariant-loop-place : goal.invariant-loop-place
invariant-loop-place l = l.needs.items ++ others l.thread (drop l.place-index l.places) ≡ l.fn.needs.items ++ others l.thread l.places
