use Rattle.std.proofs.Common.{◌≡◌, take}
use Rattle.ir_state_store.specs.Table.{HaveForm, threads_at}
use Rattle.ir_state_store.proofs.table.Table.threads.Given as goal

abbrev pub invariant-loop-n : goal.invariant-loop-n
invariant-loop-n l = record {
  value : l.threads.items ≡ threads_at l.self.items (take l.n-index l.numbers);
  form : HaveForm l.self.form l.threads.items;
}
