use Rattle.std.proofs.Common.{◌≡◌, take}
use Rattle.ir_state_store.specs.Table.{threads_at, sources_at, AreIn, KeepsNumbers}
use Rattle.ir_state_store.proofs.table.Table.add_all.Given as goal

abbrev pub invariant-loop-t : goal.invariant-loop-t
invariant-loop-t l = record {
  keeps : KeepsNumbers l.fn.self.items l.self.items;
  looks : KeepsNumbers l.fn.self.looks l.self.looks;
  form : l.self.form ≡ l.fn.self.form;
  basis : l.self.basis ≡ l.fn.self.basis;
  within : AreIn l.self.items l.numbers.items;
  threads : threads_at l.self.items l.numbers.items ≡ take l.t l.threads;
  sources : sources_at l.self.items l.numbers.items ≡ take l.t l.sources;
}
