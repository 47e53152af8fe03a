use Rattle.std.proofs.Common.{◌≡◌, ◌≤◌, drop}
use Rattle.ir_thread.specs.State.{most_budget}
use Rattle.ir_explore.specs.Hang.{budget_from}
use Rattle.ir_explore.proofs.hang.budget_of.Given as goal

abbrev pub invariant-items : goal.invariant-items
invariant-items l = record {
  within : l.budget ≤ most_budget;
  rest : budget_from l.budget (drop l.item-index l.items) ≡ budget_from 1 l.items;
}
