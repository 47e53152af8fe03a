use Rattle.std.proofs.Common.{◌-◌}
use Rattle.ir_opened.specs.Positions.{IsInside}
use Rattle.ir_why.proofs.Waited.{WaitsGoOn}
use Rattle.ir_why.proofs.waits.waits_of.Given as goal

abbrev pub invariant-loop : goal.invariant-loop
invariant-loop l = record {
  inside : IsInside l.fitted l.last.thread l.last.event;
  goes_on : WaitsGoOn l.fitted l.boxes l.most l.fn.here l.waits.items (l.most - l.counter) l.last;
}
