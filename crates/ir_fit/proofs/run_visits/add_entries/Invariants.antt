use Rattle.std.proofs.Common.{take}
use Rattle.ir_fit.specs.Placed.{entered_by}
use Rattle.ir_fit.specs.Listed.{AddsAll}
use Rattle.ir_fit.proofs.run_visits.add_entries.Given as goal

abbrev pub invariant-loop-place : goal.invariant-loop-place
invariant-loop-place l = AddsAll l.fn.visits l.visits (entered_by l.thread (take l.place l.events) l.positions)
