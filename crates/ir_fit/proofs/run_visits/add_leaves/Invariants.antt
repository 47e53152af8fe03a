use Rattle.std.proofs.Common.{take}
use Rattle.ir_fit.specs.Listed.{AddsAll, left_by_event}
use Rattle.ir_fit.proofs.run_visits.add_leaves.Given as goal

abbrev pub invariant-loop-leave : goal.invariant-loop-leave
invariant-loop-leave l = AddsAll l.fn.visits l.visits (left_by_event l.thread (take l.leave-index l.leaves))
