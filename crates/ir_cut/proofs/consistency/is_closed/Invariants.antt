use Rattle.std.proofs.Common.{ℕ, ◌<◌, ◌≡◌, Some}
use Rattle.std.specs.Prelude.{slice_get}
use Rattle.ir_log.specs.Logging.{label_of}
use Rattle.ir_log.specs.declared.event.Event.{Event}
use Rattle.ir_trace.specs.Recorded.{recorded_thread}
use Rattle.ir_cut.specs.Positions.{EachRun, cut_of}
use Rattle.ir_cut.specs.Searching.{AreInside, NeededBy}
use Rattle.ir_cut.proofs.consistency.is_closed.Given as goal

abbrev pub invariant-loop-i : goal.invariant-loop-i
invariant-loop-i l = (e : ℕ) (x : Event) → e < l.i → slice_get (recorded_thread l.fitted.recorded l.fn.t).events e ≡ Some x
    → EachRun l.fitted (λ run. AreInside l.fitted run (NeededBy (label_of x)) (cut_of l.positions))
