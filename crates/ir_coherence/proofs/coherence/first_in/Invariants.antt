use Rattle.std.proofs.Common.{◌≡◌, ℕ, ◌<◌, Some, None, slice_get}
use Rattle.ir_log.specs.Logging.{label_of}
use Rattle.ir_log.specs.declared.event.Event.{Event}
use Rattle.ir_coherence.specs.Counting.{cause_by, reads_of, writes_of}
use Rattle.ir_coherence.proofs.coherence.first_in.Given as goal

abbrev pub invariant-loop-place : goal.invariant-loop-place
invariant-loop-place l = (j : ℕ) (e : Event) → j < l.place → slice_get l.events j ≡ Some e
    → cause_by (reads_of l.counts) (writes_of l.counts) (label_of e) ≡ None
