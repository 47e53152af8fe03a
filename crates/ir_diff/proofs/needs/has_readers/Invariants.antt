use Rattle.ir_diff.specs.Progress.{counts_of_part}
use Rattle.ir_diff.proofs.Needed.{AreOwnOrAmongFirst}
use Rattle.ir_diff.proofs.needs.has_readers.Given as goal

abbrev pub invariant-loop-place : goal.invariant-loop-place
invariant-loop-place l = AreOwnOrAmongFirst l.place-items l.place-index (counts_of_part l.part) l.thread
