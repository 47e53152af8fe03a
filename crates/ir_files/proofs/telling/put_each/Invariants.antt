use Rattle.std.proofs.Common.{◌≡◌, ◌++◌, List, ℕ, length}
use Rattle.std.specs.Io.KnownBytes.{Appends}
use Rattle.ir_files.specs.Shown.{shown}
use Rattle.ir_files.proofs.telling.put_each.Given as goal

-- what was written, and what is left as it is shown, are the text as it is shown
abbrev pub invariant-bytes : goal.invariant-bytes
invariant-bytes g l = (done : List ℕ) × (shown l.text ≡ done ++ shown l.rest) × Appends (g.E.Sink.written l.fn.faults) (g.E.Sink.written l.faults) done
    × (g.E.Sink.broken l.faults ≡ g.E.Sink.broken l.fn.faults)

abbrev pub decreases-bytes : goal.decreases-bytes
decreases-bytes g l = length l.rest
