use Rattle.std.proofs.Common.{◌≡◌, ◌++◌, List, ℕ, length}
use Rattle.std.specs.Io.KnownBytes.{Appends}
use Rattle.ir_files.proofs.files.put_all.Given as goal

abbrev pub invariant-loop-rest : goal.invariant-loop-rest
invariant-loop-rest g l = (done : List ℕ) × (l.bytes ≡ done ++ l.rest)
    × Appends (g.D.Folder.known l.fn.file).bytes (g.D.Folder.known l.file).bytes done × ((g.D.Folder.known l.file).path ≡ (g.D.Folder.known l.fn.file).path)

abbrev pub decreases-loop-rest : goal.decreases-loop-rest
decreases-loop-rest g l = length l.rest
