use Rattle.std.proofs.Common.{◌≡◌}
use Rattle.std.specs.Io.KnownBytes.{Keeps}
use Rattle.ir_files.proofs.files.put.Given as goal

abbrev pub invariant-loop : goal.invariant-loop
invariant-loop g l = Keeps (g.D.Folder.known l.fn.file).bytes (g.D.Folder.known l.file).bytes × ((g.D.Folder.known l.file).path ≡ (g.D.Folder.known l.fn.file).path)
