use Rattle.std.specs.Io.KnownBytes.{Keeps}
use Rattle.ir_stream.proofs.from_std.write_again.Given as goal

abbrev pub invariant-loop : goal.invariant-loop
invariant-loop g l = Keeps (g.D.Write.contents l.fn.device) (g.D.Write.contents l.device)
