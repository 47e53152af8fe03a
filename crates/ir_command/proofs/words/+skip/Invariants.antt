use Rattle.std.proofs.Common.{length}
use Rattle.ir_command.proofs.words.+skip.Given as goal

abbrev pub decreases-skip : goal.decreases-skip
decreases-skip l = length l.line.now
