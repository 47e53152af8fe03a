use Rattle.std.proofs.Common.{length}
use Rattle.ir_command.proofs.words.+word_len.Given as goal

abbrev pub decreases-word_len : goal.decreases-word_len
decreases-word_len l = length l.line.now
