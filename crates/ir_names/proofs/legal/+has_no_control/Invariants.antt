use Rattle.std.proofs.Common.{length}
use Rattle.ir_names.proofs.legal.+has_no_control.Given as goal

abbrev pub decreases-has_no_control : goal.decreases-has_no_control
decreases-has_no_control l = length l.text.now
