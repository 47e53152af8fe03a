use Rattle.ir_monitor.proofs.Unknown.{question_line_is_no_command}
use Rattle.ir_monitor.proofs.laws.no_question_is_a_command.Goals as goal

pub returns : goal.returns
returns c = question_line_is_no_command
