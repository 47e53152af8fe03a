use Rattle.ir_picture.specs.Answers.{page_tail}
use Rattle.ir_picture.proofs.frame.push_tail.Goals as goal

pub returns : goal.returns
unfolding page_tail
returns c = c.push_four.ensures
