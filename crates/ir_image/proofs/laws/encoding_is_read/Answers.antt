use Rattle.ir_image.proofs.Whole.{guest_at_of_encoding}
use Rattle.ir_image.proofs.laws.encoding_is_read.Goals as goal

pub returns : goal.returns
returns c = guest_at_of_encoding
