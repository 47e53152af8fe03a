use Rattle.ir_image.proofs.Whole.{guest_at_takes_encoding}
use Rattle.ir_image.proofs.laws.read_is_encoded.Goals as goal

pub returns : goal.returns
returns c = guest_at_takes_encoding
