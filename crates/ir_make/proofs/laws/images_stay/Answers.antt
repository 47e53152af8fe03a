use Rattle.ir_make.proofs.ElfFiles.{images_are_taken}
use Rattle.ir_make.proofs.laws.images_stay.Goals as goal

pub returns : goal.returns
returns c = images_are_taken
