use Rattle.ir_elf.proofs.Whole.{elf_guest_is_guest}
use Rattle.ir_elf.proofs.laws.elf_round_trip.Goals as goal

pub returns-clause-within : goal.returns-clause-within
returns-clause-within c = elf_guest_is_guest

pub returns-clause-again : goal.returns-clause-again
returns-clause-again c = λ file g fits e. c.encoding_is_read.ensures g (elf_guest_is_guest file g fits e)
