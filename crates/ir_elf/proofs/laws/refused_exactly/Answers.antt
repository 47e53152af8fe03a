use Rattle.ir_elf.proofs.TableTests.{elf_fault_first_failed, guest_made_if_elf_guest, elf_guest_if_guest_made}
use Rattle.ir_elf.proofs.laws.refused_exactly.Goals as goal

pub returns-clause-first : goal.returns-clause-first
returns-clause-first c = elf_fault_first_failed

pub returns-clause-read : goal.returns-clause-read
returns-clause-read c = guest_made_if_elf_guest

pub returns-clause-only : goal.returns-clause-only
returns-clause-only c = elf_guest_if_guest_made
