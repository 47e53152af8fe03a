use Rattle.ir_asm.proofs.RowTests
use Rattle.ir_asm.proofs.laws.examples.Goals as goal

pub returns-clause-empty : goal.returns-clause-empty
returns-clause-empty c = RowTests.empty_source_bad_size

pub returns-clause-unknown : goal.returns-clause-unknown
returns-clause-unknown c = RowTests.unknown_statement_fault

pub returns-clause-twice : goal.returns-clause-twice
returns-clause-twice c = RowTests.label_twice_is_fault

pub returns-clause-register : goal.returns-clause-register
returns-clause-register c = RowTests.unknown_register_fault

pub returns-clause-number : goal.returns-clause-number
returns-clause-number c = RowTests.number_out_of_range

pub returns-clause-missing : goal.returns-clause-missing
returns-clause-missing c = RowTests.missing_label_is_fault

pub returns-clause-section : goal.returns-clause-section
returns-clause-section c = RowTests.space_in_text_section

pub returns-clause-end : goal.returns-clause-end
returns-clause-end c = RowTests.entry_at_code_end

pub returns-clause-large : goal.returns-clause-large
returns-clause-large c = RowTests.large_image_assembles

pub returns-clause-late : goal.returns-clause-late
returns-clause-late c = RowTests.late_large_is_wrong

pub returns-clause-carried : goal.returns-clause-carried
returns-clause-carried c = RowTests.li_carries_into_upper
