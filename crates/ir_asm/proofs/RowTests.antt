-- Sources and their answers.
use Rattle.std.proofs.Common.{◌≡◌, [], ◌∷◌, Ok, Err, refl}
use Rattle.std.specs.Prelude.{codes}
use Rattle.ir_image.specs.declared.form.ImageForm.TheVariants.{Small, Large}
use Rattle.ir_asm.specs.Passes.{assembled}
use Rattle.ir_asm.specs.declared.cause.Cause.TheVariants.{BadByte, UnknownStatement, WrongOperands, UnknownRegister, BadNumber, LabelTwice, LabelMissing, WrongSection, BadSize, BadCount, BadLabel}

comma_after_name : assembled (codes "nop,") ≡ Err (record { line = 1; cause = UnknownStatement })
comma_after_name = refl

address_without_offset : assembled (codes "lw a0, (a0)") ≡ Err (record { line = 1; cause = BadNumber })
address_without_offset = refl

address_without_register : assembled (codes "lw a0, 4()") ≡ Err (record { line = 1; cause = UnknownRegister })
address_without_register = refl

bad_offset_first : assembled (codes "lw a0, 2048(zer)") ≡ Err (record { line = 1; cause = BadNumber })
bad_offset_first = refl

register_in_parentheses : assembled (codes "addi a0, (zero), 1") ≡ Err (record { line = 1; cause = UnknownRegister })
register_in_parentheses = refl

wrong_shapes_first : assembled (codes "beq zer, a1, $x") ≡ Err (record { line = 1; cause = WrongOperands })
wrong_shapes_first = refl

unknown_register_first : assembled (codes "beq zer, a1, 5") ≡ Err (record { line = 1; cause = UnknownRegister })
unknown_register_first = refl

word_without_operand : assembled (codes ".word") ≡ Err (record { line = 1; cause = WrongOperands })
word_without_operand = refl

return_is_bad_byte : assembled (codes "nop\r") ≡ Err (record { line = 1; cause = BadByte })
return_is_bad_byte = refl

digit_is_bad_label : assembled (codes "9: nop") ≡ Err (record { line = 1; cause = BadLabel })
digit_is_bad_label = refl

space_beyond_memory : assembled (codes ".data\n.space 65537") ≡ Err (record { line = 2; cause = BadNumber })
space_beyond_memory = refl

object_beyond_count : assembled (codes "nop\n.object 0, 1") ≡ Err (record { line = 2; cause = BadCount })
object_beyond_count = refl

pub li_with_comment : assembled (codes "li a0, 0x12345FFF # x: y") ≡ Ok
    (record { form = Small; entries = 0x00010000 ∷ []; code = 0x12346537 ∷ 0xFFF50513 ∷ []; bytes = []; words = [] })
li_with_comment = refl

labels_blanks_returns : assembled (codes "a:b: lw a0 , 4 ( sp )\r\n beq a0, x0, a") ≡ Ok
    (record { form = Small; entries = 0x00010000 ∷ []; code = 0x00412503 ∷ 0xFE050EE3 ∷ []; bytes = []; words = [] })
labels_blanks_returns = refl

pub empty_source_bad_size : assembled (codes "") ≡ Err (record { line = 2; cause = BadSize })
empty_source_bad_size = refl

pub unknown_statement_fault : assembled (codes "x\n") ≡ Err (record { line = 1; cause = UnknownStatement })
unknown_statement_fault = refl

pub label_twice_is_fault : assembled (codes "a: a: nop\n") ≡ Err (record { line = 1; cause = LabelTwice })
label_twice_is_fault = refl

pub unknown_register_fault : assembled (codes "addi a0, zer, 2048\n") ≡ Err (record { line = 1; cause = UnknownRegister })
unknown_register_fault = refl

pub number_out_of_range : assembled (codes "addi a0, zero, 2048\n") ≡ Err (record { line = 1; cause = BadNumber })
number_out_of_range = refl

pub missing_label_is_fault : assembled (codes "beq a0, a1, far\n") ≡ Err (record { line = 1; cause = LabelMissing })
missing_label_is_fault = refl

pub space_in_text_section : assembled (codes "nop\n.space 1\n") ≡ Err (record { line = 2; cause = WrongSection })
space_in_text_section = refl

pub entry_at_code_end : assembled (codes "nop\nend: .thread end\n") ≡ Err (record { line = 2; cause = WrongSection })
entry_at_code_end = refl

pub li_carries_into_upper : assembled (codes "li a0, 0x12345FFF") ≡ Ok
    (record { form = Small; entries = 0x00010000 ∷ []; code = 0x12346537 ∷ 0xFFF50513 ∷ []; bytes = []; words = [] })
li_carries_into_upper = refl

data_directives_assemble : assembled (codes ".data\n.byte 1, 255\n.word 258\n.space 2\n.byte 9\n.text\nnop") ≡ Ok
    (record { form = Small; entries = 0x00010000 ∷ []; code = 0x13 ∷ []; bytes = 0x01 ∷ 0xff ∷ 0x02 ∷ 0x01 ∷ 0 ∷ 0 ∷ 0 ∷ 0 ∷ 0x09 ∷ []; words = [] })
data_directives_assemble = refl

thread_entries_assemble : assembled (codes "nop\na: nop\n.thread a\n.thread b\nb: nop") ≡ Ok
    (record { form = Small; entries = 0x10004 ∷ 0x10008 ∷ []; code = 0x13 ∷ 0x13 ∷ 0x13 ∷ []; bytes = []; words = [] })
thread_entries_assemble = refl

object_words_assemble : assembled (codes ".object 1, 5, -1\n.objects 1\n.objects 2\nnop") ≡ Ok
    (record {
      form = Small;
      entries = 0x10000 ∷ [];
      code = 0x13 ∷ [];
      bytes = [];
      words = 0 ∷ 0 ∷ 0 ∷ 0 ∷ 0 ∷ 0 ∷ 0 ∷ 0 ∷ 5 ∷ 0xFFFFFFFF ∷ 0 ∷ 0 ∷ 0 ∷ 0
          ∷ 0 ∷ 0 ∷ [];
    })
object_words_assemble = refl

li_of_data_label : assembled (codes ".data\n.byte 1\nx: .byte 2\n.text\nli a0, x") ≡ Ok
    (record { form = Small; entries = 0x10000 ∷ []; code = 0x00100537 ∷ 0x00150513 ∷ []; bytes = 1 ∷ 2 ∷ []; words = [] })
li_of_data_label = refl

object_beyond_last_count : assembled (codes ".objects 2\n.object 1, 1\n.objects 1\nnop\n") ≡ Err (record { line = 2; cause = BadCount })
object_beyond_last_count = refl

branch_to_data_label : assembled (codes "beq a0, a1, far\n.data\nfar: .byte 1\n") ≡ Err (record { line = 1; cause = WrongSection })
branch_to_data_label = refl

bad_label_before_twice : assembled (codes "a: a: 9: nop\n") ≡ Err (record { line = 1; cause = BadLabel })
bad_label_before_twice = refl

wrong_section_first : assembled (codes ".data\naddi zer") ≡ Err (record { line = 2; cause = WrongSection })
wrong_section_first = refl

first_pass_fault_first : assembled (codes "jal ra, far\nfoo\n") ≡ Err (record { line = 2; cause = UnknownStatement })
first_pass_fault_first = refl

large_object_assembles : assembled (codes "a: # large\nb: .large\n.objects 1\n.object 0, 1, 2, 3, 4, 5, 6, 7, 8, 9, 10, 11, 12, 13, 14, 15, 16\nnop") ≡ Ok
    (record {
      form = Large;
      entries = 0x10000 ∷ [];
      code = 0x13 ∷ [];
      bytes = [];
      words = 1 ∷ 2 ∷ 3 ∷ 4 ∷ 5 ∷ 6 ∷ 7 ∷ 8 ∷ 9 ∷ 10 ∷ 11 ∷ 12 ∷ 13 ∷ 14 ∷ 15 ∷ 16 ∷ [];
    })
large_object_assembles = refl

pub large_image_assembles : assembled (codes ".large\nnop") ≡ Ok
    (record { form = Large; entries = 0x00010000 ∷ []; code = 0x13 ∷ []; bytes = []; words = [] })
large_image_assembles = refl

pub late_large_is_wrong : assembled (codes "nop\n.large\n") ≡ Err (record { line = 2; cause = WrongSection })
late_large_is_wrong = refl

second_large_is_wrong : assembled (codes ".large\n.large\nnop") ≡ Err (record { line = 2; cause = WrongSection })
second_large_is_wrong = refl

large_takes_no_operand : assembled (codes ".large 1\nnop") ≡ Err (record { line = 1; cause = WrongOperands })
large_takes_no_operand = refl

late_large_comes_first : assembled (codes "nop\n.large 1") ≡ Err (record { line = 2; cause = WrongSection })
late_large_comes_first = refl

small_takes_eight_words : assembled (codes ".object 0, 1, 2, 3, 4, 5, 6, 7, x") ≡ Err (record { line = 1; cause = BadNumber })
small_takes_eight_words = refl

small_lacks_nine_words : assembled (codes ".object 0, 1, 2, 3, 4, 5, 6, 7, 8, x") ≡ Err (record { line = 1; cause = WrongOperands })
small_lacks_nine_words = refl

large_lacks_17_words : assembled (codes ".large\n.object 0, 1, 2, 3, 4, 5, 6, 7, 8, 9, 10, 11, 12, 13, 14, 15, 16, 17\nnop") ≡ Err
    (record { line = 2; cause = WrongOperands })
large_lacks_17_words = refl

small_lacks_17_objects : assembled (codes ".objects 17\nnop") ≡ Err (record { line = 1; cause = BadNumber })
small_lacks_17_objects = refl

large_lacks_65_objects : assembled (codes ".large\n.objects 65\nnop") ≡ Err (record { line = 2; cause = BadNumber })
large_lacks_65_objects = refl

large_takes_64_objects : assembled (codes ".large\n.objects 64\n") ≡ Err (record { line = 4; cause = BadSize })
large_takes_64_objects = refl
