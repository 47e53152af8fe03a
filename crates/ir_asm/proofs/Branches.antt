-- Branches, words that are no instruction, and calls.
use Rattle.std.proofs.Common.{◌≡◌, ◌+◌, ◌%◌, ◌<◌, ◌^◌, ℕ, suc, true, List, [], ◌∷◌, ◌++◌, Some, Ok, refl, ap, ◌∙◌, arith}
use Rattle.std.specs.Prelude.{◌&&◌, not, ◌==◌, decimal, codes, ℤ, pos, negsuc, nat_abs, ◌≤ℤ◌}
use Rattle.std.specs.List.{list_all}
use Rattle.std.proofs.lemmas.Bool.{and_parts, le-leb}
use Rattle.std.proofs.lemmas.Grind.{common_steps}
use Rattle.ir_isa.specs.Fields.{low_bits, register_name}
use Rattle.ir_isa.specs.Even.{IsEven}
use Rattle.ir_isa.specs.Words.{word_of}
use Rattle.ir_isa.specs.declared.inst.Inst.TheVariants.{Branch, Shift}
use Rattle.ir_isa.specs.declared.inst.BranchOp.{BranchOp}
use Rattle.ir_isa.specs.declared.inst.ShiftOp.{ShiftOp}
use Rattle.ir_isa.specs.declared.inst.ShiftOp.TheVariants.{Slli, Srli, Srai}
use Rattle.ir_isa.specs.declared.inst.Register.{Register}
use Rattle.ir_isa.specs.declared.inst.BranchOffset.{BranchOffset}
use Rattle.ir_isa.specs.declared.inst.ShiftAmount.{ShiftAmount}
use Rattle.ir_asm.specs.declared.form.Form.TheVariants.{Shifts, Branches, Words}
use Rattle.ir_asm.specs.declared.item.Operand.TheVariants.{Index, Integer}
use Rattle.ir_asm.specs.declared.item.Item.TheVariants.{Code}
use Rattle.ir_asm.specs.Text.{trim, trim_end}
use Rattle.ir_disasm.specs.Printed.{far, distance, hex, instruction_text}
use Rattle.ir_disasm.specs.Names.{branch_name, shift_name, one}
use Rattle.ir_asm.specs.Forms.{form_named}
use Rattle.ir_asm.specs.Operands.{operands_of, int_le, is_even, distance_in, operand_distance_text}
use Rattle.ir_asm.specs.Items.{instruction}
use Rattle.ir_asm.specs.Source.{texts_of, is_source_byte}
use Rattle.ir_asm.specs.Passes.{assembled, IsWordGuest}
use Rattle.ir_asm.proofs.Pieces.{all_pass_in_append, clean, IsPiece, split_without_separator, clean_lacks_unclean, trim_of_clean_text}
use Rattle.ir_asm.proofs.Pieces.{trim_end_of_clean_text, before_no_separator, clean_byte_is_not_blank}
use Rattle.ir_asm.proofs.Numbers.{register-register_name, register_name_is_piece, natural_of_decimal, decimal_is_piece, natural_of_hex_word, hex_is_clean, number_of_decimal}
use Rattle.ir_asm.proofs.FieldLaws.{branch_offset_of_own, amount_of_own_bits}
use Rattle.ir_asm.proofs.Statements.{Says, said_word_assembles}
use Rattle.ir_asm.proofs.Formats.{IsLastOperand, piece_is_last_operand, three_operands_say_word, trim_end_keeps_prefix, before_keeps_prefix}
use Rattle.ir_asm.proofs.Formats.{before_lacks_byte, clean_bytes_pass, clean_is_source_byte, form_of_branch_name, branch_name_is_piece}

trim_end_of_blank : (a : List ℕ) → list_all clean a ≡ true → trim_end (a ++ 32 ∷ []) ≡ a
trim_end_of_blank [] h = refl
trim_end_of_blank (b ∷ a) h =
    let p = and_parts (clean b) (list_all clean a) h in
    rw (clean_byte_is_not_blank b p.0) (ap (λ (l : List ℕ). b ∷ l) (trim_end_of_blank a p.1))

distance_is_piece : (z : ℤ) → nat_abs z < 2 ^ 64 → IsPiece (distance z)
distance_is_piece (pos n) h = record { some = refl; all = (decimal_is_piece n h).all }
distance_is_piece (negsuc n) h = record { some = refl; all = (decimal_is_piece (suc n) h).all }

pub far_is_last_operand : (pc : ℕ) (z : ℤ) → nat_abs z < 2 ^ 64 → IsLastOperand (far pc z) (distance z)
far_is_last_operand pc z h =
    let p = distance_is_piece z h in
    let t : ℕ = (pc + low_bits 32 z) % 2 ^ 32 in
    record {
      trimmed = ap trim_end (before_keeps_prefix 35 (distance z) (codes " # " ++ hex 8 t) (clean_lacks_unclean 35 (distance z) refl p.all))
          ∙ trim_end_of_blank (distance z) p.all;
      piece_is = p;
      feed = all_pass_in_append (λ b. not (b == 10)) (distance z) (codes " # " ++ hex 8 t) (clean_lacks_unclean 10 (distance z) refl p.all)
          (clean_lacks_unclean 10 (hex 8 t) refl (hex_is_clean 8 t));
      source = all_pass_in_append is_source_byte (distance z) (codes " # " ++ hex 8 t) (clean_bytes_pass is_source_byte clean_is_source_byte (distance z) p.all)
          (clean_bytes_pass is_source_byte clean_is_source_byte (hex 8 t) (hex_is_clean 8 t));
      colon = all_pass_in_append (λ b. not (b == 58)) (distance z) (codes " # " ++ hex 8 t) (clean_lacks_unclean 58 (distance z) refl p.all)
          (clean_lacks_unclean 58 (hex 8 t) refl (hex_is_clean 8 t));
    }

pub distance_text-distance : (z : ℤ) → nat_abs z < 10 ^ 10 → operand_distance_text (distance z) ≡ Some z
distance_text-distance (pos n) h = rw (natural_of_decimal n h) refl
distance_text-distance (negsuc n) h = rw (natural_of_decimal (suc n) h) refl

branch_range_test : (z : ℤ) → negsuc 4095 ≤ℤ z → z ≤ℤ pos 4094 → (int_le (negsuc 4095) z && int_le z (pos 4094)) ≡ true
branch_range_test (pos n) h k = grind (arith, common_steps)
branch_range_test (negsuc n) h k = grind (arith, common_steps)

branch_offset_fits_33 : (z : ℤ) → negsuc 4095 ≤ℤ z → z ≤ℤ pos 4094 → nat_abs z < 2 ^ 33
branch_offset_fits_33 (pos n) h k = grind (arith, common_steps)
branch_offset_fits_33 (negsuc n) h k = grind (arith, common_steps)

pub is_even_is_true_if_even : (z : ℤ) → IsEven z → is_even z ≡ true
is_even_is_true_if_even (pos n) h = grind (arith, common_steps)
is_even_is_true_if_even (negsuc n) h = grind (arith, common_steps)

branch_operands_printed : (op : BranchOp) (a b : Register) (z : ℤ) → distance_in (negsuc 4095) (pos 4094) (distance z) ≡ Ok z
    → operands_of (Branches op) (register_name a.number ∷ register_name b.number ∷ distance z ∷ []) ≡ Ok
    (Index a ∷ Index b ∷ Integer z ∷ [])
branch_operands_printed op a b (pos n) e = rw ((register_name_is_piece a).some, (register_name_is_piece b).some) (rw (register-register_name a, register-register_name b, e) refl)
branch_operands_printed op a b (negsuc n) e = rw ((register_name_is_piece a).some, (register_name_is_piece b).some) (rw (register-register_name a, register-register_name b, e) refl)

branch_distance_printed : (i : BranchOffset) → distance_in (negsuc 4095) (pos 4094) (distance i.value) ≡ Ok i.value
branch_distance_printed i =
    let small = branch_offset_fits_33 i.value i.low i.high in
    rw (distance_text-distance i.value (omega (arith, small))) (rw (is_even_is_true_if_even i.value i.even, branch_range_test i.value i.low i.high) refl)

pub branch_assembles : (pc : ℕ) (op : BranchOp) (rs1 rs2 : Register) (i : BranchOffset)
    → IsWordGuest (assembled (instruction_text pc (Branch op rs1 rs2 i))) (word_of (Branch op rs1 rs2 i))
branch_assembles pc op rs1 rs2 i =
    let small = branch_offset_fits_33 i.value i.low i.high in
    said_word_assembles _ _ _ (three_operands_say_word (branch_name op) (register_name rs1.number) (register_name rs2.number) (far pc i.value)
    (distance i.value) (word_of (Branch op rs1 rs2 i)) (Branches op) (Index rs1 ∷ Index rs2 ∷ Integer i.value ∷ [])
    (branch_name_is_piece op) (register_name_is_piece rs1) (register_name_is_piece rs2) (far_is_last_operand pc i.value (omega (arith, small)))
    (form_of_branch_name op) refl (branch_operands_printed op rs1 rs2 i.value (branch_distance_printed i))
    (ap (λ (x : BranchOffset). instruction (Branch op rs1 rs2 x)) (branch_offset_of_own i)))

-- ---- .word

pub texts_of_trimmed_piece : (a : List ℕ) → IsPiece a → texts_of (trim (32 ∷ a)) ≡ a ∷ []
texts_of_trimmed_piece a p = ap texts_of (trim_of_clean_text a p.all) ∙ one_part a p
  where
    one_part : (a : List ℕ) → IsPiece a → texts_of a ≡ a ∷ []
    one_part a p = rw (p.some, split_without_separator 44 a (clean_lacks_unclean 44 a refl p.all)) (rw (trim_of_clean_text a p.all) refl)

hex_word_is_piece : (n : ℕ) → IsPiece (codes "0x" ++ hex 8 n)
hex_word_is_piece n = record { some = refl; all = hex_is_clean 8 n }

word_operands_printed : (n : ℕ) → n < 2 ^ 32 → operands_of Words ((codes "0x" ++ hex 8 n) ∷ []) ≡ Ok (Integer (pos n) ∷ [])
word_operands_printed n h =
    rw (natural_of_hex_word n h) (rw (le-leb n 4294967295 (omega (arith, h))) refl)

word_modulo_is_itself : (n : ℕ) → n < 2 ^ 32 → n % 2 ^ 32 ≡ n
word_modulo_is_itself n h = omega (arith, h)

pub word_line_says_word : (n : ℕ) → n < 2 ^ 32 → Says (one (codes ".word") (codes "0x" ++ hex 8 n)) (one (codes ".word") (codes "0x" ++ hex 8 n)) n
word_line_says_word n h =
    let c : List ℕ = hex 8 n in
    let k : list_all clean c ≡ true = hex_is_clean 8 n in
    let p = hex_word_is_piece n in
    record {
      form = Words;
      xs = Integer (pos n) ∷ [];
      feed = clean_lacks_unclean 10 c refl k;
      source = clean_bytes_pass is_source_byte clean_is_source_byte c k;
      colon = before_lacks_byte 58 35 (one (codes ".word") (codes "0x" ++ c)) (clean_lacks_unclean 58 c refl k);
      trimmed = ap trim (before_no_separator 35 (one (codes ".word") (codes "0x" ++ c)) (clean_lacks_unclean 35 c refl k))
          ∙ trim_end_keeps_prefix (codes ".word ") (codes "0x" ++ c) (codes "0x" ++ c) (trim_end_of_clean_text (codes "0x" ++ c) p.all) refl;
      some = refl;
      named = refl;
      stands = refl;
      read = ap (operands_of Words) (texts_of_trimmed_piece (codes "0x" ++ c) p) ∙ word_operands_printed n h;
      means = ap (λ (w : ℕ). Code (w ∷ [])) (word_modulo_is_itself n h);
    }

pub word_line_assembles : (n : ℕ) → n < 2 ^ 32 → IsWordGuest (assembled (one (codes ".word") (codes "0x" ++ hex 8 n))) n
word_line_assembles n h = said_word_assembles _ _ _ (word_line_says_word n h)

-- ---- shifts

form_of_shift_name : (op : ShiftOp) → form_named (shift_name op) ≡ Some (Shifts op)
form_of_shift_name Slli = refl
form_of_shift_name Srli = refl
form_of_shift_name Srai = refl

shift_name_is_piece : (op : ShiftOp) → IsPiece (shift_name op)
shift_name_is_piece Slli = record { some = refl; all = refl }
shift_name_is_piece Srli = record { some = refl; all = refl }
shift_name_is_piece Srai = record { some = refl; all = refl }

shift_operands_printed : (op : ShiftOp) (a b : Register) (n : ℕ) → n < 32
    → operands_of (Shifts op) (register_name a.number ∷ register_name b.number ∷ decimal n ∷ []) ≡ Ok
    (Index a ∷ Index b ∷ Integer (pos n) ∷ [])
shift_operands_printed op a b n l =
    rw ((register_name_is_piece a).some, (register_name_is_piece b).some, (decimal_is_piece n (omega (arith, l))).some)
    (rw (register-register_name a, register-register_name b, number_of_decimal n (omega (arith, l)))
    (rw (le-leb 0 n (omega arith), le-leb n 31 (omega (arith, l))) refl))

pub printed_shift_assembles : (pc : ℕ) (op : ShiftOp) (rd rs1 : Register) (a : ShiftAmount)
    → IsWordGuest (assembled (instruction_text pc (Shift op rd rs1 a))) (word_of (Shift op rd rs1 a))
printed_shift_assembles pc op rd rs1 a =
    said_word_assembles _ _ _ (three_operands_say_word (shift_name op) (register_name rd.number) (register_name rs1.number) (decimal a.bits) (decimal a.bits)
    (word_of (Shift op rd rs1 a)) (Shifts op) (Index rd ∷ Index rs1 ∷ Integer (pos a.bits) ∷ [])
    (shift_name_is_piece op) (register_name_is_piece rd) (register_name_is_piece rs1)
    (piece_is_last_operand (decimal a.bits) (decimal_is_piece a.bits (omega (arith, a.in_range))))
    (form_of_shift_name op) refl (shift_operands_printed op rd rs1 a.bits a.in_range)
    (ap (λ (x : ShiftAmount). instruction (Shift op rd rs1 x)) (amount_of_own_bits a)))
