-- Two operands; jumps.
use Rattle.std.proofs.Common.{◌≡◌, ◌<◌, ◌^◌, ℕ, Bool, true, List, [], ◌∷◌, ◌++◌, Some, Ok, refl, ap, ◌∙◌, arith}
use Rattle.std.specs.Prelude.{◌&&◌, not, ◌==◌, codes, ℤ, pos, negsuc, nat_abs, ◌≤ℤ◌}
use Rattle.std.specs.List.{list_all}
use Rattle.std.proofs.lemmas.Grind.{common_steps}
use Rattle.ir_isa.specs.Fields.{register_name}
use Rattle.ir_isa.specs.Words.{word_of}
use Rattle.ir_isa.specs.declared.inst.Inst.TheVariants.{Jal}
use Rattle.ir_isa.specs.declared.inst.Register.{Register}
use Rattle.ir_isa.specs.declared.inst.JumpOffset.{JumpOffset}
use Rattle.ir_asm.specs.declared.form.Section.TheVariants.{Text}
use Rattle.ir_asm.specs.declared.form.Form.{Form}
use Rattle.ir_asm.specs.declared.form.Form.TheVariants.{Jumps}
use Rattle.ir_asm.specs.declared.item.Operand.{Operand}
use Rattle.ir_asm.specs.declared.item.Operand.TheVariants.{Index, Integer}
use Rattle.ir_asm.specs.declared.item.Item.TheVariants.{Code}
use Rattle.ir_asm.specs.Text.{text_before, trim, trim_end}
use Rattle.ir_image.specs.declared.form.ImageForm.TheVariants.{Small}
use Rattle.ir_asm.specs.Forms.{form_named, in_image, stands_in}
use Rattle.ir_asm.specs.Operands.{operands_of, int_le, distance_in}
use Rattle.ir_asm.specs.Items.{instruction, source_item}
use Rattle.ir_asm.specs.Source.{operand_texts, texts_of, is_source_byte, may_stand}
use Rattle.ir_asm.specs.Passes.{assembled, IsWordGuest}
use Rattle.ir_disasm.specs.Printed.{two, far, distance, instruction_text}
use Rattle.ir_asm.proofs.Pieces.{all_pass_in_append, IsPiece, skip_blanks_clean_start, append_is_nonempty, until_blank_is_part}
use Rattle.ir_asm.proofs.Pieces.{from_blank_is_rest, split_at_separator, split_without_separator, clean_lacks_unclean, trim_of_clean_text}
use Rattle.ir_asm.proofs.Pieces.{trim_end_of_clean_text}
use Rattle.ir_asm.proofs.Numbers.{register-register_name, register_name_is_piece}
use Rattle.ir_asm.proofs.FieldLaws.{jump_offset_of_own}
use Rattle.ir_asm.proofs.Statements.{Says, said_word_assembles}
use Rattle.ir_asm.proofs.Formats.{IsLastOperand, trim_end_keeps_prefix, before_keeps_prefix, before_lacks_byte, clean_bytes_pass, clean_is_source_byte}
use Rattle.ir_asm.proofs.Branches.{far_is_last_operand, distance_text-distance, is_even_is_true_if_even}

two_operands_pass : (p : ℕ → Bool) → p 32 ≡ true → p 44 ≡ true → (name a c : List ℕ) → list_all p name ≡ true → list_all p a ≡ true
    → list_all p c ≡ true → list_all p (two name a c) ≡ true
two_operands_pass p s t name a c h i k =
    all_pass_in_append p name (32 ∷ (a ++ 44 ∷ 32 ∷ c)) h
    (rw s (all_pass_in_append p a (44 ∷ 32 ∷ c) i
    (rw (t, s) k)))

before_comment_of_two : (name a raw : List ℕ) → IsPiece name → IsPiece a → text_before 35 (two name a raw) ≡ two name a (text_before 35 raw)
before_comment_of_two name a raw p q =
    before_keeps_prefix 35 name (32 ∷ (a ++ 44 ∷ 32 ∷ raw)) (clean_lacks_unclean 35 name refl p.all)
    ∙ ap (λ (l : List ℕ). name ++ 32 ∷ l) (before_keeps_prefix 35 a (44 ∷ 32 ∷ raw) (clean_lacks_unclean 35 a refl q.all))

trim_two_operands : (name a raw c : List ℕ) → IsPiece name → trim_end raw ≡ c → IsPiece c → trim (two name a raw) ≡ two name a c
trim_two_operands name a raw c p e q =
    ap trim_end (skip_blanks_clean_start name (32 ∷ (a ++ 44 ∷ 32 ∷ raw)) p.some p.all)
    ∙ trim_end_keeps_prefix name (32 ∷ (a ++ 44 ∷ 32 ∷ raw)) (32 ∷ (a ++ 44 ∷ 32 ∷ c))
    (trim_end_keeps_prefix (32 ∷ []) (a ++ 44 ∷ 32 ∷ raw) (a ++ 44 ∷ 32 ∷ c)
    (trim_end_keeps_prefix a (44 ∷ 32 ∷ raw) (44 ∷ 32 ∷ c)
    (trim_end_keeps_prefix (44 ∷ 32 ∷ []) raw c e q.some) refl)
    (append_is_nonempty a (44 ∷ 32 ∷ c) refl)) refl

texts_of_two_operands : (name a c : List ℕ) → IsPiece name → IsPiece a → IsPiece c → operand_texts (two name a c) ≡ a ∷ c ∷ []
texts_of_two_operands name a c n p r =
    ap (λ (l : List ℕ). texts_of (trim l)) (from_blank_is_rest name (a ++ 44 ∷ 32 ∷ c) n.all)
    ∙ ap texts_of (ap trim_end (skip_blanks_clean_start a (44 ∷ 32 ∷ c) p.some p.all)
    ∙ trim_end_keeps_prefix a (44 ∷ 32 ∷ c) (44 ∷ 32 ∷ c)
    (trim_end_keeps_prefix (44 ∷ 32 ∷ []) c c (trim_end_of_clean_text c r.all) r.some) refl)
    ∙ rw (
      append_is_nonempty a (44 ∷ 32 ∷ c) refl,
      split_at_separator 44 a (32 ∷ c) (clean_lacks_unclean 44 a refl p.all),
      split_without_separator 44 (32 ∷ c)
          (clean_lacks_unclean 44 c refl r.all),
    )
    (rw (trim_of_clean_text a p.all, trim_of_clean_text c r.all) refl)

pub two_operands_say_word : (name a raw c : List ℕ) (word : ℕ) (form : Form) (xs : List Operand) → IsPiece name → IsPiece a → IsLastOperand raw c →
    form_named name ≡ Some form → may_stand (stands_in form) Text ≡ true → operands_of (in_image Small form) (a ∷ c ∷ []) ≡ Ok xs
    → source_item (in_image Small form) xs ≡ Code (word ∷ []) →
    Says (two name a raw) (two name a c) word
two_operands_say_word name a raw c word form xs n p r e s o m = record {
  form = form;
  xs = xs;
  feed = two_operands_pass (λ b. not (b == 10)) refl refl name a raw (clean_lacks_unclean 10 name refl n.all) (clean_lacks_unclean 10 a refl p.all) r.feed;
  source = two_operands_pass is_source_byte refl refl name a raw (clean_bytes_pass is_source_byte clean_is_source_byte name n.all)
      (clean_bytes_pass is_source_byte clean_is_source_byte a p.all) r.source;
  colon = before_lacks_byte 58 35 (two name a raw) (two_operands_pass (λ b. not (b == 58)) refl refl name a raw (clean_lacks_unclean 58 name refl n.all)
      (clean_lacks_unclean 58 a refl p.all) r.colon);
  trimmed = ap trim (before_comment_of_two name a raw n p) ∙ trim_two_operands name a (text_before 35 raw) c n r.trimmed r.piece_is;
  some = append_is_nonempty name (32 ∷ (a ++ 44 ∷ 32 ∷ c)) refl;
  named = ap form_named (until_blank_is_part name (a ++ 44 ∷ 32 ∷ c) n.all) ∙ e;
  stands = s;
  read = ap (operands_of (in_image Small form)) (texts_of_two_operands name a c n p r.piece_is) ∙ o;
  means = m;
}

jump_range_test : (z : ℤ) → negsuc 1048575 ≤ℤ z → z ≤ℤ pos 1048574 → (int_le (negsuc 1048575) z && int_le z (pos 1048574)) ≡ true
jump_range_test (pos n) h k = grind (arith, common_steps)
jump_range_test (negsuc n) h k = grind (arith, common_steps)

jump_offset_fits_33 : (z : ℤ) → negsuc 1048575 ≤ℤ z → z ≤ℤ pos 1048574 → nat_abs z < 2 ^ 33
jump_offset_fits_33 (pos n) h k = grind (arith, common_steps)
jump_offset_fits_33 (negsuc n) h k = grind (arith, common_steps)

jump_operands_printed : (a : Register) (z : ℤ) → distance_in (negsuc 1048575) (pos 1048574) (distance z) ≡ Ok z
    → operands_of Jumps (register_name a.number ∷ distance z ∷ []) ≡ Ok (Index a ∷ Integer z ∷ [])
jump_operands_printed a (pos n) e = rw ((register_name_is_piece a).some) (rw (register-register_name a, e) refl)
jump_operands_printed a (negsuc n) e = rw ((register_name_is_piece a).some) (rw (register-register_name a, e) refl)

jump_distance_printed : (i : JumpOffset) → distance_in (negsuc 1048575) (pos 1048574) (distance i.value) ≡ Ok i.value
jump_distance_printed i =
    let small = jump_offset_fits_33 i.value i.low i.high in
    rw (distance_text-distance i.value (omega (arith, small))) (rw (is_even_is_true_if_even i.value i.even, jump_range_test i.value i.low i.high) refl)

pub printed_jump_assembles : (pc : ℕ) (rd : Register) (i : JumpOffset) → IsWordGuest (assembled (instruction_text pc (Jal rd i))) (word_of (Jal rd i))
printed_jump_assembles pc rd i =
    let small = jump_offset_fits_33 i.value i.low i.high in
    said_word_assembles _ _ _ (two_operands_say_word (codes "jal") (register_name rd.number) (far pc i.value) (distance i.value) (word_of (Jal rd i)) Jumps
    (Index rd ∷ Integer i.value ∷ [])
    (record { some = refl; all = refl }) (register_name_is_piece rd) (far_is_last_operand pc i.value (omega (arith, small)))
    refl refl (jump_operands_printed rd i.value (jump_distance_printed i)) (ap (λ (x : JumpOffset). instruction (Jal rd x)) (jump_offset_of_own i)))
