-- Each format's text says its word.
use Rattle.std.proofs.Common.{◌≡◌, ◌<◌, ◌^◌, ℕ, Bool, true, false, cond, List, [], ◌∷◌, ◌++◌, Some, Ok, refl, ap, ◌∙◌, arith}
use Rattle.std.specs.Prelude.{◌&&◌, not, ◌==◌, ℤ, pos, negsuc, nat_abs, ◌≤ℤ◌}
use Rattle.std.specs.List.{list_all}
use Rattle.std.specs.Fmt.{signed_decimal}
use Rattle.std.proofs.lemmas.Bool.{and_parts}
use Rattle.std.proofs.lemmas.Grind.{common_steps}
use Rattle.ir_lemmas.proofs.CallerLemmas.{conjunction_with_false}
use Rattle.ir_isa.specs.Fields.{register_name}
use Rattle.ir_isa.specs.Words.{word_of}
use Rattle.ir_isa.specs.declared.inst.Inst.TheVariants.{OpImm, Op}
use Rattle.ir_isa.specs.declared.inst.BranchOp.{BranchOp}
use Rattle.ir_isa.specs.declared.inst.BranchOp.TheVariants.{Beq, Bne, Blt, Bge, Bltu, Bgeu}
use Rattle.ir_isa.specs.declared.inst.ImmediateOp.{ImmediateOp}
use Rattle.ir_isa.specs.declared.inst.ImmediateOp.TheVariants.{Addi, Slti, Sltiu, Xori, Ori, Andi}
use Rattle.ir_isa.specs.declared.inst.RegisterOp.{RegisterOp}
use Rattle.ir_isa.specs.declared.inst.RegisterOp.TheVariants.{Add, Sub, Sll, Slt, Sltu, Xor, Srl, Sra, Or, And, Mul, Mulh, Mulhsu, Mulhu, Div, Divu, Rem, Remu}
use Rattle.ir_isa.specs.declared.inst.Register.{Register}
use Rattle.ir_isa.specs.declared.inst.Immediate.{Immediate}
use Rattle.ir_asm.specs.declared.form.Section.TheVariants.{Text}
use Rattle.ir_asm.specs.declared.form.Form.{Form}
use Rattle.ir_asm.specs.declared.form.Form.TheVariants.{Registers, Immediates, Branches}
use Rattle.ir_asm.specs.declared.item.Operand.{Operand}
use Rattle.ir_asm.specs.declared.item.Operand.TheVariants.{Index, Integer}
use Rattle.ir_asm.specs.declared.item.Item.TheVariants.{Code}
use Rattle.ir_asm.specs.Text.{text_before, trim, trim_end, is_source_blank, is_nil}
use Rattle.ir_disasm.specs.Printed.{three, instruction_text}
use Rattle.ir_disasm.specs.Names.{branch_name, immediate_name, operation_name}
use Rattle.ir_image.specs.declared.form.ImageForm.TheVariants.{Small}
use Rattle.ir_asm.specs.Forms.{form_named, in_image, stands_in}
use Rattle.ir_asm.specs.Operands.{operands_of, int_le}
use Rattle.ir_asm.specs.Items.{instruction, source_item}
use Rattle.ir_asm.specs.Source.{operand_texts, texts_of, is_source_byte, may_stand}
use Rattle.ir_asm.specs.Passes.{assembled, IsWordGuest}
use Rattle.ir_asm.proofs.Pieces.{lacks, all_pass_in_append, clean, IsPiece, skip_blanks_clean_start, append_is_nonempty}
use Rattle.ir_asm.proofs.Pieces.{until_blank_is_part, from_blank_is_rest, split_at_separator, split_without_separator, clean_lacks_unclean}
use Rattle.ir_asm.proofs.Pieces.{trim_of_clean_text, trim_end_of_clean_text, head_and_tail_lack, before_no_separator}
use Rattle.ir_asm.proofs.Numbers.{register-register_name, register_name_is_piece, number-signed_decimal, signed_decimal_is_piece}
use Rattle.ir_asm.proofs.FieldLaws.{immediate_of_own_value}
use Rattle.ir_asm.proofs.Statements.{Says, said_word_assembles}

-- ---- tails

pub trim_end_keeps_prefix : (x y z : List ℕ) → trim_end y ≡ z → is_nil z ≡ false → trim_end (x ++ y) ≡ x ++ z
trim_end_keeps_prefix [] y z e n = e
trim_end_keeps_prefix (b ∷ x) y z e n = rw (trim_end_keeps_prefix x y z e n, append_is_nonempty x z n, conjunction_with_false (is_source_blank b)) refl

pub before_keeps_prefix : (c : ℕ) (x y : List ℕ) → lacks c x ≡ true → text_before c (x ++ y) ≡ x ++ text_before c y
before_keeps_prefix c [] y h = refl
before_keeps_prefix c (b ∷ x) y h = rw ((head_and_tail_lack c b x h).0) (ap (λ (l : List ℕ). b ∷ l) (before_keeps_prefix c x y (head_and_tail_lack c b x h).1))

pub before_lacks_byte : (c d : ℕ) (x : List ℕ) → lacks c x ≡ true → lacks c (text_before d x) ≡ true
before_lacks_byte c d [] h = refl
before_lacks_byte c d (b ∷ x) h = by_test c d b x (head_and_tail_lack c b x h).0 (before_lacks_byte c d x (head_and_tail_lack c b x h).1)
  where
    by_test : (c d b : ℕ) (x : List ℕ) → (b == c) ≡ false → lacks c (text_before d x) ≡ true → lacks c (cond (b == d) [] (b ∷ text_before d x)) ≡ true
    by_test c d b x e h = go (b == d)
      where
        go : (t : Bool) → lacks c (cond t [] (b ∷ text_before d x)) ≡ true
        go true = refl
        go false = rw (e, h) refl

pub clean_bytes_pass : (p : ℕ → Bool) → ((b : ℕ) → clean b ≡ true → p b ≡ true) → (a : List ℕ) → list_all clean a ≡ true → list_all p a ≡ true
clean_bytes_pass p w [] h = refl
clean_bytes_pass p w (b ∷ a) h = rw (w b (and_parts (clean b) (list_all clean a) h).0) (clean_bytes_pass p w a (and_parts (clean b) (list_all clean a) h).1)

-- the last operand as printed, perhaps with a comment, and as it is read
pub record IsLastOperand (raw piece : List ℕ) : Type 0 where
  pub trimmed : trim_end (text_before 35 raw) ≡ piece
  pub piece_is : IsPiece piece
  pub feed : lacks 10 raw ≡ true
  pub source : list_all is_source_byte raw ≡ true
  pub colon : lacks 58 raw ≡ true

pub clean_is_source_byte : (b : ℕ) → clean b ≡ true → is_source_byte b ≡ true
clean_is_source_byte b h = grind (arith, common_steps)

pub piece_is_last_operand : (a : List ℕ) → IsPiece a → IsLastOperand a a
piece_is_last_operand a p = record {
  trimmed = rw (before_no_separator 35 a (clean_lacks_unclean 35 a refl p.all)) (trim_end_of_clean_text a p.all);
  piece_is = p;
  feed = clean_lacks_unclean 10 a refl p.all;
  source = clean_bytes_pass is_source_byte clean_is_source_byte a p.all;
  colon = clean_lacks_unclean 58 a refl p.all;
}

-- ---- three operands

three_operands_pass : (p : ℕ → Bool) → p 32 ≡ true → p 44 ≡ true → (name a b c : List ℕ) → list_all p name ≡ true → list_all p a ≡ true
    → list_all p b ≡ true → list_all p c ≡ true → list_all p (three name a b c) ≡ true
three_operands_pass p s t name a b c h i j k =
    all_pass_in_append p name (32 ∷ (a ++ 44 ∷ 32 ∷ (b ++ 44 ∷ 32 ∷ c))) h
    (rw s (all_pass_in_append p a (44 ∷ 32 ∷ (b ++ 44 ∷ 32 ∷ c)) i
    (rw (t, s) (all_pass_in_append p b (44 ∷ 32 ∷ c) j
    (rw (t, s) k)))))

before_comment_of_three : (name a b raw : List ℕ) → IsPiece name → IsPiece a → IsPiece b
    → text_before 35 (three name a b raw) ≡ three name a b (text_before 35 raw)
before_comment_of_three name a b raw p q r =
    before_keeps_prefix 35 name (32 ∷ (a ++ 44 ∷ 32 ∷ (b ++ 44 ∷ 32 ∷ raw))) (clean_lacks_unclean 35 name refl p.all)
    ∙ ap (λ (l : List ℕ). name ++ 32 ∷ l) (before_keeps_prefix 35 a (44 ∷ 32 ∷ (b ++ 44 ∷ 32 ∷ raw)) (clean_lacks_unclean 35 a refl q.all)
    ∙ ap (λ (l : List ℕ). a ++ 44 ∷ 32 ∷ l) (before_keeps_prefix 35 b (44 ∷ 32 ∷ raw) (clean_lacks_unclean 35 b refl r.all)))

trim_three_operands : (name a b raw c : List ℕ) → IsPiece name → trim_end raw ≡ c → IsPiece c → trim (three name a b raw) ≡ three name a b c
trim_three_operands name a b raw c p e q =
    ap trim_end (skip_blanks_clean_start name (32 ∷ (a ++ 44 ∷ 32 ∷ (b ++ 44 ∷ 32 ∷ raw))) p.some p.all)
    ∙ trim_end_keeps_prefix name (32 ∷ (a ++ 44 ∷ 32 ∷ (b ++ 44 ∷ 32 ∷ raw))) (32 ∷ (a ++ 44 ∷ 32 ∷ (b ++ 44 ∷ 32 ∷ c)))
    (trim_end_keeps_prefix (32 ∷ []) (a ++ 44 ∷ 32 ∷ (b ++ 44 ∷ 32 ∷ raw)) (a ++ 44 ∷ 32 ∷ (b ++ 44 ∷ 32 ∷ c))
    (trim_end_keeps_prefix a (44 ∷ 32 ∷ (b ++ 44 ∷ 32 ∷ raw)) (44 ∷ 32 ∷ (b ++ 44 ∷ 32 ∷ c))
    (trim_end_keeps_prefix (44 ∷ 32 ∷ []) (b ++ 44 ∷ 32 ∷ raw) (b ++ 44 ∷ 32 ∷ c)
    (trim_end_keeps_prefix b (44 ∷ 32 ∷ raw) (44 ∷ 32 ∷ c)
    (trim_end_keeps_prefix (44 ∷ 32 ∷ []) raw c e q.some) refl)
    (append_is_nonempty b (44 ∷ 32 ∷ c) refl)) refl)
    (append_is_nonempty a (44 ∷ 32 ∷ (b ++ 44 ∷ 32 ∷ c)) refl)) refl

texts_of_three_operands : (name a b c : List ℕ) → IsPiece name → IsPiece a → IsPiece b → IsPiece c → operand_texts (three name a b c) ≡ a ∷ b ∷ c ∷ []
texts_of_three_operands name a b c n p q r =
    ap (λ (l : List ℕ). texts_of (trim l)) (from_blank_is_rest name (a ++ 44 ∷ 32 ∷ (b ++ 44 ∷ 32 ∷ c)) n.all)
    ∙ ap texts_of (ap trim_end (skip_blanks_clean_start a (44 ∷ 32 ∷ (b ++ 44 ∷ 32 ∷ c)) p.some p.all)
    ∙ trim_end_keeps_prefix a (44 ∷ 32 ∷ (b ++ 44 ∷ 32 ∷ c)) (44 ∷ 32 ∷ (b ++ 44 ∷ 32 ∷ c))
    (trim_end_keeps_prefix (44 ∷ 32 ∷ []) (b ++ 44 ∷ 32 ∷ c) (b ++ 44 ∷ 32 ∷ c)
    (trim_end_keeps_prefix b (44 ∷ 32 ∷ c) (44 ∷ 32 ∷ c)
    (trim_end_keeps_prefix (44 ∷ 32 ∷ []) c c (trim_end_of_clean_text c r.all) r.some) refl)
    (append_is_nonempty b (44 ∷ 32 ∷ c) refl)) refl)
    ∙ rw (
      append_is_nonempty a (44 ∷ 32 ∷ (b ++ 44 ∷ 32 ∷ c)) refl,
      split_at_separator 44 a (32 ∷ (b ++ 44 ∷ 32 ∷ c)) (clean_lacks_unclean 44 a refl p.all),
      split_at_separator 44
          (32 ∷ b) (32 ∷ c) (clean_lacks_unclean 44 b refl q.all),
      split_without_separator 44 (32 ∷ c) (clean_lacks_unclean 44 c refl r.all),
    )
    (rw (trim_of_clean_text a p.all, trim_of_clean_text b q.all, trim_of_clean_text c r.all) refl)

pub three_operands_say_word : (name a b raw c : List ℕ) (word : ℕ) (form : Form) (xs : List Operand) → IsPiece name → IsPiece a → IsPiece b → IsLastOperand raw c
    →
    form_named name ≡ Some form → may_stand (stands_in form) Text ≡ true → operands_of (in_image Small form) (a ∷ b ∷ c ∷ []) ≡ Ok xs
    → source_item (in_image Small form) xs ≡ Code (word ∷ []) →
    Says (three name a b raw) (three name a b c) word
three_operands_say_word name a b raw c word form xs n p q r e s o m = record {
  form = form;
  xs = xs;
  feed = three_operands_pass (λ b. not (b == 10)) refl refl name a b raw (clean_lacks_unclean 10 name refl n.all) (clean_lacks_unclean 10 a refl p.all)
      (clean_lacks_unclean 10 b refl q.all) r.feed;
  source = three_operands_pass is_source_byte refl refl name a b raw (clean_bytes_pass is_source_byte clean_is_source_byte name n.all)
      (clean_bytes_pass is_source_byte clean_is_source_byte a p.all) (clean_bytes_pass is_source_byte clean_is_source_byte b q.all) r.source;
  colon = before_lacks_byte 58 35 (three name a b raw)
      (three_operands_pass (λ b. not (b == 58)) refl refl name a b raw (clean_lacks_unclean 58 name refl n.all) (clean_lacks_unclean 58 a refl p.all)
      (clean_lacks_unclean 58 b refl q.all) r.colon);
  trimmed = ap trim (before_comment_of_three name a b raw n p q) ∙ trim_three_operands name a b (text_before 35 raw) c n r.trimmed r.piece_is;
  some = append_is_nonempty name (32 ∷ (a ++ 44 ∷ 32 ∷ (b ++ 44 ∷ 32 ∷ c))) refl;
  named = ap form_named (until_blank_is_part name (a ++ 44 ∷ 32 ∷ (b ++ 44 ∷ 32 ∷ c)) n.all) ∙ e;
  stands = s;
  read = ap (operands_of (in_image Small form)) (texts_of_three_operands name a b c n p q r.piece_is) ∙ o;
  means = m;
}

-- ---- R format

pub form_of_branch_name : (op : BranchOp) → form_named (branch_name op) ≡ Some (Branches op)
form_of_branch_name Beq = refl
form_of_branch_name Bne = refl
form_of_branch_name Blt = refl
form_of_branch_name Bge = refl
form_of_branch_name Bltu = refl
form_of_branch_name Bgeu = refl

pub branch_name_is_piece : (op : BranchOp) → IsPiece (branch_name op)
branch_name_is_piece Beq = record { some = refl; all = refl }
branch_name_is_piece Bne = record { some = refl; all = refl }
branch_name_is_piece Blt = record { some = refl; all = refl }
branch_name_is_piece Bge = record { some = refl; all = refl }
branch_name_is_piece Bltu = record { some = refl; all = refl }
branch_name_is_piece Bgeu = record { some = refl; all = refl }

form_of_immediate_name : (op : ImmediateOp) → form_named (immediate_name op) ≡ Some (Immediates op)
form_of_immediate_name Addi = refl
form_of_immediate_name Slti = refl
form_of_immediate_name Sltiu = refl
form_of_immediate_name Xori = refl
form_of_immediate_name Ori = refl
form_of_immediate_name Andi = refl

immediate_name_is_piece : (op : ImmediateOp) → IsPiece (immediate_name op)
immediate_name_is_piece Addi = record { some = refl; all = refl }
immediate_name_is_piece Slti = record { some = refl; all = refl }
immediate_name_is_piece Sltiu = record { some = refl; all = refl }
immediate_name_is_piece Xori = record { some = refl; all = refl }
immediate_name_is_piece Ori = record { some = refl; all = refl }
immediate_name_is_piece Andi = record { some = refl; all = refl }

form_of_operation_name : (op : RegisterOp) → form_named (operation_name op) ≡ Some (Registers op)
form_of_operation_name Add = refl
form_of_operation_name Sub = refl
form_of_operation_name Sll = refl
form_of_operation_name Slt = refl
form_of_operation_name Sltu = refl
form_of_operation_name Xor = refl
form_of_operation_name Srl = refl
form_of_operation_name Sra = refl
form_of_operation_name Or = refl
form_of_operation_name And = refl
form_of_operation_name Mul = refl
form_of_operation_name Mulh = refl
form_of_operation_name Mulhsu = refl
form_of_operation_name Mulhu = refl
form_of_operation_name Div = refl
form_of_operation_name Divu = refl
form_of_operation_name Rem = refl
form_of_operation_name Remu = refl

operation_name_is_piece : (op : RegisterOp) → IsPiece (operation_name op)
operation_name_is_piece Add = record { some = refl; all = refl }
operation_name_is_piece Sub = record { some = refl; all = refl }
operation_name_is_piece Sll = record { some = refl; all = refl }
operation_name_is_piece Slt = record { some = refl; all = refl }
operation_name_is_piece Sltu = record { some = refl; all = refl }
operation_name_is_piece Xor = record { some = refl; all = refl }
operation_name_is_piece Srl = record { some = refl; all = refl }
operation_name_is_piece Sra = record { some = refl; all = refl }
operation_name_is_piece Or = record { some = refl; all = refl }
operation_name_is_piece And = record { some = refl; all = refl }
operation_name_is_piece Mul = record { some = refl; all = refl }
operation_name_is_piece Mulh = record { some = refl; all = refl }
operation_name_is_piece Mulhsu = record { some = refl; all = refl }
operation_name_is_piece Mulhu = record { some = refl; all = refl }
operation_name_is_piece Div = record { some = refl; all = refl }
operation_name_is_piece Divu = record { some = refl; all = refl }
operation_name_is_piece Rem = record { some = refl; all = refl }
operation_name_is_piece Remu = record { some = refl; all = refl }

register_operands_printed : (op : RegisterOp) (a b c : Register)
    → operands_of (Registers op) (register_name a.number ∷ register_name b.number ∷ register_name c.number ∷ []) ≡ Ok
    (Index a ∷ Index b ∷ Index c ∷ [])
register_operands_printed op a b c = rw ((register_name_is_piece a).some, (register_name_is_piece b).some, (register_name_is_piece c).some)
    (rw (register-register_name a, register-register_name b, register-register_name c) refl)

pub register_op_assembles : (pc : ℕ) (op : RegisterOp) (rd rs1 rs2 : Register)
    → IsWordGuest (assembled (instruction_text pc (Op op rd rs1 rs2))) (word_of (Op op rd rs1 rs2))
register_op_assembles pc op rd rs1 rs2 = said_word_assembles _ _ _
    (three_operands_say_word (operation_name op) (register_name rd.number) (register_name rs1.number) (register_name rs2.number)
    (register_name rs2.number) (word_of (Op op rd rs1 rs2)) (Registers op) (Index rd ∷ Index rs1 ∷ Index rs2 ∷ [])
    (operation_name_is_piece op) (register_name_is_piece rd) (register_name_is_piece rs1) (piece_is_last_operand (register_name rs2.number) (register_name_is_piece rs2))
    (form_of_operation_name op) refl (register_operands_printed op rd rs1 rs2) refl)

-- ---- a signed immediate

pub immediate_range_test : (z : ℤ) → negsuc 2047 ≤ℤ z → z ≤ℤ pos 2047 → (int_le (negsuc 2047) z && int_le z (pos 2047)) ≡ true
immediate_range_test (pos n) h k = grind (arith, common_steps)
immediate_range_test (negsuc n) h k = grind (arith, common_steps)

pub immediate_fits_33 : (z : ℤ) → negsuc 2047 ≤ℤ z → z ≤ℤ pos 2047 → nat_abs z < 2 ^ 33
immediate_fits_33 (pos n) h k = grind (arith, common_steps)
immediate_fits_33 (negsuc n) h k = grind (arith, common_steps)

immediate_operands_printed : (op : ImmediateOp) (a b : Register) (i : Immediate)
    → operands_of (Immediates op) (register_name a.number ∷ register_name b.number ∷ signed_decimal i.value ∷ []) ≡ Ok
    (Index a ∷ Index b ∷ Integer i.value ∷ [])
immediate_operands_printed op a b i =
    let small = immediate_fits_33 i.value i.low i.high in
    rw ((register_name_is_piece a).some, (register_name_is_piece b).some, (signed_decimal_is_piece i.value (omega (arith, small))).some)
    (rw (register-register_name a, register-register_name b, number-signed_decimal i.value (omega (arith, small)))
    (rw (immediate_range_test i.value i.low i.high) refl))

pub immediate_op_assembles : (pc : ℕ) (op : ImmediateOp) (rd rs1 : Register) (i : Immediate)
    → IsWordGuest (assembled (instruction_text pc (OpImm op rd rs1 i))) (word_of (OpImm op rd rs1 i))
immediate_op_assembles pc op rd rs1 i =
    let small = immediate_fits_33 i.value i.low i.high in
    said_word_assembles _ _ _ (three_operands_say_word (immediate_name op) (register_name rd.number) (register_name rs1.number) (signed_decimal i.value)
    (signed_decimal i.value) (word_of (OpImm op rd rs1 i)) (Immediates op) (Index rd ∷ Index rs1 ∷ Integer i.value ∷ [])
    (immediate_name_is_piece op) (register_name_is_piece rd) (register_name_is_piece rs1)
    (piece_is_last_operand (signed_decimal i.value) (signed_decimal_is_piece i.value (omega (arith, small))))
    (form_of_immediate_name op) refl (immediate_operands_printed op rd rs1 i) (ap (λ (x : Immediate). instruction (OpImm op rd rs1 x)) (immediate_of_own_value i)))
