-- Loads, stores and JALR.
use Rattle.std.proofs.Common.{◌≡◌, ◌<◌, ◌^◌, ℕ, true, List, [], ◌∷◌, ◌++◌, Some, Ok, refl, ap, arith}
use Rattle.std.specs.Prelude.{not, ◌==◌, codes, ℤ, nat_abs}
use Rattle.std.specs.List.{list_all}
use Rattle.std.specs.Fmt.{signed_decimal}
use Rattle.ir_isa.specs.Fields.{register_name}
use Rattle.ir_isa.specs.Words.{word_of}
use Rattle.ir_isa.specs.declared.inst.Inst.TheVariants.{Jalr, Load, Store}
use Rattle.ir_isa.specs.declared.inst.LoadOp.{LoadOp}
use Rattle.ir_isa.specs.declared.inst.LoadOp.TheVariants.{Lb, Lh, Lw, Lbu, Lhu}
use Rattle.ir_isa.specs.declared.inst.StoreOp.{StoreOp}
use Rattle.ir_isa.specs.declared.inst.StoreOp.TheVariants.{Sb, Sh, Sw}
use Rattle.ir_isa.specs.declared.inst.Register.{Register}
use Rattle.ir_isa.specs.declared.inst.Immediate.{Immediate}
use Rattle.ir_asm.specs.declared.form.Form.TheVariants.{Loads, JumpsTo, Stores}
use Rattle.ir_asm.specs.declared.item.Operand.TheVariants.{Index, Offset}
use Rattle.ir_disasm.specs.Printed.{instruction_text, address}
use Rattle.ir_disasm.specs.Names.{load_name, store_name}
use Rattle.ir_asm.specs.Forms.{form_named}
use Rattle.ir_asm.specs.Operands.{operands_of, at_address, operand_address as address_of}
use Rattle.ir_asm.specs.Items.{instruction}
use Rattle.ir_asm.specs.Passes.{assembled, IsWordGuest}
use Rattle.ir_asm.proofs.Pieces.{all_pass_in_append, clean, IsPiece, append_is_nonempty, split_at_separator, split_without_separator, trim_of_clean_text}
use Rattle.ir_asm.proofs.Numbers.{register-register_name, register_name_is_piece, number-signed_decimal, signed_decimal_is_piece}
use Rattle.ir_asm.proofs.Numbers.{decimal_no_parenthesis, name_no_parenthesis, no_opening_byte, no_closing_byte}
use Rattle.ir_asm.proofs.FieldLaws.{immediate_of_own_value}
use Rattle.ir_asm.proofs.Statements.{said_word_assembles}
use Rattle.ir_asm.proofs.Formats.{piece_is_last_operand, immediate_range_test, immediate_fits_33}
use Rattle.ir_asm.proofs.Pairs.{two_operands_say_word}

address_is_clean : (z : ℤ) (b : ℕ) → list_all clean (signed_decimal z) ≡ true → list_all clean (register_name b) ≡ true
    → list_all clean (address z b) ≡ true
address_is_clean z b h k = all_pass_in_append clean (signed_decimal z) (40 ∷ (register_name b ++ 41 ∷ [])) h
    (all_pass_in_append clean (register_name b) (41 ∷ []) k refl)

address_is_piece : (z : ℤ) (b : Register) → nat_abs z < 2 ^ 64 → IsPiece (address z b.number)
address_is_piece z b h = record {
  some = append_is_nonempty (signed_decimal z) (40 ∷ (register_name b.number ++ 41 ∷ [])) refl;
  all = address_is_clean z b.number (signed_decimal_is_piece z h).all (register_name_is_piece b).all;
}

-- an address is cut into what was put together
address_of-address : (z : ℤ) (b : Register) → nat_abs z < 2 ^ 64
    → address_of (address z b.number) ≡ Some (signed_decimal z, register_name b.number)
address_of-address z b h =
    let s = decimal_no_parenthesis z h in
    let r = name_no_parenthesis b in
    let base : List ℕ = register_name b.number in
    rw (
      split_at_separator 40 (signed_decimal z) (base ++ 41 ∷ []) (no_opening_byte (signed_decimal z) s),
      split_without_separator 40 (base ++ 41 ∷ [])
          (all_pass_in_append (λ c. not (c == 40)) base (41 ∷ []) (no_opening_byte base r) refl),
    )
    (rw (split_without_separator 41 (signed_decimal z) (no_closing_byte (signed_decimal z) s), split_at_separator 41 base [] (no_closing_byte base r))
    (rw (trim_of_clean_text (signed_decimal z) (signed_decimal_is_piece z h).all, trim_of_clean_text base (register_name_is_piece b).all) refl))

at_address-printed : (b : Register) (i : Immediate) → at_address (Some (signed_decimal i.value, register_name b.number)) ≡ Ok (Offset i.value b)
at_address-printed b i =
    let small = immediate_fits_33 i.value i.low i.high in
    rw (number-signed_decimal i.value (omega (arith, small))) (rw (immediate_range_test i.value i.low i.high) (rw (register-register_name b) refl))

immediate_fits_64 : (i : Immediate) → nat_abs i.value < 2 ^ 64
immediate_fits_64 i = let small = immediate_fits_33 i.value i.low i.high in omega (arith, small)

load_operands_printed : (op : LoadOp) (a b : Register) (i : Immediate)
    → operands_of (Loads op) (register_name a.number ∷ address i.value b.number ∷ []) ≡ Ok (Index a ∷ Offset i.value b ∷ [])
load_operands_printed op a b i = rw ((register_name_is_piece a).some, address_of-address i.value b (immediate_fits_64 i)) (rw (register-register_name a, at_address-printed b i) refl)

store_operands_printed : (op : StoreOp) (a b : Register) (i : Immediate)
    → operands_of (Stores op) (register_name a.number ∷ address i.value b.number ∷ []) ≡ Ok (Index a ∷ Offset i.value b ∷ [])
store_operands_printed op a b i = rw ((register_name_is_piece a).some, address_of-address i.value b (immediate_fits_64 i)) (rw (register-register_name a, at_address-printed b i) refl)

jalr_operands_printed : (a b : Register) (i : Immediate)
    → operands_of JumpsTo (register_name a.number ∷ address i.value b.number ∷ []) ≡ Ok (Index a ∷ Offset i.value b ∷ [])
jalr_operands_printed a b i = rw ((register_name_is_piece a).some, address_of-address i.value b (immediate_fits_64 i)) (rw (register-register_name a, at_address-printed b i) refl)

form_of_load_name : (op : LoadOp) → form_named (load_name op) ≡ Some (Loads op)
form_of_load_name Lb = refl
form_of_load_name Lh = refl
form_of_load_name Lw = refl
form_of_load_name Lbu = refl
form_of_load_name Lhu = refl

load_name_is_piece : (op : LoadOp) → IsPiece (load_name op)
load_name_is_piece Lb = record { some = refl; all = refl }
load_name_is_piece Lh = record { some = refl; all = refl }
load_name_is_piece Lw = record { some = refl; all = refl }
load_name_is_piece Lbu = record { some = refl; all = refl }
load_name_is_piece Lhu = record { some = refl; all = refl }

form_of_store_name : (op : StoreOp) → form_named (store_name op) ≡ Some (Stores op)
form_of_store_name Sb = refl
form_of_store_name Sh = refl
form_of_store_name Sw = refl

store_name_is_piece : (op : StoreOp) → IsPiece (store_name op)
store_name_is_piece Sb = record { some = refl; all = refl }
store_name_is_piece Sh = record { some = refl; all = refl }
store_name_is_piece Sw = record { some = refl; all = refl }

pub printed_load_assembles : (pc : ℕ) (op : LoadOp) (rd rs1 : Register) (i : Immediate)
    → IsWordGuest (assembled (instruction_text pc (Load op rd rs1 i))) (word_of (Load op rd rs1 i))
printed_load_assembles pc op rd rs1 i =
    said_word_assembles _ _ _ (two_operands_say_word (load_name op) (register_name rd.number) (address i.value rs1.number) (address i.value rs1.number)
    (word_of (Load op rd rs1 i)) (Loads op) (Index rd ∷ Offset i.value rs1 ∷ [])
    (load_name_is_piece op) (register_name_is_piece rd) (piece_is_last_operand (address i.value rs1.number) (address_is_piece i.value rs1 (immediate_fits_64 i)))
    (form_of_load_name op) refl (load_operands_printed op rd rs1 i) (ap (λ (x : Immediate). instruction (Load op rd rs1 x)) (immediate_of_own_value i)))

pub printed_store_assembles : (pc : ℕ) (op : StoreOp) (rs1 rs2 : Register) (i : Immediate)
    → IsWordGuest (assembled (instruction_text pc (Store op rs1 rs2 i))) (word_of (Store op rs1 rs2 i))
printed_store_assembles pc op rs1 rs2 i =
    said_word_assembles _ _ _ (two_operands_say_word (store_name op) (register_name rs2.number) (address i.value rs1.number) (address i.value rs1.number)
    (word_of (Store op rs1 rs2 i)) (Stores op) (Index rs2 ∷ Offset i.value rs1 ∷ [])
    (store_name_is_piece op) (register_name_is_piece rs2) (piece_is_last_operand (address i.value rs1.number) (address_is_piece i.value rs1 (immediate_fits_64 i)))
    (form_of_store_name op) refl (store_operands_printed op rs2 rs1 i) (ap (λ (x : Immediate). instruction (Store op rs1 rs2 x)) (immediate_of_own_value i)))

pub printed_jalr_assembles : (pc : ℕ) (rd rs1 : Register) (i : Immediate)
    → IsWordGuest (assembled (instruction_text pc (Jalr rd rs1 i))) (word_of (Jalr rd rs1 i))
printed_jalr_assembles pc rd rs1 i =
    said_word_assembles _ _ _ (two_operands_say_word (codes "jalr") (register_name rd.number) (address i.value rs1.number) (address i.value rs1.number)
    (word_of (Jalr rd rs1 i)) JumpsTo (Index rd ∷ Offset i.value rs1 ∷ [])
    (record { some = refl; all = refl }) (register_name_is_piece rd) (piece_is_last_operand (address i.value rs1.number) (address_is_piece i.value rs1 (immediate_fits_64 i)))
    refl refl (jalr_operands_printed rd rs1 i) (ap (λ (x : Immediate). instruction (Jalr rd rs1 x)) (immediate_of_own_value i)))
