-- LUI, AUIPC and FENCE.
use Rattle.std.proofs.Common.{◌≡◌, ◌/◌, ◌<◌, ◌^◌, ℕ, [], ◌∷◌, ◌++◌, Ok, refl, ap, arith}
use Rattle.std.specs.Prelude.{decimal, codes, pos}
use Rattle.std.proofs.lemmas.Bool.{le-leb}
use Rattle.ir_isa.specs.Fields.{register_name, low_bits}
use Rattle.ir_isa.specs.Words.{word_of}
use Rattle.ir_isa.specs.declared.inst.Inst.TheVariants.{Lui, Auipc, Fence}
use Rattle.ir_isa.specs.declared.inst.Register.{Register}
use Rattle.ir_isa.specs.declared.inst.Immediate.{Immediate}
use Rattle.ir_isa.specs.declared.inst.UpperImmediate.{UpperImmediate}
use Rattle.ir_asm.specs.declared.form.Form.TheVariants.{LoadsUpper, AddsUpper, Fences}
use Rattle.ir_asm.specs.declared.item.Operand.TheVariants.{Index, Integer}
use Rattle.ir_asm.specs.Fields.{fits_12}
use Rattle.ir_asm.specs.Items.{instruction}
use Rattle.ir_asm.specs.Operands.{operands_of}
use Rattle.ir_asm.specs.Passes.{assembled, IsWordGuest}
use Rattle.ir_disasm.specs.Printed.{hex, instruction_text}
use Rattle.ir_asm.proofs.Pieces.{IsPiece}
use Rattle.ir_asm.proofs.Numbers.{register-register_name, register_name_is_piece, decimal_is_piece, hex_is_clean, number_of_decimal, natural-five_hex}
use Rattle.ir_asm.proofs.FieldLaws.{upper_of_own_upper_bits, immediate_of_own_bits}
use Rattle.ir_asm.proofs.Statements.{said_word_assembles}
use Rattle.ir_asm.proofs.Formats.{piece_is_last_operand, three_operands_say_word}
use Rattle.ir_asm.proofs.Pairs.{two_operands_say_word}

five_hex_are_piece : (n : ℕ) → IsPiece (codes "0x" ++ hex 5 n)
five_hex_are_piece n = record { some = refl; all = hex_is_clean 5 n }

upper_fits_20 : (i : UpperImmediate) → i.value / 2 ^ 12 < 2 ^ 20
upper_fits_20 i = omega (arith, i.in_range)

operands_of_printed_lui : (a : Register) (n : ℕ) → n < 2 ^ 20
    → operands_of LoadsUpper (register_name a.number ∷ (codes "0x" ++ hex 5 n) ∷ []) ≡ Ok (Index a ∷ Integer (pos n) ∷ [])
operands_of_printed_lui a n k = rw ((register_name_is_piece a).some)
    (rw (register-register_name a, natural-five_hex n k) (rw (le-leb 0 n (omega arith), le-leb n 1048575 (omega (arith, k))) refl))

auipc_operands_printed : (a : Register) (n : ℕ) → n < 2 ^ 20
    → operands_of AddsUpper (register_name a.number ∷ (codes "0x" ++ hex 5 n) ∷ []) ≡ Ok (Index a ∷ Integer (pos n) ∷ [])
auipc_operands_printed a n k = rw ((register_name_is_piece a).some)
    (rw (register-register_name a, natural-five_hex n k) (rw (le-leb 0 n (omega arith), le-leb n 1048575 (omega (arith, k))) refl))

pub printed_lui_assembles : (pc : ℕ) (rd : Register) (i : UpperImmediate) → IsWordGuest (assembled (instruction_text pc (Lui rd i))) (word_of (Lui rd i))
printed_lui_assembles pc rd i =
    let u : ℕ = i.value / 2 ^ 12 in
    said_word_assembles _ _ _ (two_operands_say_word (codes "lui") (register_name rd.number) (codes "0x" ++ hex 5 u) (codes "0x" ++ hex 5 u)
    (word_of (Lui rd i)) LoadsUpper (Index rd ∷ Integer (pos u) ∷ [])
    (record { some = refl; all = refl }) (register_name_is_piece rd) (piece_is_last_operand (codes "0x" ++ hex 5 u) (five_hex_are_piece u))
    refl refl (operands_of_printed_lui rd u (upper_fits_20 i)) (ap (λ (x : UpperImmediate). instruction (Lui rd x)) (upper_of_own_upper_bits i)))

pub printed_auipc_assembles : (pc : ℕ) (rd : Register) (i : UpperImmediate) → IsWordGuest (assembled (instruction_text pc (Auipc rd i))) (word_of (Auipc rd i))
printed_auipc_assembles pc rd i =
    let u : ℕ = i.value / 2 ^ 12 in
    said_word_assembles _ _ _ (two_operands_say_word (codes "auipc") (register_name rd.number) (codes "0x" ++ hex 5 u) (codes "0x" ++ hex 5 u)
    (word_of (Auipc rd i)) AddsUpper (Index rd ∷ Integer (pos u) ∷ [])
    (record { some = refl; all = refl }) (register_name_is_piece rd) (piece_is_last_operand (codes "0x" ++ hex 5 u) (five_hex_are_piece u))
    refl refl (auipc_operands_printed rd u (upper_fits_20 i)) (ap (λ (x : UpperImmediate). instruction (Auipc rd x)) (upper_of_own_upper_bits i)))

fence_operands_printed : (a b : Register) (n : ℕ) → n < 2 ^ 12
    → operands_of Fences (register_name a.number ∷ register_name b.number ∷ decimal n ∷ []) ≡ Ok (Index a ∷ Index b ∷ Integer (pos n) ∷ [])
fence_operands_printed a b n l =
    rw ((register_name_is_piece a).some, (register_name_is_piece b).some, (decimal_is_piece n (omega (arith, l))).some)
    (rw (register-register_name a, register-register_name b, number_of_decimal n (omega (arith, l)))
    (rw (le-leb 0 n (omega arith), le-leb n 4095 (omega (arith, l))) refl))

pub printed_fence_assembles : (pc : ℕ) (rd rs1 : Register) (i : Immediate)
    → IsWordGuest (assembled (instruction_text pc (Fence rd rs1 i))) (word_of (Fence rd rs1 i))
printed_fence_assembles pc rd rs1 i =
    let n : ℕ = low_bits 12 i.value in
    let fits : n < 2 ^ 12 = fits_12 i.value in
    said_word_assembles _ _ _ (three_operands_say_word (codes "fence") (register_name rd.number) (register_name rs1.number) (decimal n) (decimal n)
    (word_of (Fence rd rs1 i)) Fences (Index rd ∷ Index rs1 ∷ Integer (pos n) ∷ [])
    (record { some = refl; all = refl }) (register_name_is_piece rd) (register_name_is_piece rs1)
    (piece_is_last_operand (decimal n) (decimal_is_piece n (omega (arith, fits))))
    refl refl (fence_operands_printed rd rs1 n fits) (ap (λ (x : Immediate). instruction (Fence rd rs1 x)) (immediate_of_own_bits i)))
