-- Registers and pc as one list.
use Rattle.std.proofs.Common.{◌≡◌, ◌<◌, ◌≤◌, ◌∙◌, ℕ, ◌∷◌, [], length, Some, None, sym, ap, arith}
use Rattle.std.specs.Prelude.{slice_index, slice_get}
use Rattle.std.proofs.lemmas.Option.{slice_get-get_or, slice_get_past}
use Rattle.std.proofs.lemmas.List.{get_or_push, get_or_append_left, length-append}
use Rattle.ir_mach.specs.Core.{Core, register}
use Rattle.ir_gdb.specs.Reads.{register_words}

pub low_word_is_register : (core : Core) (n : ℕ) → length core.registers ≡ 32 → n < 32 → slice_index (register_words core) n ≡ register core n
low_word_is_register core n count below = get_or_append_left core.registers (core.pc ∷ []) 0 n (omega (arith, count, below))

pub word_32_is_pc : (core : Core) → length core.registers ≡ 32 → slice_index (register_words core) 32 ≡ core.pc
word_32_is_pc core count = get_or_push core.registers core.pc 0 32 count

pub length_of_words_of : (core : Core) → length core.registers ≡ 32 → length (register_words core) ≡ 33
length_of_words_of core count = let all = length-append core.registers (core.pc ∷ []) in omega (arith, all, count)

-- a register as it is asked for by its number
pub known_register_is_there : (core : Core) (n value : ℕ) → length core.registers ≡ 32 → n ≤ 32 → value ≡ slice_index (register_words core) n
    → Some value ≡ slice_get (register_words core) n
known_register_is_there core n value count low is =
    let all = length_of_words_of core count in
    let inside : n < length (register_words core) = omega (arith, all, low) in
    ap Some is ∙ sym (slice_get-get_or (register_words core) n 0 inside)

pub no_register_behind_pc : (core : Core) (n : ℕ) → length core.registers ≡ 32 → 32 < n → None ≡ slice_get (register_words core) n
no_register_behind_pc core n count high =
    let all = length_of_words_of core count in
    sym (slice_get_past (register_words core) n (omega (arith, all, high)))
