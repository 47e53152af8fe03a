-- Registers after a write, which stay 32, of which x0 is 0.
use Rattle.std.proofs.Common.{◌≡◌, ℕ, ◌<◌, true, false, List, length, slice_set, refl, sym, ◌∙◌, subst, arith, nat_lt, length-set}
use Rattle.std.specs.Prelude.{◌==◌, ◌&&◌, slice_index}
use Rattle.std.proofs.lemmas.Bool.{cond_both}
use Rattle.std.proofs.lemmas.Bool.Decides.{nat_tests}
use Rattle.ir_lemmas.proofs.CallerLemmas.{conjunction_with_false, conjuncts_are_true, get_or_after_set, get_or_set_elsewhere}
use Rattle.ir_mach.specs.Core.{Core, put}
use Rattle.ir_liveness.specs.Agreement.{IsRegisterFile}

no_write_to_zero_kept : (rd n : ℕ) → (rd == 0) ≡ true → ((rd == n) && nat_lt 0 n) ≡ true → ⊥
no_write_to_zero_kept rd n none is = let both = conjuncts_are_true (rd == n) (nat_lt 0 n) is in by both.0 both.1
  where
    by : (rd == n) ≡ true → nat_lt 0 n ≡ true → ⊥
    by same above = grind (arith, nat_tests)

written_number_is_equal : (rd n : ℕ) → ((rd == n) && nat_lt 0 n) ≡ true → rd ≡ n
written_number_is_equal rd n is = by (conjuncts_are_true (rd == n) (nat_lt 0 n) is).0
  where
    by : (rd == n) ≡ true → rd ≡ n
    by same = grind (arith, nat_tests)

other_number_differs : (rd n : ℕ) → (rd == 0) ≡ false → ((rd == n) && nat_lt 0 n) ≡ false → rd ≡ n → ⊥
other_number_differs rd n some is same = by (subst (λ k. ((rd == k) && nat_lt 0 k) ≡ false) (sym same) is)
  where
    by : ((rd == rd) && nat_lt 0 rd) ≡ false → ⊥
    by isnt = grind (arith, nat_tests)

length-put_registers : (registers : List ℕ) (rd value : ℕ) → length (put registers rd value) ≡ length registers
length-put_registers registers rd value =
    cond_both (rd == 0) registers (slice_set registers rd value) (λ r. length r ≡ length registers) (λ _. refl) (λ _. length-set registers rd value)

-- a register that a write reaches has its value
pub written_register_value : (registers : List ℕ) (rd value n : ℕ) → rd < length registers → ((rd == n) && nat_lt 0 n) ≡ true
    → slice_index (put registers rd value) n ≡ value
written_register_value registers rd value n fits is =
    cond_both (rd == 0) registers (slice_set registers rd value) (λ r. slice_index r n ≡ value)
    (λ none. absurd (no_write_to_zero_kept rd n none is))
    (λ some. subst (λ k. slice_index (slice_set registers rd value) k ≡ value) (written_number_is_equal rd n is) (get_or_after_set registers rd value 0 fits))

-- each other register is as it was
pub other_register_is_kept : (registers : List ℕ) (rd value n : ℕ) → ((rd == n) && nat_lt 0 n) ≡ false
    → slice_index (put registers rd value) n ≡ slice_index registers n
other_register_is_kept registers rd value n is =
    cond_both (rd == 0) registers (slice_set registers rd value) (λ r. slice_index r n ≡ slice_index registers n) (λ _. refl)
    (λ some. get_or_set_elsewhere registers rd n value 0 (other_number_differs rd n some is))

-- a core's registers stay 32, of which x0 is 0
pub register_file_after_put : (core : Core) (rd value pc : ℕ) (memory : List ℕ) → IsRegisterFile core
    → IsRegisterFile (record { pc = pc; registers = put core.registers rd value; memory = memory })
register_file_after_put core rd value pc memory file = record {
  count = length-put_registers core.registers rd value ∙ file.count;
  zero_register = other_register_is_kept core.registers rd value 0 (conjunction_with_false (rd == 0)) ∙ file.zero_register;
}

pub kept_register_file : (core : Core) (pc : ℕ) (memory : List ℕ) → IsRegisterFile core
    → IsRegisterFile (record { pc = pc; registers = core.registers; memory = memory })
kept_register_file core pc memory file = record { count = file.count; zero_register = file.zero_register }
