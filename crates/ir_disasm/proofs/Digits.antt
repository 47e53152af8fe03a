-- Powers of sixteen within a word.
use Rattle.std.proofs.Common.{◌≡◌, ◌<◌, ◌+◌, ◌-◌, ◌/◌, ◌%◌, ◌^◌, ℕ, zero, suc, List, ◌∷◌, ◌++◌, arith, refl, ap, ◌∙◌}
use Rattle.std.specs.Prelude.{codes, ℤ}
use Rattle.ir_isa.specs.Fields.{low_bits}
use Rattle.std.specs.Char.{digit_char}
use Rattle.ir_disasm.specs.Printed.{hex, distance, far}

pub power_of_16_bounds : (p : ℕ) → p < 8 → (0 < 16 ^ p) × (16 ^ p < 4294967296)
power_of_16_bounds zero h = (omega arith, omega arith)
power_of_16_bounds (suc zero) h = (omega arith, omega arith)
power_of_16_bounds (suc (suc zero)) h = (omega arith, omega arith)
power_of_16_bounds (suc (suc (suc zero))) h = (omega arith, omega arith)
power_of_16_bounds (suc (suc (suc (suc zero)))) h = (omega arith, omega arith)
power_of_16_bounds (suc (suc (suc (suc (suc zero))))) h = (omega arith, omega arith)
power_of_16_bounds (suc (suc (suc (suc (suc (suc zero)))))) h = (omega arith, omega arith)
power_of_16_bounds (suc (suc (suc (suc (suc (suc (suc zero))))))) h = (omega arith, omega arith)
power_of_16_bounds (suc (suc (suc (suc (suc (suc (suc (suc p)))))))) h = absurd (omega (arith, h))

-- the first of k digits
pub hex_by_first_digit : (k n : ℕ) → 0 < k → hex k n ≡ digit_char (n / 16 ^ (k - 1) % 16) ∷ hex (k - 1) n
hex_by_first_digit zero n h = absurd (omega (arith, h))
hex_by_first_digit (suc k) n h = let e : suc k - 1 ≡ k = omega arith in rw e refl

-- a distance and the address of it, put together
pub far_text_of_parts : (pc t : ℕ) (z : ℤ) (s d a : List ℕ) → s ≡ d ++ (codes " # " ++ a) → d ≡ distance z → a ≡ hex 8 t
    → t ≡ (pc + low_bits 32 z) % 2 ^ 32 → s ≡ far pc z
far_text_of_parts pc t z s d a e f g h =
    e ∙ ap (λ (x : List ℕ). x ++ (codes " # " ++ a)) f
    ∙ ap (λ (x : List ℕ). distance z ++ (codes " # " ++ x)) (g ∙ ap (λ (n : ℕ). hex 8 n) h)
