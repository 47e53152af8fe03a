-- A word is the sum of its fields.
use Rattle.std.proofs.Common.{arith, ◌≡◌, ◌<◌, ◌^◌, ◌+◌, ◌*◌, ℕ}
use Rattle.ir_isa.specs.Fields.{bits}

pub word_is_sum_of_fields : (w : ℕ) → w < 2 ^ 32 → w ≡ 2 ^ 25 * bits 31 25 w + 2 ^ 20 * bits 24 20 w + 2 ^ 15 * bits 19 15 w + 2 ^ 12 * bits 14 12 w + 2 ^ 7
    * bits 11 7 w + bits 6 0 w
word_is_sum_of_fields w fits = omega arith
