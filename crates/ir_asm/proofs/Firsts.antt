-- The first fault is the one that is named.
use Rattle.std.proofs.Common.{◌≡◌, ◌+◌, ℕ, List, [], ◌∷◌, ◌++◌, length, Result, Ok, Err, refl, ap, arith}
use Rattle.ir_asm.specs.declared.cause.Cause.{Cause}
use Rattle.ir_asm.specs.Faults.{◌>>=◌}
use Rattle.ir_asm.specs.Source.{Seen, nothing_seen, source_line, with_line, at_line, first_pass}
use Rattle.ir_asm.specs.Passes.{assembled_lines}

-- lines after other lines
pub first_pass_append : (n : ℕ) (xs ys : List (List ℕ)) (s t : Seen) → first_pass n xs s ≡ Ok t
    → first_pass n (xs ++ ys) s ≡ first_pass (n + length xs) ys t
first_pass_append n [] ys s t e =
    let same : n + 0 ≡ n = omega arith in
    rw same (ap (λ r. r >>= λ u. first_pass n ys u) e)
first_pass_append n (x ∷ xs) ys s t e = by_line (with_line n (source_line x) s) e (λ u f. first_pass_append (n + 1) xs ys u t f)
  where
    by_line : (r : Result Seen Cause) → (at_line n r >>= λ u. first_pass (n + 1) xs u) ≡ Ok t
        → ((u : Seen) → first_pass (n + 1) xs u ≡ Ok t → first_pass (n + 1) (xs ++ ys) u ≡ first_pass (n + 1 + length xs) ys t)
        → (at_line n r >>= λ u. first_pass (n + 1) (xs ++ ys) u) ≡ first_pass (n + length (x ∷ xs)) ys t
    by_line (Ok u) f again =
        let same : n + length (x ∷ xs) ≡ n + 1 + length xs = omega arith in
        rw same (again u f)
    by_line (Err c) f again = absurd (cc f)

pub fault_at_refused_line : (xs ys : List (List ℕ)) (line : List ℕ) (s : Seen) (cause : Cause) → first_pass 1 xs nothing_seen ≡ Ok s
    → with_line (1 + length xs) (source_line line) s ≡ Err cause →
    assembled_lines (xs ++ line ∷ ys) ≡ Err (record { line = 1 + length xs; cause = cause })
fault_at_refused_line xs ys line s cause e f = rw (first_pass_append 1 xs (line ∷ ys) nothing_seen s e) (rw f refl)
