-- Decimal digits, a pair of digits each.
use Rattle.std.proofs.Common.{◌≡◌, ◌≤◌, ◌-◌, ◌∙◌, ℕ, List, [], ◌∷◌, Option, Some, length, take, drop, get_or, sym, ap, arith}
use Rattle.std.specs.Prelude.{option_and_then}
use Rattle.std.proofs.lemmas.List.{take_all}
use Rattle.ir_packet.specs.Numbers.{decimal_more, decimal_from}

-- all but the first
abbrev tail : List ℕ → List ℕ
tail xs = take (length xs - 1) (drop 1 xs)

tail_of_cons : (a : ℕ) (xs : List ℕ) → tail (a ∷ xs) ≡ xs
tail_of_cons a xs = take_all (length (a ∷ xs) - 1) xs (omega arith)

pub decimal_from_two_digits : (n m : ℕ) (digits : List ℕ) (r : Option ℕ) → 1 ≤ length digits → 1 ≤ length (tail digits)
    → decimal_more n (get_or digits 0 0) (get_or (tail digits) 0 0) ≡ Some m → r ≡ decimal_from m (tail (tail digits)) → r ≡ decimal_from n digits
unfolding decimal_from
decimal_from_two_digits n m [] r long more one is = absurd (omega (arith, long))
decimal_from_two_digits n m (a ∷ []) r long more one is =
    let none = ap length (tail_of_cons a []) in
    absurd (omega (arith, more, none))
decimal_from_two_digits n m (a ∷ b ∷ rest) r long more one is =
    let second : tail (a ∷ b ∷ rest) ≡ b ∷ rest = tail_of_cons a (b ∷ rest) in
    is ∙ ap (λ xs. decimal_from m (tail xs)) second ∙ ap (decimal_from m) (tail_of_cons b rest)
    ∙ sym (ap (option_and_then (λ k. decimal_from k rest)) (sym (ap (λ xs. decimal_more n a (get_or xs 0 0)) second) ∙ one))
