-- The first pass, a label and a line at a time.
use Rattle.std.proofs.Common.{◌≡◌, ◌-◌, ◌≤◌, ℕ, Bool, true, false, not, List, [], ◌∷◌, ◌++◌, length, take, drop, get_or, suc, refl, ap, arith, Ok, Err, is_some}
use Rattle.std.specs.Prelude.{if◌then◌else◌, ◌==◌}
use Rattle.ir_asm.specs.declared.cause.Cause.{Cause}
use Rattle.ir_asm.specs.declared.cause.Cause.TheVariants.{LabelTwice}
use Rattle.ir_asm.specs.Faults.{◌>>=◌, fault_unless}
use Rattle.ir_asm.specs.Names.{named}
use Rattle.ir_asm.specs.Text.{split}
use Rattle.ir_asm.specs.Source.{Seen, here, with_labels, source_lines, line_without_return, without_returns}
use Rattle.ir_asm.proofs.Cuts.{split_begins_with_until}

-- the lines of a text, or none
abbrev pub lines_left : Bool → List ℕ → List (List ℕ)
lines_left more rest = if more then source_lines rest else []

-- labels after one that was taken
pub with_labels_taken : (x : List ℕ) (xs : List (List ℕ)) (s t : Seen) → with_labels (x ∷ []) s ≡ Ok t → with_labels (x ∷ xs) s ≡ with_labels xs t
with_labels_taken x xs s t e = by_test (is_some (named s.labels x)) e
  where
    next : Seen
    next = record s { labels = s.labels ++ (x, here s) ∷ [] }

    by_test : (b : Bool) → fault_unless (not b) LabelTwice (Ok next) ≡ Ok t → fault_unless (not b) LabelTwice (with_labels xs next) ≡ with_labels xs t
    by_test true f = absurd (cc f)
    by_test false f = ap (λ r. r >>= with_labels xs) f

-- a label that there is already
pub with_labels_refused : (x : List ℕ) (xs : List (List ℕ)) (s : Seen) (cause : Cause) → with_labels (x ∷ []) s ≡ Err cause
    → with_labels (x ∷ xs) s ≡ Err cause
with_labels_refused x xs s cause e = by_test (is_some (named s.labels x)) e
  where
    next : Seen
    next = record s { labels = s.labels ++ (x, here s) ∷ [] }

    by_test : (b : Bool) → fault_unless (not b) LabelTwice (Ok next) ≡ Err cause → fault_unless (not b) LabelTwice (with_labels xs next) ≡ Err cause
    by_test true f = ap (λ r. r >>= with_labels xs) f
    by_test false f = absurd (cc f)

-- a carriage return at the end goes
pub last_return_dropped : (xs : List ℕ) → 1 ≤ length xs → get_or xs (length xs - 1) 0 ≡ 13 → take (length xs - 1) xs ≡ line_without_return xs
last_return_dropped [] h k = absurd (omega (arith, h))
last_return_dropped (x ∷ []) h k = rw k refl
last_return_dropped (x ∷ y ∷ ys) h k =
    let n : length (x ∷ y ∷ ys) - 1 ≡ suc (length (y ∷ ys) - 1) = omega arith in
    let k2 : get_or (y ∷ ys) (length (y ∷ ys) - 1) 0 ≡ 13 = rw n at k in
    let e : take (length (y ∷ ys) - 1) (y ∷ ys) ≡ line_without_return (y ∷ ys) = last_return_dropped (y ∷ ys) (omega arith) k2 in
    rw n (ap (λ (l : List ℕ). x ∷ l) e)

-- what ends otherwise stays
pub end_without_return_stays : (xs : List ℕ) → (1 ≤ length xs → (get_or xs (length xs - 1) 0 == 13) ≡ false) → xs ≡ line_without_return xs
end_without_return_stays [] k = refl
end_without_return_stays (x ∷ []) k = rw (k (omega arith)) refl
end_without_return_stays (x ∷ y ∷ ys) k =
    let n : length (x ∷ y ∷ ys) - 1 ≡ suc (length (y ∷ ys) - 1) = omega arith in
    ap (λ (l : List ℕ). x ∷ l) (end_without_return_stays (y ∷ ys) (λ h. rw n at (k (omega arith))))

without_returns_cons : (x y : List ℕ) (l : List (List ℕ)) → l ≡ y ∷ drop 1 l → without_returns (x ∷ l) ≡ line_without_return x ∷ without_returns l
without_returns_cons x y [] e = absurd (cc e)
without_returns_cons x y (z ∷ l) e = refl

-- a line, and those that follow its line feed
pub without_returns_split : (x t : List ℕ) → without_returns (x ∷ split 10 t) ≡ line_without_return x ∷ source_lines t
without_returns_split x t = without_returns_cons x _ (split 10 t) (split_begins_with_until 10 t)
