-- How many starts and ends of boxes come before a number.
use Rattle.std.proofs.Common.{◌≡◌, ℕ, zero, suc, ◌+◌, ◌*◌, ◌<◌, ◌≤◌, inl, inr, Bool, cond, ltb, Some, List, [], ◌∷◌, length, ap, arith}
use Rattle.std.specs.List.{slice_get}
use Rattle.std.proofs.lemmas.Bool.{cases_lt, lt-ltb, le-ltb}
use Rattle.std.proofs.lemmas.Option.{none-some, same_Some}
use Rattle.ir_holds.specs.declared.span.Span.{Span}

-- 1, if y is below n
abbrev pub one_below : ℕ → ℕ → ℕ
one_below y n = cond (ltb y n) 1 0

-- how many starts and ends of boxes have a number below n
abbrev pub depth_of : (ℕ → ℕ → ℕ) → List Span → ℕ → ℕ
depth_of at [] n = 0
depth_of at (s ∷ ss) n = one_below (at s.thread s.first) n + (one_below (at s.thread s.last) n + depth_of at ss n)

pub one_below_of_less : (y n : ℕ) → y < n → one_below y n ≡ 1
one_below_of_less y n less = ap (λ (b : Bool). cond b 1 0) (lt-ltb y n less)

pub one_below_of_no_less : (y n : ℕ) → n ≤ y → one_below y n ≡ 0
one_below_of_no_less y n low = ap (λ (b : Bool). cond b 1 0) (le-ltb y n low)

pub one_below_at_most_one : (y n : ℕ) → one_below y n ≤ 1
one_below_at_most_one y n = elim (cases_lt y n) [
  | inl less ↦ let is = one_below_of_less y n less in omega (arith, is)
  | inr past ↦ let is = one_below_of_no_less y n past in omega (arith, is)
]

pub one_below_monotone : (y n m : ℕ) → n ≤ m → one_below y n ≤ one_below y m
one_below_monotone y n m low = elim (cases_lt y n) [
  | inl less ↦
      let is = one_below_of_less y n less in let more = one_below_of_less y m (omega (arith, less, low)) in omega (arith, is, more)
  | inr past ↦ let is = one_below_of_no_less y n past in omega (arith, is)
]

pub depth_monotone : (at : ℕ → ℕ → ℕ) (spans : List Span) (n m : ℕ) → n ≤ m → depth_of at spans n ≤ depth_of at spans m
depth_monotone at [] n m low = omega arith
depth_monotone at (s ∷ ss) n m low =
    let a = one_below_monotone (at s.thread s.first) n m low in
    let b = one_below_monotone (at s.thread s.last) n m low in
    let c = depth_monotone at ss n m low in
    omega (arith, a, b, c)

pub depth_bound : (at : ℕ → ℕ → ℕ) (spans : List Span) (n : ℕ) → depth_of at spans n ≤ length spans * 2
depth_bound at [] n = omega arith
depth_bound at (s ∷ ss) n =
    let a = one_below_at_most_one (at s.thread s.first) n in
    let b = one_below_at_most_one (at s.thread s.last) n in
    let c = depth_bound at ss n in
    omega (arith, a, b, c)

-- the start of a box, and its end, come before each greater number
pub depth_rises_past_start : (at : ℕ → ℕ → ℕ) (spans : List Span) (k : ℕ) (own : Span) (m : ℕ) → slice_get spans k ≡ Some own → at own.thread own.first < m
    → depth_of at spans (at own.thread own.first) < depth_of at spans m
depth_rises_past_start at [] k own m is less = absurd (none-some own is)
depth_rises_past_start at (s ∷ ss) zero own m is less =
    let y = at own.thread own.first in
    let same : s ≡ own = same_Some s own is in
    let here : at s.thread s.first ≡ y = ap (λ (x : Span). at x.thread x.first) same in
    let a = one_below_of_no_less (at s.thread s.first) y (omega (arith, here)) in
    let b = one_below_of_less (at s.thread s.first) m (omega (arith, here, less)) in
    let c = one_below_monotone (at s.thread s.last) y m (omega (arith, less)) in
    let d = depth_monotone at ss y m (omega (arith, less)) in
    omega (arith, a, b, c, d)
depth_rises_past_start at (s ∷ ss) (suc k) own m is less =
    let y = at own.thread own.first in
    let a = one_below_monotone (at s.thread s.first) y m (omega (arith, less)) in
    let b = one_below_monotone (at s.thread s.last) y m (omega (arith, less)) in
    let c = depth_rises_past_start at ss k own m is less in
    omega (arith, a, b, c)

pub depth_rises_past_end : (at : ℕ → ℕ → ℕ) (spans : List Span) (k : ℕ) (own : Span) (m : ℕ) → slice_get spans k ≡ Some own → at own.thread own.last < m
    → depth_of at spans (at own.thread own.last) < depth_of at spans m
depth_rises_past_end at [] k own m is less = absurd (none-some own is)
depth_rises_past_end at (s ∷ ss) zero own m is less =
    let y = at own.thread own.last in
    let same : s ≡ own = same_Some s own is in
    let here : at s.thread s.last ≡ y = ap (λ (x : Span). at x.thread x.last) same in
    let a = one_below_of_no_less (at s.thread s.last) y (omega (arith, here)) in
    let b = one_below_of_less (at s.thread s.last) m (omega (arith, here, less)) in
    let c = one_below_monotone (at s.thread s.first) y m (omega (arith, less)) in
    let d = depth_monotone at ss y m (omega (arith, less)) in
    omega (arith, a, b, c, d)
depth_rises_past_end at (s ∷ ss) (suc k) own m is less =
    let y = at own.thread own.last in
    let a = one_below_monotone (at s.thread s.first) y m (omega (arith, less)) in
    let b = one_below_monotone (at s.thread s.last) y m (omega (arith, less)) in
    let c = depth_rises_past_end at ss k own m is less in
    omega (arith, a, b, c)
