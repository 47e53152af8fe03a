-- Which boxes are looked at for the row of the next box.
use Rattle.std.specs.Prelude.{◌≡◌, ℕ, ◌<◌, ◌≤◌, List, Some}
use Rattle.std.specs.List.{slice_get, Contains}
use Rattle.ir_holds.specs.Spans.{IsOverSpan}
use Rattle.ir_holds.specs.declared.span.Span.{Span}

-- box b doesn't come before box a: by thread, and by the step at which it begins
pub record ComesLater (a b : Span) : Type 0 where
  pub thread : a.thread ≤ b.thread
  pub first : a.thread ≡ b.thread → a.first ≤ b.first

-- boxes come by rising thread and step
abbrev pub AreRising : List Span → Type 0
AreRising spans = (k m : ℕ) (a b : Span) → k < m → slice_get spans k ≡ Some a → slice_get spans m ≡ Some b → ComesLater a b

-- box a hasn't ended where box b of the same thread begins
pub record IsLate (a b : Span) : Type 0 where
  pub thread : a.thread ≡ b.thread
  pub held : b.first < a.last

-- these are numbers of the first n boxes
abbrev pub AreOfFirst : ℕ → List ℕ → Type 0
AreOfFirst n held = (k : ℕ) → Contains held k → k < n

-- these numbers are those of all of the first n boxes that are over box b
abbrev pub HasAllOver : List Span → ℕ → Span → List ℕ → Type 0
HasAllOver spans n b held = (k : ℕ) (a : Span) → k < n → slice_get spans k ≡ Some a → IsOverSpan a b → Contains held k

-- of these numbers those of boxes that haven't ended where box b begins are left
abbrev pub KeepsLate : List Span → Span → List ℕ → List ℕ → Type 0
KeepsLate spans b held still = (k : ℕ) (a : Span) → Contains held k → slice_get spans k ≡ Some a → IsLate a b → Contains still k
