-- In which rows boxes are drawn, which go from one step to another.
use Rattle.std.specs.Prelude.{◌≡◌, ℕ, ◌<◌, List, length, Some}
use Rattle.std.specs.List.{slice_get}
use Rattle.ir_holds.specs.declared.span.Span.{Span}

-- box a has begun, and hasn't ended, where box b of the same thread begins
pub record IsOverSpan (a b : Span) : Type 0 where
  pub thread : a.thread ≡ b.thread
  pub begun : a.first < b.first
  pub held : b.first < a.last

-- of the boxes before box n, one that hasn't ended where box n begins has row y
pub record IsTaken (spans : List Span) (rows : List ℕ) (n : ℕ) (own : Span) (y : ℕ) : Type 0 where
  pub number : ℕ
  pub other : Span
  pub before : number < n
  pub there : slice_get spans number ≡ Some other
  pub over : IsOverSpan other own
  pub row : slice_get rows number ≡ Some y

-- row y isn't taken where box n begins, and all rows above it are
pub record IsFreeRow (spans : List Span) (rows : List ℕ) (n : ℕ) (own : Span) (y : ℕ) : Type 0 where
  pub free : IsTaken spans rows n own y → ⊥
  pub least : (z : ℕ) → z < y → IsTaken spans rows n own z

-- the rows of boxes: each box has the first row that isn't taken where it begins. Where holds nest, that is how many objects its thread then holds
pub record AreRows (spans : List Span) (rows : List ℕ) : Type 0 where
  pub size : length rows ≡ length spans
  pub each : (n : ℕ) (own : Span) (y : ℕ) → slice_get spans n ≡ Some own → slice_get rows n ≡ Some y → IsFreeRow spans rows n own y
