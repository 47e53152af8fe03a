-- The greatest of the heights before a place.
use Rattle.std.specs.Prelude.{◌≡◌, ℕ, ◌+◌, ◌<◌, List, length, Some}
use Rattle.std.specs.List.{slice_get, Contains}
use Rattle.std.specs.List.Sorted.{IsNonDecreasingBy}
use Rattle.ir_holds.specs.declared.heights.Height.{Height}
use Rattle.ir_holds.specs.declared.heights.Heights.{Heights}
use Rattle.ir_holds.specs.Held.{IsLeastFrom}

-- the first n heights have this one
pub record IsAmongFirst (each : List Height) (n z : ℕ) : Type 0 where
  pub number : ℕ
  pub height : Height
  pub below : number < n
  pub there : slice_get each number ≡ Some height
  pub top : height.top ≡ z

-- a height before a place
pub record IsLower (each : List Height) (at z : ℕ) : Type 0 where
  pub height : Height
  pub there : Contains each height
  pub before : height.at < at
  pub top : height.top ≡ z

-- the greatest of the first n heights for each n; without any it is 0
abbrev pub AreTops : List Height → List ℕ → Type 0
AreTops each tops = (n y : ℕ) → slice_get tops n ≡ Some y → IsLeastFrom 0 (IsAmongFirst each n) y

-- heights by rising place, with the greatest of the first of them
pub record AreHeights (h : Heights) : Type 0 where
  pub rising : IsNonDecreasingBy (λ (x : Height). x.at) h.each.items
  pub size : length h.tops.items ≡ length h.each.items + 1
  pub tops : AreTops h.each.items h.tops.items
