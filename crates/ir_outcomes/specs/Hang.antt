-- The first state that isn't marked.
use Rattle.std.specs.Prelude.{◌≡◌, ℕ, ◌<◌, Bool, false, List, Some, slice_get}
use Rattle.ir_search.specs.Following.{IsNodeOpen}

-- node v isn't marked, and each before it is
abbrev pub IsFirstHang : List Bool → ℕ → Type 0
IsFirstHang marks v = (slice_get marks v ≡ Some false) × ((w : ℕ) → w < v → IsNodeOpen marks w)
