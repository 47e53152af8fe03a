-- The order of events: by thread, and then by place.
use Rattle.std.specs.Prelude.{◌≡◌, ℕ, ◌<◌, ◌⊎◌}

-- event j of thread u comes before event i of thread t
abbrev pub IsBefore : ℕ → ℕ → ℕ → ℕ → Type 0
IsBefore u j t i = (u < t) ⊎ ((u ≡ t) × (j < i))
