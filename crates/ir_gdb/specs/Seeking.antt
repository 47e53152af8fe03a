-- What a search downwards looks at: the stops of a stretch of steps, and the points that hit a thread at 0.
use Rattle.std.specs.Prelude.{ℕ, suc, ◌<◌, ◌≤◌, ◌==◌, ◌&&◌, min, Bool, false, List, [], ◌∷◌, Option, Some, None, if◌then◌else◌}
use Rattle.ir_command.specs.declared.command.Point.{Point}
use Rattle.ir_command.specs.declared.command.Point.TheVariants.{Break, Watch, WatchObject}
use Rattle.ir_command.specs.declared.hit.Hit.{Hit}
use Rattle.ir_hits.specs.Hits.{Numbered}
use Rattle.ir_gdb.specs.Conditions.{IsLowestThat, NoneStopsWithin}

-- ---- a stretch

-- the last from a position on and below another
abbrev pub IsLastStopFrom : (ℕ → ℕ → Type 0) → ℕ → ℕ → Option Hit → Type 0
IsLastStopFrom P from to (Some h) = (from ≤ h.position) × (h.position < to) × NoneStopsWithin P (suc h.position) to × IsLowestThat P h.position h.number
IsLastStopFrom P from to None = NoneStopsWithin P from to

-- of two stops the second, if there is one
abbrev pub latest : Option Hit → Option Hit → Option Hit
latest found None = found
latest found (Some h) = Some h

-- ---- the start: only breakpoints hit a thread at 0, since no step is before

-- whether a point is a breakpoint of thread t at an address
abbrev pub is_break_at : ℕ → ℕ → Point → Bool
is_break_at t pc (Break u address) = (u == t) && (address == pc)
is_break_at t pc (Watch u address) = false
is_break_at t pc (WatchObject object) = false

-- the lower of both numbers, where there are two
abbrev pub least_number : Option ℕ → ℕ → ℕ
least_number None n = n
least_number (Some m) n = min m n

-- the lower of a number and that of a point, if the point is such a breakpoint
abbrev pub lower_start : ℕ → ℕ → Numbered → Option ℕ → Option ℕ
lower_start t pc p found = if is_break_at t pc p.point then Some (least_number found p.number) else found

-- the lowest of a number and those of such breakpoints
unfoldable pub lowest_start : ℕ → ℕ → List Numbered → Option ℕ → Option ℕ
lowest_start t pc [] found = found
lowest_start t pc (p ∷ ps) found = lowest_start t pc ps (lower_start t pc p found)
