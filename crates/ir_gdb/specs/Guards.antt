-- Breakpoints that stop only if a condition is met.
use Rattle.std.specs.Prelude.{ℕ, ◌+◌, ◌-◌, Bool, List, [], length, nat_lt, nat_le, slice_get, Option, Some, None, if◌then◌else◌}
use Rattle.ir_gdb.specs.declared.point.Breakpoint.{Breakpoint}

-- a breakpoint, and its conditions, each by its bytes. Without conditions it always stops
pub record Guarded : Type 0 where
  pub point : Breakpoint
  pub conditions : List (List ℕ)

abbrev pub guarded : Breakpoint → List (List ℕ) → Guarded
guarded point conditions = record { point = point; conditions = conditions }

-- the same without conditions
abbrev pub without_conditions : Guarded → Guarded
without_conditions b = guarded b.point []

-- whether it has conditions
abbrev pub is_guarded : Guarded → Bool
is_guarded b = nat_lt 0 (length b.conditions)

-- what the number of a breakpoint with conditions is more than its place says: where points without conditions hit too, these are told
abbrev pub guard_offset : ℕ
guard_offset = 192

-- the number of a breakpoint at a place among the points
abbrev pub break_number : Guarded → ℕ → ℕ
break_number b place = if is_guarded b then place + guard_offset else place

-- whether it is the number of a breakpoint with conditions
abbrev pub has_guard : ℕ → Bool
has_guard number = nat_le guard_offset number

-- the place that a number says
abbrev pub place_of : ℕ → ℕ
place_of number = if has_guard number then number - guard_offset else number

abbrev pub conditions_of : Option Guarded → List (List ℕ)
conditions_of None = []
conditions_of (Some b) = b.conditions

-- the conditions of the breakpoint of a number, where this many points are before the breakpoints
abbrev pub conditions_at : List Guarded → ℕ → ℕ → List (List ℕ)
conditions_at breaks before number = conditions_of (slice_get breaks (place_of number - before))
