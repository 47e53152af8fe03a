-- A table of the registers that are live at each point of a code.
use Rattle.std.specs.Prelude.{◌≡◌, ◌↔◌, ◌==◌, ◌&&◌, ◌||◌, ℕ, ◌+◌, ◌-◌, ◌*◌, ◌/◌, ◌%◌, ◌<◌, Bool, true, false, List, map, nat_le, if◌then◌else◌}
use Rattle.std.specs.List.{slice_index_or, range_with_len}
use Rattle.ir_image.specs.Guest.{code_start}
use Rattle.ir_mach.specs.Core.{Core, register}
use Rattle.ir_liveness.specs.Agreement.{point_of}
use Rattle.ir_liveness.specs.Flow.{call_limit}
use Rattle.ir_liveness.specs.Live.{Point, IsLiveRegister}

-- the place of the mark of a register at a point: words by their order, of each word the calls, of each call the registers
abbrev pub mark_place : Point → ℕ → ℕ
mark_place p number = ((p.pc - code_start) / 4 * call_limit + p.number) * 32 + number

-- whether a register is marked at a point; before the code none is, and where a pc isn't that of a word all are
abbrev pub is_marked : List Bool → Point → ℕ → Bool
is_marked marks p number =
    if p.pc % 4 == 0 then nat_le code_start p.pc && slice_index_or marks (mark_place p number) false else true

-- exactly the live registers of this code are marked
abbrev pub IsLiveTable : List ℕ → List Bool → Type 0
IsLiveTable code marks = (p : Point) (number : ℕ) → p.number < call_limit → number < 32
    → (is_marked marks p number ≡ true) ↔ IsLiveRegister code p number

-- what is kept of a register: its value if it is live, or a7, else 0
abbrev pub kept_value : List Bool → Core → ℕ → ℕ
kept_value marks core number = if (number == 17) || is_marked marks (point_of core) number then register core number else 0

-- what is kept of all registers
unfoldable pub kept_registers : List Bool → Core → List ℕ
kept_registers marks core = map (kept_value marks core) (range_with_len 0 32)
