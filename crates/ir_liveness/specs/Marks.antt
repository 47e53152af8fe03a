-- Marks of registers while a table is made.
use Rattle.std.specs.Prelude.{◌≡◌, ◌↔◌, ℕ, suc, ◌+◌, ◌*◌, ◌/◌, ◌%◌, ◌<◌, Bool, true, false, List, [], ◌∷◌, ◌⊎◌}
use Rattle.std.specs.List.{slice_index_or}
use Rattle.ir_isa.specs.declared.inst.Inst.{Inst}
use Rattle.ir_image.specs.Guest.{fetched, code_start}
use Rattle.ir_image.specs.declared.fetched.Fetched.TheVariants.{Found}
use Rattle.ir_liveness.specs.Flow.{reads_register, writes_register, constant_of, AsksAfter, MayGoTo, call_limit}
use Rattle.ir_liveness.specs.Live.{Point, IsLiveRegister}
use Rattle.ir_liveness.specs.Table.{is_marked}

-- how many places there are for each word: 14 calls of 32 registers
abbrev pub places_of_word : ℕ
places_of_word = 448

-- the point of a word, by its order, at a place among those of the word
abbrev pub point_at : ℕ → ℕ → Point
point_at word place = record { pc = code_start + 4 * word; number = place / 32 }

-- how many places aren't marked
unfoldable pub unmarked : List Bool → ℕ
unmarked [] = 0
unmarked (true ∷ marks) = unmarked marks
unmarked (false ∷ marks) = suc (unmarked marks)

-- of each place of a word, whether it is marked at any word
abbrev pub AreAnywhere : List Bool → List Bool → Type 0
AreAnywhere marks anywhere = (place : ℕ) → place < places_of_word
    → (slice_index_or anywhere place false ≡ true) ↔ ((word : ℕ) × (slice_index_or marks (word * places_of_word + place) false ≡ true))

-- a register is marked at a point that may come after this one
abbrev pub IsMarkedAfter : List Bool → Inst → Point → ℕ → Type 0
IsMarkedAfter marks inst p register = (next : Point) × MayGoTo inst p.number p.pc next.pc
    × AsksAfter (writes_register inst p.number 17) (constant_of inst) p.number next.number × (is_marked marks next register ≡ true)

-- the instruction at a point reads a register, or leaves it to a point where it is marked
abbrev pub IsMarkSeen : List Bool → Inst → Point → ℕ → Type 0
IsMarkSeen marks inst p register = (reads_register inst p.number register ≡ true) ⊎ ((writes_register inst p.number register ≡ false) × IsMarkedAfter marks inst p register)

-- live registers alone are marked
abbrev pub AreMarksLive : List ℕ → List Bool → Type 0
AreMarksLive code marks = (p : Point) (register : ℕ) → p.number < call_limit → register < 32 → is_marked marks p register ≡ true → IsLiveRegister code p register

-- a register that is seen at this place of a word is marked there
abbrev pub IsClosedAt : List ℕ → List Bool → ℕ → ℕ → Type 0
IsClosedAt code marks word place = (inst : Inst) → fetched code (code_start + 4 * word) ≡ Found inst
    → IsMarkSeen marks inst (point_at word place) (place % 32) → is_marked marks (point_at word place) (place % 32) ≡ true

-- what becomes of marks where it is gone over these places, of each word some
pub record IsSwept (code : List ℕ) (old new : List Bool) (changed : Bool) (Over : ℕ → ℕ → Type 0) : Type 0 where
  pub live : AreMarksLive code old → AreMarksLive code new
  pub fewer : changed ≡ true → unmarked new < unmarked old
  pub same : changed ≡ false → new ≡ old
  pub closed : changed ≡ false → (word place : ℕ) → Over word place → IsClosedAt code old word place
