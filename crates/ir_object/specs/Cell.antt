-- An object as the code keeps it, and the objects that it represents.
use Rattle.std.specs.Prelude.{◌≡◌, ◌+◌, ◌≤◌, ℕ, zero, suc, Bool, true, false, ◌||◌, List, Option, Some, None}
use Rattle.ir_runs.specs.declared.access.Access.{Access}
use Rattle.ir_runs.specs.declared.access.Access.TheVariants.{Reading, Writing}
use Rattle.ir_object.specs.declared.fields.Fields.{Fields}

-- an object of the code
pub record Cell : Type 0 where
  -- what its word says
  pub fields : Fields
  pub words : List ℕ

-- 1 for a reader
abbrev pub one_if_reading : Option Access → ℕ
one_if_reading (Some Reading) = 1
one_if_reading inside = 0

-- whether it is a writer
abbrev pub is_writing : Option Access → Bool
is_writing (Some Writing) = true
is_writing inside = false

-- how many of the first n threads are inside for reading
abbrev pub readers : ℕ → (ℕ → Option Access) → ℕ
readers zero inside = 0
readers (suc n) inside = readers n inside + one_if_reading (inside n)

-- whether one of the first n threads is inside for writing
abbrev pub has_writer : ℕ → (ℕ → Option Access) → Bool
has_writer zero inside = false
has_writer (suc n) inside = has_writer n inside || is_writing (inside n)

-- the word says of n threads who is inside: how many for reading, and whether one for writing
pub record Counts (n : ℕ) (f : Fields) (inside : ℕ → Option Access) : Type 0 where
  pub readers : f.inside ≡ readers n inside
  pub writer : f.writer ≡ has_writer n inside
  pub others : (t : ℕ) → n ≤ t → inside t ≡ None
