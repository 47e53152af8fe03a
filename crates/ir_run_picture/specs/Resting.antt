-- The stale writes of a picture that rest on what was read.
use Rattle.std.specs.Prelude.{ℕ, zero, suc, if◌then◌else◌, List, [], ◌∷◌, ◌++◌, length, slice_get, Option, Some, None, map}
use Rattle.std.specs.List.{slice_index_or}
use Rattle.ir_past.specs.declared.stale_write.StaleWrite.{StaleWrite}
use Rattle.ir_stale_run.specs.declared.rest.Rest.{Rest}
use Rattle.ir_picture.specs.Shown.{is_shown}
use Rattle.ir_picture.specs.declared.placed_box.PlacedBox.{PlacedBox}
use Rattle.ir_run_picture.specs.declared.resting.Resting.{Resting}

-- a stale write, if it rests on its read and is shown where these boxes are
abbrev pub kept_if : List PlacedBox → Option StaleWrite → Option Rest → List Resting
kept_if shown None rest = []
kept_if shown (Some x) None = []
kept_if shown (Some x) (Some r) = if is_shown shown x then (record { write = x; rest = r }) ∷ [] else []

-- of the first n stale writes those
unfoldable pub first_resting : List PlacedBox → List StaleWrite → List (Option Rest) → ℕ → List Resting
first_resting shown rows rests zero = []
first_resting shown rows rests (suc n) = first_resting shown rows rests n ++ kept_if shown (slice_get rows n) (slice_index_or rests n None)

-- the stale writes that rest on their reads and are shown where these boxes are, with how they rest
abbrev pub resting_writes : List PlacedBox → List StaleWrite → List (Option Rest) → List Resting
resting_writes shown rows rests = first_resting shown rows rests (length rows)

-- the stale writes alone
abbrev pub stale_of_rests : List Resting → List StaleWrite
stale_of_rests kept = map (λ (x : Resting). x.write) kept
