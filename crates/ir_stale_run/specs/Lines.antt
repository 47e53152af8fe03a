-- What `ir stale` writes where it is asked with an image.
use Rattle.std.specs.Prelude.{◌≡◌, ℕ, zero, suc, ◌+◌, List, [], ◌++◌, length, codes, decimal, slice_get, Option, Some, None}
use Rattle.std.specs.List.{slice_index_or}
use Rattle.ir_fit.specs.Fit.{FittedTrace}
use Rattle.ir_past.specs.Past.{AreStaleWrites, write_count}
use Rattle.ir_past.specs.Lines.{count_line}
use Rattle.ir_past.specs.declared.place.Place.{Place}
use Rattle.ir_past.specs.declared.stale_write.StaleWrite.{StaleWrite}
use Rattle.ir_text.specs.Texts.{hex_word}
use Rattle.ir_events.specs.Events.{event_entry}
use Rattle.ir_stale_run.specs.Rests.{AreRests}
use Rattle.ir_stale_run.specs.declared.reason.Reason.{Reason}
use Rattle.ir_stale_run.specs.declared.reason.Reason.TheVariants.{Value, Way}
use Rattle.ir_stale_run.specs.declared.rest.Rest.{Rest}

-- the write of a row, with the position of its step
abbrev pub rest_write_part : FittedTrace → StaleWrite → List ℕ
rest_write_part f x = codes "thread " ++ decimal x.thread ++ codes " event " ++ decimal x.event ++ codes " step " ++ decimal (event_entry f x.thread x.event)
    ++ codes " write " ++ decimal x.object ++ codes " version " ++ decimal x.written

-- its read
abbrev pub rest_read_part : FittedTrace → StaleWrite → List ℕ
rest_read_part f x = codes " read event " ++ decimal x.read ++ codes " step " ++ decimal (event_entry f x.thread x.read) ++ codes " version " ++ decimal x.version

-- what wrote over it
abbrev pub rest_over_part : FittedTrace → Place → List ℕ
rest_over_part f p = codes " overwritten by thread " ++ decimal p.thread ++ codes " event " ++ decimal p.event ++ codes " step "
    ++ decimal (event_entry f p.thread p.event)

-- how the thread would have acted otherwise
abbrev pub rest_reason_text : Reason → List ℕ
rest_reason_text Value = codes "value"
rest_reason_text Way = codes "way"

-- a word that was read and is another, and the line's end
abbrev pub word_part : Rest → List ℕ
word_part r = codes " word " ++ decimal r.word ++ codes " was " ++ hex_word r.was ++ codes " is " ++ hex_word r.is ++ codes " " ++ rest_reason_text r.reason
    ++ codes "\n"

-- the line of a row that rests so on its read
abbrev pub rest_line : FittedTrace → StaleWrite → Rest → List ℕ
rest_line f x r = rest_write_part f x ++ rest_read_part f x ++ rest_over_part f x.overwritten_by ++ word_part r

-- the line of a row, if it rests on its read
abbrev pub line_if : FittedTrace → Option StaleWrite → Option Rest → List ℕ
line_if f (Some x) (Some r) = rest_line f x r
line_if f _ _ = []

-- the lines of the first n rows
unfoldable pub first_lines : FittedTrace → List StaleWrite → List (Option Rest) → ℕ → List ℕ
first_lines f rows rests zero = []
first_lines f rows rests (suc n) = first_lines f rows rests n ++ line_if f (slice_get rows n) (slice_index_or rests n None)

-- 1 for a row that rests on its read
abbrev pub one_if : Option Rest → ℕ
one_if None = 0
one_if (Some r) = 1

-- how many of the first n rest on their reads
unfoldable pub rows_kept : List (Option Rest) → ℕ → ℕ
rows_kept rests zero = 0
rows_kept rests (suc n) = rows_kept rests n + one_if (slice_index_or rests n None)

-- the lines of the rows that rest on their reads, after how many they are, of how many write entries
abbrev pub rests_text : FittedTrace → List StaleWrite → List (Option Rest) → List ℕ
rests_text f rows rests = count_line (rows_kept rests (length rests)) (write_count f.recorded) ++ first_lines f rows rests (length rows)

-- the answer to a trace and the guest that has it
pub record IsRestsAnswer (f : FittedTrace) (text : List ℕ) : Type 0 where
  pub rows : List StaleWrite
  pub all : AreStaleWrites f.recorded rows
  pub rests : List (Option Rest)
  pub found : AreRests f rows rests
  pub lines : text ≡ rests_text f rows rests
