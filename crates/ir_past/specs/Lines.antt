-- What `ir stale` writes.
use Rattle.std.specs.Prelude.{◌≡◌, ℕ, List, [], ◌∷◌, ◌++◌, codes, decimal, length}
use Rattle.ir_trace.specs.Recorded.{Recorded}
use Rattle.ir_past.specs.Past.{AreStaleWrites, write_count}
use Rattle.ir_past.specs.Naming.{place_text}
use Rattle.ir_past.specs.declared.stale_write.StaleWrite.{StaleWrite}

-- the first line: how many writes are stale, of how many write entries
abbrev pub count_line : ℕ → ℕ → List ℕ
count_line stale writes = codes "stale " ++ (decimal stale ++ (codes " of " ++ (decimal writes ++ 10 ∷ [])))

-- the stale write of a row, and what it read
abbrev pub write_part : StaleWrite → List ℕ
write_part x =
    codes "thread " ++ (decimal x.thread ++ (codes " event " ++ (decimal x.event ++ (codes " write " ++ (decimal x.object
    ++ (codes " version " ++ decimal x.written))))))

-- the read of a row
abbrev pub read_part : StaleWrite → List ℕ
read_part x = codes " read event " ++ (decimal x.read ++ (codes " version " ++ decimal x.version))

-- what wrote over it, and the line's end
abbrev pub over_part : StaleWrite → List ℕ
over_part x = codes " overwritten by " ++ (place_text x.overwritten_by ++ 10 ∷ [])

-- the line of a row
abbrev pub row_line : StaleWrite → List ℕ
row_line x = write_part x ++ (read_part x ++ over_part x)

-- the lines of the rows
unfoldable pub row_lines : List StaleWrite → List ℕ
row_lines [] = []
row_lines (x ∷ xs) = row_line x ++ row_lines xs

-- the lines of a trace's stale writes
abbrev pub stale_text : ℕ → List StaleWrite → List ℕ
stale_text writes rows = count_line (length rows) writes ++ row_lines rows

-- the answer to a coherent trace: the lines of its stale writes
pub record IsStaleAnswer (r : Recorded) (text : List ℕ) : Type 0 where
  pub rows : List StaleWrite
  pub all : AreStaleWrites r rows
  pub lines : text ≡ stale_text (write_count r) rows
