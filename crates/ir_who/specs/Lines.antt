-- What `ir who` writes.
use Rattle.std.specs.Prelude.{◌≡◌, ◌<◌, ◌≤◌, ℕ, suc, List, [], ◌∷◌, ◌++◌, codes, decimal, length, Option, Some, None, Result}
use Rattle.std.specs.List.{slice_get}
use Rattle.ir_trace.specs.Recorded.{Recorded}
use Rattle.ir_trace.specs.declared.trace_err.TraceErr.{TraceErr}
use Rattle.ir_files.specs.Writers.{Writer}
use Rattle.ir_past.specs.Replies.{IsAnswerlessOf}
use Rattle.ir_past.specs.declared.absent.Absent.{Absent}
use Rattle.ir_past.specs.declared.absent.Absent.TheVariants as absent
use Rattle.ir_past.specs.declared.ask_err.AskErr.{AskErr}
use Rattle.ir_past.specs.declared.place.Place.{Place}
use Rattle.ir_past.specs.Past.{AreReaders, IsOverwriter}
use Rattle.ir_past.specs.Naming.{place_text, maker_text}
use Rattle.ir_who.specs.Versions.{AreVersions}
use Rattle.ir_who.specs.declared.version.Version.{Version}
use Rattle.ir_who.specs.declared.question.Question.{Question}

-- the line of version v
abbrev pub version_line : ℕ → Version → List ℕ
version_line v x =
    codes "version " ++ (decimal v ++ (codes " by " ++ (maker_text x.made_by ++ (codes " readers " ++ (decimal x.readers ++ 10 ∷ [])))))

-- the lines of versions, of which the first is version v
unfoldable pub version_lines : ℕ → List Version → List ℕ
version_lines v [] = []
version_lines v (x ∷ xs) = version_line v x ++ version_lines (suc v) xs

-- the first line of an object's versions
abbrev pub object_line : ℕ → ℕ → List ℕ
object_line o count = codes "object " ++ (decimal o ++ (codes " versions " ++ (decimal count ++ 10 ∷ [])))

-- the lines of an object
abbrev pub versions_text : ℕ → List Version → List ℕ
versions_text o rows = object_line o (length rows) ++ version_lines 0 rows

-- the line of a read entry
abbrev pub read_line : Place → List ℕ
read_line p = codes "read " ++ (place_text p ++ 10 ∷ [])

-- the lines of read entries
unfoldable pub read_lines : List Place → List ℕ
read_lines [] = []
read_lines (p ∷ ps) = read_line p ++ read_lines ps

-- the last line of a version
abbrev pub over_line : Option Place → List ℕ
over_line None = codes "last" ++ 10 ∷ []
over_line (Some p) = codes "overwritten by " ++ (place_text p ++ 10 ∷ [])

-- the lines of version v
abbrev pub version_text : ℕ → Version → List Place → Option Place → List ℕ
version_text v x readers over = version_line v x ++ (read_lines readers ++ over_line over)

-- the answer about an object: a line for each of its versions
pub record IsObjectAnswer (r : Recorded) (o : ℕ) (text : List ℕ) : Type 0 where
  pub rows : List Version
  pub all : AreVersions r o rows
  pub lines : text ≡ versions_text o rows

-- the answer about version v of an object: what made it, who read it, what wrote over it
pub record IsVersionAnswer (r : Recorded) (o v : ℕ) (text : List ℕ) : Type 0 where
  pub rows : List Version
  pub all : AreVersions r o rows
  pub row : Version
  pub there : slice_get rows v ≡ Some row
  pub readers : List Place
  pub read : AreReaders r o v readers
  pub over : Option Place
  pub overwritten : IsOverwriter r o v over
  pub lines : text ≡ version_text v row readers over

-- the answer to what is asked about a coherent trace
abbrev pub answers : Recorded → ℕ → Option ℕ → List ℕ → Type 0
answers r o None text = IsObjectAnswer r o text
answers r o (Some v) text = IsVersionAnswer r o v text

pub record IsWhoAnswer (asked : Question) (r : Recorded) (text : List ℕ) : Type 0 where
  pub object : asked.object < r.objects
  pub answer : answers r asked.object asked.version text

-- object o doesn't have version v
abbrev pub LacksVersion : Recorded → ℕ → ℕ → Type 0
LacksVersion r o v = (rows : List Version) × AreVersions r o rows × (length rows ≤ v)

-- what isn't there of version v of object o: the version alone
abbrev pub IsNoVersion : Recorded → ℕ → ℕ → Absent → Type 0
IsNoVersion r o v absent.Version = LacksVersion r o v
IsNoVersion r o v what = ⊥

-- the trace doesn't have what is asked about: no such object, or no such version of it
abbrev pub LacksAsked : Question → Recorded → Absent → Type 0
LacksAsked asked r absent.Object = r.objects ≤ asked.object
LacksAsked asked r absent.Version = (asked.object < r.objects) × ((v : ℕ) × (asked.version ≡ Some v) × LacksVersion r asked.object v)
LacksAsked asked r what = ⊥

-- why a question about bytes wasn't answered, and what that leaves
abbrev pub IsWhoUnanswered : Question → Result Recorded TraceErr → AskErr → Writer → Type 0
IsWhoUnanswered asked = IsAnswerlessOf (IsWhoAnswer asked) (LacksAsked asked)
