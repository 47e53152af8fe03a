-- What `ir who` writes where it is asked with an image.
use Rattle.std.specs.Prelude.{◌≡◌, ◌<◌, ℕ, suc, List, [], ◌∷◌, ◌++◌, codes, decimal, length, Option, Some, None}
use Rattle.std.specs.List.{slice_get}
use Rattle.ir_fit.specs.Fit.{FittedTrace}
use Rattle.ir_files.specs.Writers.{Writer}
use Rattle.ir_past.specs.declared.absent.Absent.{Absent}
use Rattle.ir_past.specs.declared.ask_err.AskErr.{AskErr}
use Rattle.ir_past.specs.declared.place.Place.{Place}
use Rattle.ir_past.specs.Past.{AreReaders, IsOverwriter}
use Rattle.ir_past.specs.Naming.{place_text, maker_text}
use Rattle.ir_events.specs.Events.{event_entry}
use Rattle.ir_opened.specs.Answers.{IsFitAnswerlessOf}
use Rattle.ir_opened.specs.Paired.{ArePaired}
use Rattle.ir_opened.specs.Positions.{IsLeft, step_part, step_if}
use Rattle.ir_who.specs.Lines.{object_line, LacksAsked}
use Rattle.ir_who.specs.Versions.{AreVersions}
use Rattle.ir_who.specs.declared.version.Version.{Version}
use Rattle.ir_who.specs.declared.dated.Dated.{Dated}
use Rattle.ir_who.specs.declared.question.Question.{Question}

-- from which step on what an event made is there: from its thread's leave; the first words have none
abbrev pub IsMadeAt : FittedTrace → Option Place → Option ℕ → Type 0
IsMadeAt f None step = step ≡ None
IsMadeAt f (Some p) step = IsLeft f p.thread p.event step

-- a version of the run
pub record IsDated (f : FittedTrace) (x : Version) (d : Dated) : Type 0 where
  pub version : d.version ≡ x
  pub step : IsMadeAt f x.made_by d.step

-- an event with its step
abbrev pub step_place : FittedTrace → Place → List ℕ
step_place f p = place_text p ++ step_part (event_entry f p.thread p.event)

-- the line of version v
abbrev pub dated_line : ℕ → Dated → List ℕ
dated_line v d = codes "version " ++ (decimal v ++ (codes " by " ++ (maker_text d.version.made_by ++ (step_if d.step
    ++ (codes " readers " ++ (decimal d.version.readers ++ 10 ∷ []))))))

-- the lines of versions, of which the first is version v
unfoldable pub dated_lines : ℕ → List Dated → List ℕ
dated_lines v [] = []
dated_lines v (d ∷ ds) = dated_line v d ++ dated_lines (suc v) ds

-- the lines of an object
abbrev pub dated_text : ℕ → List Dated → List ℕ
dated_text o ds = object_line o (length ds) ++ dated_lines 0 ds

-- the line of a read entry
abbrev pub fit_read_line : FittedTrace → Place → List ℕ
fit_read_line f p = codes "read " ++ (step_place f p ++ 10 ∷ [])

-- the lines of read entries
unfoldable pub fit_read_lines : FittedTrace → List Place → List ℕ
fit_read_lines f [] = []
fit_read_lines f (p ∷ ps) = fit_read_line f p ++ fit_read_lines f ps

-- the last line of a version
abbrev pub fit_over_line : FittedTrace → Option Place → List ℕ
fit_over_line f None = codes "last" ++ 10 ∷ []
fit_over_line f (Some p) = codes "overwritten by " ++ (step_place f p ++ 10 ∷ [])

-- the lines of version v
abbrev pub fit_version_text : FittedTrace → ℕ → Dated → List Place → Option Place → List ℕ
fit_version_text f v d readers over = dated_line v d ++ (fit_read_lines f readers ++ fit_over_line f over)

-- the answer about an object: a line for each of its versions
pub record IsFitObjectAnswer (f : FittedTrace) (o : ℕ) (text : List ℕ) : Type 0 where
  pub rows : List Version
  pub all : AreVersions f.recorded o rows
  pub dated : List Dated
  pub each : ArePaired (IsDated f) rows dated
  pub lines : text ≡ dated_text o dated

-- the answer about version v of an object: what made it, who read it, what wrote over it
pub record IsFitVersionAnswer (f : FittedTrace) (o v : ℕ) (text : List ℕ) : Type 0 where
  pub rows : List Version
  pub all : AreVersions f.recorded o rows
  pub row : Version
  pub there : slice_get rows v ≡ Some row
  pub dated : Dated
  pub made : IsDated f row dated
  pub readers : List Place
  pub read : AreReaders f.recorded o v readers
  pub over : Option Place
  pub overwritten : IsOverwriter f.recorded o v over
  pub lines : text ≡ fit_version_text f v dated readers over

-- the answer to what is asked about a run
abbrev pub fit_answers : FittedTrace → ℕ → Option ℕ → List ℕ → Type 0
fit_answers f o None text = IsFitObjectAnswer f o text
fit_answers f o (Some v) text = IsFitVersionAnswer f o v text

pub record IsFitWhoAnswer (asked : Question) (f : FittedTrace) (text : List ℕ) : Type 0 where
  pub object : asked.object < f.recorded.objects
  pub answer : fit_answers f asked.object asked.version text

-- the run doesn't have what is asked about
abbrev pub LacksAskedIn : Question → FittedTrace → Absent → Type 0
LacksAskedIn asked f = LacksAsked asked f.recorded

-- why a question about bytes wasn't answered, and what that leaves
abbrev pub IsFitUnanswered : Question → List ℕ → List ℕ → AskErr → Writer → Type 0
IsFitUnanswered asked = IsFitAnswerlessOf (IsFitWhoAnswer asked) (LacksAskedIn asked)
