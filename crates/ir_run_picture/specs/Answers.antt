-- What `ir view` writes where it is asked with an image.
use Rattle.std.specs.Prelude.{◌≡◌, ◌⊎◌, ℕ, ◌<◌, ◌≤◌, List, [], ◌∷◌, ◌++◌, length, Option}
use Rattle.ir_fit.specs.Fit.{FittedTrace}
use Rattle.ir_files.specs.Writers.{Writer}
use Rattle.ir_files.specs.declared.exit_status.ExitStatus.{ExitStatus}
use Rattle.ir_files.specs.declared.exit_status.ExitStatus.TheVariants as status
use Rattle.ir_past.specs.Past.{AreStaleWrites}
use Rattle.ir_past.specs.declared.absent.Absent.{Absent}
use Rattle.ir_past.specs.declared.ask_err.AskErr.{AskErr}
use Rattle.ir_past.specs.declared.stale_write.StaleWrite.{StaleWrite}
use Rattle.ir_opened.specs.Answers.{IsRunReply, IsRunReplyless}
use Rattle.ir_stale_run.specs.Rests.{AreRests}
use Rattle.ir_stale_run.specs.declared.rest.Rest.{Rest}
use Rattle.ir_picture.specs.Shown.{AreShown}
use Rattle.ir_picture.specs.Chrome.{IsChromeAnswer}
use Rattle.ir_picture.specs.Answers.{IsThereIn, LacksAround, page_of_picture, many_line, most_boxes}
use Rattle.ir_picture.specs.declared.asked.Around.{Around}
use Rattle.ir_picture.specs.declared.asked.Form.{Form}
use Rattle.ir_picture.specs.declared.asked.Form.TheVariants as form
use Rattle.ir_picture.specs.declared.asked.Asked.{Asked}
use Rattle.ir_picture.specs.declared.picture.Picture.{Picture}
use Rattle.ir_picture.specs.declared.placed_box.PlacedBox.{PlacedBox}
use Rattle.ir_holds.specs.declared.span.Span.{Span}
use Rattle.ir_run_picture.specs.Held.{AreHeld}
use Rattle.ir_run_picture.specs.Steps.{AreDrawn}
use Rattle.ir_run_picture.specs.Resting.{resting_writes, stale_of_rests}
use Rattle.ir_run_picture.specs.Numbers.{run_data_text}
use Rattle.ir_run_picture.specs.Chrome.{drawn_slices}
use Rattle.ir_run_picture.specs.declared.drawn.Drawn.{Drawn}
use Rattle.ir_run_picture.specs.declared.resting.Resting.{Resting}

-- the picture of a run, or the part of it that is asked for: its boxes from entering to leaving with their places and rows, and its stale writes that
-- rest on their reads
pub record IsRunPicture (f : FittedTrace) (near : Option Around) (p : Picture) (kept : List Resting) : Type 0 where
  pub all : List PlacedBox
  pub spans : List Span
  pub held : AreHeld f all spans p.ends.items
  pub shown : AreShown all near p.boxes.items
  pub rows : List StaleWrite
  pub are : AreStaleWrites f.recorded rows
  pub rests : List (Option Rest)
  pub found : AreRests f rows rests
  pub are_kept : kept ≡ resting_writes p.boxes.items rows rests
  pub stale : p.stale.items ≡ stale_of_rests kept

-- the data of a picture, whose boxes have their last steps
pub record IsData (f : FittedTrace) (near : Option Around) (p : Picture) (kept : List Resting) (text : List ℕ) : Type 0 where
  pub drawn : List Drawn
  pub are : AreDrawn f p.boxes.items drawn
  pub lines : text ≡ run_data_text f near p drawn kept

-- the page of a picture
pub record IsRunPage (f : FittedTrace) (near : Option Around) (p : Picture) (kept : List Resting) (whole : List ℕ) : Type 0 where
  pub text : List ℕ
  pub is : IsData f near p kept text
  pub lines : whole ≡ page_of_picture text

-- the answer that is the events for other viewers
abbrev pub IsRunChromeAnswer : FittedTrace → Option Around → Picture → List Resting → ExitStatus → List ℕ → Type 0
IsRunChromeAnswer f near p kept answered text =
    (drawn : List Drawn) × AreDrawn f p.boxes.items drawn × IsChromeAnswer f.recorded near p (drawn_slices f kept drawn) answered text

-- a picture in a form
abbrev pub IsFormOfRun : Form → FittedTrace → Option Around → Picture → List Resting → ExitStatus → List ℕ → Type 0
IsFormOfRun form.Page f near p kept answered text =
    ((length p.boxes.items ≤ most_boxes) × (answered ≡ status.Done) × IsRunPage f near p kept text)
    ⊎ ((most_boxes < length p.boxes.items) × (answered ≡ status.NotFit) × (text ≡ many_line (length p.boxes.items)))
IsFormOfRun form.Data f near p kept answered text =
    (answered ≡ status.Done) × ((lines : List ℕ) × IsData f near p kept lines × (text ≡ lines ++ 10 ∷ []))
IsFormOfRun form.Chrome f near p kept answered text = IsRunChromeAnswer f near p kept answered text

-- the answer about a run: its picture
pub record IsRunAnswer (asked : Asked) (f : FittedTrace) (answered : ExitStatus) (text : List ℕ) : Type 0 where
  pub picture : Picture
  pub kept : List Resting
  pub drawn : IsRunPicture f asked.around picture kept
  pub form : IsFormOfRun asked.form f asked.around picture kept answered text

-- the same where the event that a part is asked for around is there
abbrev pub IsRunTold : Asked → FittedTrace → ExitStatus → List ℕ → Type 0
IsRunTold asked f answered text = IsThereIn f.recorded asked.around × IsRunAnswer asked f answered text

-- the run doesn't have the event that a part is asked for around
abbrev pub LacksAroundIn : Asked → FittedTrace → Absent → Type 0
LacksAroundIn asked f = LacksAround asked f.recorded

-- the answer about the bytes of an image and of a trace
abbrev pub IsRunViewAnswer : Asked → List ℕ → List ℕ → ExitStatus → List ℕ → Type 0
IsRunViewAnswer asked = IsRunReply (IsRunTold asked)

-- why there is no answer about bytes, and what that leaves
abbrev pub IsRunViewUnanswered : Asked → List ℕ → List ℕ → AskErr → Writer → Type 0
IsRunViewUnanswered asked = IsRunReplyless (IsRunTold asked) (LacksAroundIn asked)
