-- What `ir view` writes.
use Rattle.std.specs.Prelude.{◌≡◌, ℕ, ◌<◌, ◌≤◌, ◌⊎◌, ⊤, List, [], ◌∷◌, ◌++◌, codes, decimal, length, Option, Some, None, Result}
use Rattle.ir_trace.specs.Recorded.{Recorded, recorded_thread}
use Rattle.ir_trace.specs.declared.trace_err.TraceErr.{TraceErr}
use Rattle.ir_files.specs.Writers.{Writer}
use Rattle.ir_files.specs.declared.exit_status.ExitStatus.{ExitStatus}
use Rattle.ir_files.specs.declared.exit_status.ExitStatus.TheVariants as status
use Rattle.ir_past.specs.Past.{AreStaleWrites}
use Rattle.ir_past.specs.Replies.{IsTraceReply, IsTraceReplyless}
use Rattle.ir_past.specs.declared.absent.Absent.{Absent}
use Rattle.ir_past.specs.declared.absent.Absent.TheVariants as absent
use Rattle.ir_past.specs.declared.ask_err.AskErr.{AskErr}
use Rattle.ir_past.specs.declared.stale_write.StaleWrite.{StaleWrite}
use Rattle.ir_picture.specs.Needs.{HasNoCircle, IsCircleAt}
use Rattle.ir_picture.specs.Places.{AreBoxesPlaced}
use Rattle.ir_picture.specs.Shown.{AreShown, shown_stale}
use Rattle.ir_picture.specs.Numbers.{data_text}
use Rattle.ir_picture.specs.Chrome.{picture_slices, IsChromeAnswer}
use Rattle.ir_picture.specs.declared.asked.Around.{Around}
use Rattle.ir_picture.specs.declared.asked.Form.{Form}
use Rattle.ir_picture.specs.declared.asked.Form.TheVariants as form
use Rattle.ir_picture.specs.declared.asked.Asked.{Asked}
use Rattle.ir_picture.specs.declared.placed_box.PlacedBox.{PlacedBox}
use Rattle.ir_picture.specs.declared.page.TheConstants.{HEAD_1, HEAD_2, TAIL_1, TAIL_2, TAIL_3, TAIL_4}
use Rattle.ir_picture.specs.declared.picture.Picture.{Picture}

-- the picture of a trace, or the part of it that is asked for: its boxes with their places, its stale writes
pub record IsPicture (r : Recorded) (near : Option Around) (p : Picture) : Type 0 where
  pub all : List PlacedBox
  pub placed : AreBoxesPlaced r all p.ends.items
  pub shown : AreShown all near p.boxes.items
  pub rows : List StaleWrite
  pub are : AreStaleWrites r rows
  pub stale : p.stale.items ≡ shown_stale p.boxes.items rows

-- what a page has before its data, always the same
unfoldable pub page_head : List ℕ
page_head = HEAD_1.now ++ HEAD_2.now

-- what it has after it
unfoldable pub page_tail : List ℕ
page_tail = TAIL_1.now ++ (TAIL_2.now ++ (TAIL_3.now ++ TAIL_4.now))

-- the page that has this data
abbrev pub page_of_picture : List ℕ → List ℕ
page_of_picture text = page_head ++ (text ++ page_tail)

-- the page of a picture
abbrev pub page_text : Recorded → Option Around → Picture → List ℕ
page_text r near p = page_of_picture (data_text r near p)

-- the line of a circle
abbrev pub circle_line : ℕ → ℕ → List ℕ
circle_line t e = codes "circle thread " ++ (decimal t ++ (codes " event " ++ (decimal e ++ 10 ∷ [])))

-- the line that says that a page would have this many boxes
abbrev pub many_line : ℕ → List ℕ
many_line count = codes "too many boxes " ++ (decimal count ++ 10 ∷ [])

-- the most boxes of a page
abbrev pub most_boxes : ℕ
most_boxes = 200000

-- a picture in a form
abbrev pub IsForm : Form → Recorded → Option Around → Picture → ExitStatus → List ℕ → Type 0
IsForm form.Page r near p answered text =
    ((length p.boxes.items ≤ most_boxes) × (answered ≡ status.Done) × (text ≡ page_text r near p))
    ⊎ ((most_boxes < length p.boxes.items) × (answered ≡ status.NotFit) × (text ≡ many_line (length p.boxes.items)))
IsForm form.Data r near p answered text = (answered ≡ status.Done) × (text ≡ data_text r near p ++ 10 ∷ [])
IsForm form.Chrome r near p answered text = IsChromeAnswer r near p (picture_slices r p) answered text

-- the event that a part is asked for around, if it is, is there
abbrev pub IsThereIn : Recorded → Option Around → Type 0
IsThereIn r None = ⊤
IsThereIn r (Some near) = (near.thread < length r.threads) × (near.event < length (recorded_thread r near.thread).events)

-- the answer about a coherent trace: a circle of its events, or its picture
abbrev pub IsPictureAnswer : Asked → Recorded → ExitStatus → List ℕ → Type 0
IsPictureAnswer asked r answered text =
    ((t e : ℕ) × IsCircleAt r t e × (answered ≡ status.NotFit) × (text ≡ circle_line t e))
    ⊎ (HasNoCircle r × ((p : Picture) × IsPicture r asked.around p × IsForm asked.form r asked.around p answered text))

-- the same where the event that a part is asked for around is there
abbrev pub IsViewTold : Asked → Recorded → ExitStatus → List ℕ → Type 0
IsViewTold asked r answered text = IsThereIn r asked.around × IsPictureAnswer asked r answered text

-- the answer about bytes
abbrev pub IsViewAnswer : Asked → Result Recorded TraceErr → ExitStatus → List ℕ → Type 0
IsViewAnswer asked = IsTraceReply (IsViewTold asked)

-- the trace doesn't have the event that a part is asked for around
abbrev pub IsAbsent : Option Around → Recorded → Absent → Type 0
IsAbsent None r what = ⊥
IsAbsent (Some near) r absent.Thread = length r.threads ≤ near.thread
IsAbsent (Some near) r absent.Event = (near.thread < length r.threads) × (length (recorded_thread r near.thread).events ≤ near.event)
IsAbsent (Some near) r what = ⊥

abbrev pub LacksAround : Asked → Recorded → Absent → Type 0
LacksAround asked = IsAbsent asked.around

-- why there is no answer about bytes, and what that leaves
abbrev pub IsViewUnanswered : Asked → Result Recorded TraceErr → AskErr → Writer → Type 0
IsViewUnanswered asked = IsTraceReplyless (IsViewTold asked) (LacksAround asked)
