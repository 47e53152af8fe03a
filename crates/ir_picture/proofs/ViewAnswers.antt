-- What is answered about a coherent trace.
use Rattle.std.proofs.Common.{◌≡◌, ◌≤◌, ℕ, inl, inr, true, false, List, [], ◌∷◌, ◌++◌, codes, length, ap, ◌∙◌, Option, Ok, refl, sym, subst}
use Rattle.ir_trace.specs.Recorded.{Recorded}
use Rattle.ir_files.specs.Writers.{Writer}
use Rattle.ir_files.specs.declared.exit_status.ExitStatus.{ExitStatus}
use Rattle.ir_files.specs.declared.exit_status.ExitStatus.TheVariants as status
use Rattle.ir_past.specs.Answers.{Answered, NotAnswered}
use Rattle.ir_past.specs.Replies.{is_of_answer}
use Rattle.ir_past.specs.declared.past_err.PastErr.{PastErr}
use Rattle.ir_picture.specs.Answers.{IsForm, page_head, page_tail, most_boxes}
use Rattle.ir_picture.specs.Numbers.{rows_from, named_list, box_row, stale_row, data_start, thread_list, data_text}
use Rattle.ir_picture.specs.Progress.{data_head, stale_head, data_rows}
use Rattle.ir_picture.specs.declared.asked.Around.{Around}
use Rattle.ir_picture.specs.declared.asked.Form.{Form}
use Rattle.ir_picture.specs.declared.asked.Form.TheVariants as form
use Rattle.ir_picture.proofs.Texts.{four_parts_framed, data_parts_with_end, data_parts_before_last}
use Rattle.ir_picture.specs.Chrome.{AreSights, chrome_text, IsChromeAnswer}
use Rattle.ir_picture.specs.declared.picture.Picture.{Picture}
use Rattle.ir_past.specs.declared.stale_write.StaleWrite.{StaleWrite}
use Rattle.ir_picture.specs.declared.placed_box.Point.{Point}
use Rattle.ir_picture.specs.declared.placed_box.PlacedBox.{PlacedBox}
use Rattle.ir_picture.specs.declared.sights.Sight.{Sight}

-- a picture in a form has the status of an answer
pub form_status_is_answer : (f : Form) (r : Recorded) (near : Option Around) (p : Picture) (s : ExitStatus) (text : List ℕ) → IsForm f r near p s text
    → is_of_answer s ≡ true
form_status_is_answer form.Page r near p s text (inl (few, same, is)) = ap is_of_answer same
form_status_is_answer form.Page r near p s text (inr (many, same, is)) = ap is_of_answer same
form_status_is_answer form.Data r near p s text (same, is) = ap is_of_answer same
form_status_is_answer form.Chrome r near p s text (same, is) = ap is_of_answer same

-- ---- answers that are answers of another kind

pub answered_implied : (P Q : ExitStatus → List ℕ → Type 0) (s : ExitStatus) (w : Writer) → ((text : List ℕ) → P s text → Q s text) → Answered P s w
    → Answered Q s w
answered_implied P Q s w as_other a = record { text = a.text; is = as_other a.text a.is; took = a.took; works = a.works }

pub not_answered_implied : (P Q : ExitStatus → List ℕ → Type 0) (e : PastErr) (w : Writer)
    → ((s : ExitStatus) (text : List ℕ) → P s text → Q s text) → NotAnswered P e w → NotAnswered Q e w
not_answered_implied P Q e w as_other (inl h) = inl h
not_answered_implied P Q e w as_other (inr h) =
    inr (record { answered = h.answered; text = h.text; is = as_other h.answered h.text h.is; stops = h.stops })

-- the events for other viewers are the answer that they are
pub chrome_text_is_answer : (r : Recorded) (near : Option Around) (p : Picture) (slices : List ℕ) (boxes : List PlacedBox) (found sights : List Sight)
    → boxes ≡ p.boxes.items → sights ≡ found → AreSights r boxes found
    → IsChromeAnswer r near p slices status.Done (chrome_text r near p.ends.items slices sights)
chrome_text_is_answer r near p slices boxes found sights same_boxes same all = (
  refl,
  record {
    sights = sights;
    all = subst (λ (bs : List PlacedBox). AreSights r bs sights) same_boxes (subst (λ (ss : List Sight). AreSights r boxes ss) (sym same) all);
    lines = refl;
  },
)

-- ---- data in a frame

-- its four parts
pub four_parts_framed_rows : (r : Recorded) (near : Option Around) (p : Picture) (first a d before after : List ℕ) (ends : List Point) (boxes : List PlacedBox)
    (stale : List StaleWrite) → a ≡ first ++ data_head false r near ends → first ≡ before → ends ≡ p.ends.items → boxes ≡ p.boxes.items
    → stale ≡ p.stale.items → d ≡ after
    → ((a ++ rows_from (box_row r) 0 boxes) ++ (stale_head ++ rows_from stale_row 0 stale)) ++ d ≡ before ++ (data_rows r near p ++ after)
four_parts_framed_rows r near p first a d before after ends boxes stale begins same_first same_ends same_boxes same_stale closes =
    four_parts_framed a (rows_from (box_row r) 0 boxes) (stale_head ++ rows_from stale_row 0 stale) d before (data_head false r near p.ends.items) after
    (begins ∙ (λ i. same_first i ++ data_head false r near (same_ends i))) closes
    ∙ (λ i. before ++ ((data_head false r near p.ends.items
    ++ (rows_from (box_row r) 0 (same_boxes i) ++ (stale_head ++ rows_from stale_row 0 (same_stale i)))) ++ after))

-- the data with its end, and a text after it
pub rows_and_end_are_text : (r : Recorded) (near : Option Around) (p : Picture) (last : List ℕ) → data_rows r near p ++ (codes "\n]}" ++ last) ≡ data_text r near p ++ last
rows_and_end_are_text r near p last =
    data_parts_with_end (data_start false r near) (thread_list r p.ends.items) (codes ",\"boxes\":[") (rows_from (box_row r) 0 p.boxes.items) (codes "\n]")
    (codes ",\"stale\":[") (rows_from stale_row 0 p.stale.items) (codes "}" ++ last)
    ∙ data_parts_before_last (data_start false r near) (thread_list r p.ends.items) (named_list (codes ",\"boxes\":[") (box_row r) p.boxes.items)
    (named_list (codes ",\"stale\":[") stale_row p.stale.items) (codes "}") last

-- in a frame of its own it is the data of the picture
pub framed_rows_are_data : (r : Recorded) (near : Option Around) (p : Picture) (before after : List ℕ) → before ≡ [] → after ≡ codes "\n]}\n"
    → IsForm form.Data r near p status.Done (before ++ (data_rows r near p ++ after))
framed_rows_are_data r near p before after none ends = (
  refl,
  ap (λ (x : List ℕ). x ++ (data_rows r near p ++ after)) none ∙ ap (λ (x : List ℕ). data_rows r near p ++ x) ends ∙ rows_and_end_are_text r near p (10 ∷ []),
)

-- in that of a page it is the page of the picture
pub framed_rows_are_page : (r : Recorded) (near : Option Around) (p : Picture) (before after : List ℕ) → length p.boxes.items ≤ most_boxes → before ≡ page_head
    → after ≡ codes "\n]}" ++ page_tail → IsForm form.Page r near p status.Done (before ++ (data_rows r near p ++ after))
framed_rows_are_page r near p before after fits begins ends = inl (
  fits,
  refl,
  ap (λ (x : List ℕ). x ++ (data_rows r near p ++ after)) begins ∙ ap (λ (x : List ℕ). page_head ++ (data_rows r near p ++ x)) ends
      ∙ ap (λ (x : List ℕ). page_head ++ x) (rows_and_end_are_text r near p page_tail),
)
