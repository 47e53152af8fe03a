-- What the bytes of an image and of a trace are answered.
use Rattle.std.proofs.Common.{◌≡◌, ◌+◌, ◌<◌, ◌≤◌, ℕ, inl, inr, true, arith, List, [], ◌∷◌, ◌++◌, codes, Option, length, refl, sym, ap, ◌∙◌, subst}
use Rattle.std.proofs.lemmas.Bool.{cases_lt}
use Rattle.ir_trace.specs.Recorded.{Recorded, recorded_thread}
use Rattle.ir_fit.specs.Fit.{FittedTrace}
use Rattle.ir_files.specs.declared.exit_status.ExitStatus.{ExitStatus}
use Rattle.ir_past.specs.Past.{IsRising, AreStaleWrites}
use Rattle.ir_past.specs.Replies.{is_of_answer}
use Rattle.ir_past.specs.declared.stale_write.StaleWrite.{StaleWrite}
use Rattle.ir_stale_run.specs.Rests.{AreRests}
use Rattle.ir_stale_run.specs.declared.rest.Rest.{Rest}
use Rattle.ir_picture.specs.Boxing.{AreSomeBoxes}
use Rattle.ir_picture.specs.Placing.{events_of_all}
use Rattle.ir_picture.specs.Boxes.{IsInBox, IsBox}
use Rattle.ir_picture.specs.Shown.{StartsAt, AreShown}
use Rattle.ir_picture.specs.Progress.{data_head, stale_head, IsOfPicture}
use Rattle.ir_picture.specs.declared.asked.Around.{Around}
use Rattle.ir_picture.specs.declared.event_box.EventBox.{EventBox}
use Rattle.ir_picture.specs.declared.placed_box.Point.{Point}
use Rattle.ir_picture.specs.declared.placed_box.PlacedBox.{PlacedBox}
use Rattle.ir_picture.specs.Chrome.{AreSights, chrome_text}
use Rattle.ir_picture.specs.declared.sights.Sight.{Sight}
use Rattle.ir_picture.proofs.CallerLemmas.{chrome_text_is_answer, four_parts_framed, data_parts_with_end, data_parts_before_last, shown_of_some_boxes, slice_get_of_map, slice_get_map_inverse}
use Rattle.ir_run_picture.specs.Brief.{IsRunBox, AreRunBoxes}
use Rattle.ir_run_picture.specs.Held.{AreHeld, HaveHeld}
use Rattle.ir_run_picture.specs.Resting.{resting_writes, stale_of_rests}
use Rattle.ir_run_picture.proofs.Kept.{kept_writes_are_rising}
use Rattle.ir_picture.specs.Answers.{page_head, page_tail, most_boxes}
use Rattle.ir_picture.specs.Numbers.{rows_from, named_list, data_start, thread_list}
use Rattle.ir_picture.specs.declared.asked.Form.{Form}
use Rattle.ir_picture.specs.declared.asked.Form.TheVariants as form
use Rattle.ir_files.specs.declared.exit_status.ExitStatus.TheVariants as status
use Rattle.ir_picture.specs.declared.asked.Asked.{Asked}
use Rattle.ir_picture.specs.declared.picture.Picture.{Picture}
use Rattle.ir_run_picture.specs.Numbers.{drawn_row, resting_row, run_data_rows, run_data_text}
use Rattle.ir_run_picture.specs.Chrome.{drawn_slices}
use Rattle.ir_run_picture.specs.Steps.{AreDrawn}
use Rattle.ir_run_picture.specs.declared.drawn.Drawn.{Drawn}
use Rattle.ir_run_picture.specs.Answers.{IsRunPicture, IsRunChromeAnswer, IsFormOfRun, IsRunAnswer}
use Rattle.ir_run_picture.specs.declared.resting.Resting.{Resting}

-- a form of its picture is one
pub picture_form_is_answer : (asked : Asked) (f : FittedTrace) (s : ExitStatus) (text : List ℕ) (p : Picture) (kept : List Resting)
    → IsRunPicture f asked.around p kept → IsFormOfRun asked.form f asked.around p kept s text → IsRunAnswer asked f s text
picture_form_is_answer asked f s text p kept drawn is = record { picture = p; kept = kept; drawn = drawn; form = is }

-- a picture in a form has the status of an answer
pub run_form_status_is_answer : (o : Form) (f : FittedTrace) (near : Option Around) (p : Picture) (kept : List Resting) (s : ExitStatus) (text : List ℕ)
    → IsFormOfRun o f near p kept s text → is_of_answer s ≡ true
run_form_status_is_answer form.Page f near p kept s text (inl (few, same, is)) = ap is_of_answer same
run_form_status_is_answer form.Page f near p kept s text (inr (many, same, is)) = ap is_of_answer same
run_form_status_is_answer form.Data f near p kept s text (same, is) = ap is_of_answer same
run_form_status_is_answer form.Chrome f near p kept s text (drawn, are, done) = ap is_of_answer done.0

-- a box of a run is one of its trace
pub run_box_is_box : (f : FittedTrace) (b : EventBox) → IsRunBox f b → IsBox f.recorded b
run_box_is_box f b is = record { thread = is.thread; some = is.some; within = is.within; folds = λ i from below. (is.folds i from below).folded }

-- the boxes of a run are boxes of its trace in their order
pub run_has_some_boxes : (f : FittedTrace) (boxes : List EventBox) → AreRunBoxes f boxes → AreSomeBoxes f.recorded boxes
run_has_some_boxes f boxes are = record {
  each = λ k b at. run_box_is_box f b (are.each k b at);
  apart = λ k m a b less at_k at_m. elim (are.rising k m a b less at_k at_m) [
    | inl thread ↦ inl thread
    | inr same ↦ elim (cases_lt b.event (a.event + a.count)) [
      | inl inside ↦
          let event = same.1 in
          let some = (are.each m b at_m).some in
          let both : k ≡ m = are.one k m b.thread b.event a b at_k at_m (record { thread = same.0; from = omega (arith, event); below = inside })
          (record { thread = refl; from = omega arith; below = omega (arith, some) }) in
          absurd (omega (arith, both, less))
      | inr not ↦ inr (same.0, omega (arith, not))
    ]
  ];
}

-- an event of a run that is there is in a box, which starts somewhere
pub run_event_start_exists : (f : FittedTrace) (boxes : List PlacedBox) (t i : ℕ) → AreRunBoxes f (events_of_all boxes)
    → i < length (recorded_thread f.recorded t).events → (x : ℕ) × StartsAt boxes t i x
run_event_start_exists f boxes t i are within =
    let h = are.all t i within in
    let back = slice_get_map_inverse (λ (z : PlacedBox). z.events) boxes h.number h.box h.there in (
      back.0.start.x,
      record {
        number = h.number;
        box = back.0;
        there = back.1;
        has = subst (λ (b : EventBox). IsInBox b t i) (sym back.2) h.has;
        start = refl;
      },
    )

-- the boxes of a run with the stale writes that rest on their reads
pub held_is_run_picture : (f : FittedTrace) (near : Option Around) (all : List PlacedBox) (ends : List Point) (q : Picture) (rows : List StaleWrite)
    (rests : List (Option Rest)) (kept : List Resting) → HaveHeld f all ends → AreShown all near q.boxes.items → q.ends.items ≡ ends → AreStaleWrites f.recorded rows
    → AreRests f rows rests → kept ≡ resting_writes q.boxes.items rows rests → q.stale.items ≡ stale_of_rests kept → IsRunPicture f near q kept × IsOfPicture f.recorded q
held_is_run_picture f near all ends q rows rests kept have shown last are found same stale =
    let held = have.1 in
    let some = shown_of_some_boxes f.recorded all q.boxes.items near (run_has_some_boxes f (events_of_all all) held.all) shown in (
      record {
        all = all;
        spans = have.0;
        held = subst (λ (es : List Point). AreHeld f all have.0 es) (sym last) held;
        shown = shown;
        rows = rows;
        are = are;
        rests = rests;
        found = found;
        are_kept = same;
        stale = stale;
      },
      record {
        boxes = λ k b at. some.each k b.events (slice_get_of_map (λ (z : PlacedBox). z.events) q.boxes.items k b at);
        some = some;
        ends = ap (λ (es : List Point). length es) last ∙ held.places.threads;
        stale = subst IsRising (sym (stale ∙ ap stale_of_rests same)) (kept_writes_are_rising q.boxes.items rows rests (length rows) are.rising);
      },
    )

-- boxes that are drawn are those of a picture that are
pub drawn_are_those_of_picture : (f : FittedTrace) (all boxes : List PlacedBox) (made drawn : List Drawn) → boxes ≡ all → AreDrawn f boxes made → drawn ≡ made
    → AreDrawn f all drawn
drawn_are_those_of_picture f all boxes made drawn same_boxes are same =
    subst (AreDrawn f all) (sym same) (subst (λ (bs : List PlacedBox). AreDrawn f bs made) same_boxes are)

-- the events for other viewers are the answer that they are
pub run_chrome_text_is_chrome_answer : (f : FittedTrace) (near : Option Around) (p : Picture) (kept : List Resting) (r : Recorded) (boxes : List PlacedBox)
    (drawn : List Drawn) (found sights : List Sight) → r ≡ f.recorded → AreDrawn f p.boxes.items drawn → boxes ≡ p.boxes.items → AreSights r boxes found
    → sights ≡ found
    → IsRunChromeAnswer f near p kept status.Done (chrome_text f.recorded near p.ends.items (drawn_slices f kept drawn) sights)
run_chrome_text_is_chrome_answer f near p kept r boxes drawn found sights same are same_boxes all same_sights = (
  drawn,
  are,
  chrome_text_is_answer f.recorded near p (drawn_slices f kept drawn) boxes found sights same_boxes same_sights
      (subst (λ (x : Recorded). AreSights x boxes found) same all),
)

-- ---- data in a frame

-- its four parts
pub framed_parts_are_rows : (f : FittedTrace) (near : Option Around) (p : Picture) (drawn : List Drawn) (kept : List Resting) (first a d before after : List ℕ)
    (r : Recorded) (ends : List Point) → a ≡ first ++ data_head true r near ends → first ≡ before → r ≡ f.recorded → ends ≡ p.ends.items → d ≡ after
    → ((a ++ rows_from (drawn_row f) 0 drawn) ++ (stale_head ++ rows_from resting_row 0 kept)) ++ d ≡ before ++ (run_data_rows f near p drawn kept ++ after)
framed_parts_are_rows f near p drawn kept first a d before after r ends begins same_first same same_ends closes =
    four_parts_framed a (rows_from (drawn_row f) 0 drawn) (stale_head ++ rows_from resting_row 0 kept) d before (data_head true f.recorded near p.ends.items) after
    (begins ∙ (λ i. same_first i ++ data_head true (same i) near (same_ends i))) closes

-- the data with its end, and a text after it
pub ended_rows_are_text : (f : FittedTrace) (near : Option Around) (p : Picture) (drawn : List Drawn) (kept : List Resting) (last : List ℕ)
    → run_data_rows f near p drawn kept ++ (codes "\n]}" ++ last) ≡ run_data_text f near p drawn kept ++ last
ended_rows_are_text f near p drawn kept last =
    data_parts_with_end (data_start true f.recorded near) (thread_list f.recorded p.ends.items) (codes ",\"boxes\":[") (rows_from (drawn_row f) 0 drawn)
    (codes "\n]") (codes ",\"stale\":[") (rows_from resting_row 0 kept) (codes "}" ++ last)
    ∙ data_parts_before_last (data_start true f.recorded near) (thread_list f.recorded p.ends.items) (named_list (codes ",\"boxes\":[") (drawn_row f) drawn)
    (named_list (codes ",\"stale\":[") resting_row kept) (codes "}") last

-- in a frame of its own it is the data of the picture
pub framed_run_rows_data : (f : FittedTrace) (near : Option Around) (p : Picture) (drawn : List Drawn) (kept : List Resting) (before after : List ℕ)
    → AreDrawn f p.boxes.items drawn → before ≡ [] → after ≡ codes "\n]}\n"
    → IsFormOfRun form.Data f near p kept status.Done (before ++ (run_data_rows f near p drawn kept ++ after))
framed_run_rows_data f near p drawn kept before after are none ends = (
  refl,
  (
    run_data_text f near p drawn kept,
    record { drawn = drawn; are = are; lines = refl },
    ap (λ (x : List ℕ). x ++ (run_data_rows f near p drawn kept ++ after)) none ∙ ap (λ (x : List ℕ). run_data_rows f near p drawn kept ++ x) ends
        ∙ ended_rows_are_text f near p drawn kept (10 ∷ []),
  ),
)

-- in that of a page it is the page of the picture
pub framed_run_rows_page : (f : FittedTrace) (near : Option Around) (p : Picture) (drawn : List Drawn) (kept : List Resting) (before after : List ℕ)
    → AreDrawn f p.boxes.items drawn → length p.boxes.items ≤ most_boxes → before ≡ page_head → after ≡ codes "\n]}" ++ page_tail
    → IsFormOfRun form.Page f near p kept status.Done (before ++ (run_data_rows f near p drawn kept ++ after))
framed_run_rows_page f near p drawn kept before after are fits begins ends = inl (
  fits,
  refl,
  record {
    text = run_data_text f near p drawn kept;
    is = record { drawn = drawn; are = are; lines = refl };
    lines = ap (λ (x : List ℕ). x ++ (run_data_rows f near p drawn kept ++ after)) begins
        ∙ ap (λ (x : List ℕ). page_head ++ (run_data_rows f near p drawn kept ++ x)) ends
        ∙ ap (λ (x : List ℕ). page_head ++ x) (ended_rows_are_text f near p drawn kept page_tail);
  },
)
