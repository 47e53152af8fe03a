-- The last steps of boxes of a run's trace.
use Rattle.std.proofs.Common.{◌≡◌, ℕ, ◌+◌, ◌<◌, inl, inr, List, [], ◌∷◌, ◌++◌, Some, length, get_or, sym, ap, ◌∙◌, subst, refl, arith}
use Rattle.std.specs.List.{slice_get}
use Rattle.std.proofs.lemmas.List.{length_push}
use Rattle.std.proofs.lemmas.Option.{none-some, same_Some, slice_get-get_or, slice_get_within}
use Rattle.ir_lemmas.proofs.CallerLemmas.{slice_get-push_cases}
use Rattle.ir_log.specs.declared.event.Event.{Event}
use Rattle.ir_log.specs.declared.event.Event.TheVariants.{Try}
use Rattle.ir_fit.specs.Fit.{FittedTrace, HasRun}
use Rattle.ir_trace.specs.Recorded.{recorded_thread}
use Rattle.ir_opened.specs.Positions.{IsInside}
use Rattle.ir_opened.proofs.CallerLemmas.{recorded_is_inside}
use Rattle.ir_picture.specs.Boxes.{IsBox}
use Rattle.ir_picture.specs.Progress.{AreBoxesOf}
use Rattle.ir_picture.specs.declared.event_box.EventBox.{EventBox}
use Rattle.ir_picture.specs.declared.placed_box.PlacedBox.{PlacedBox}
use Rattle.ir_run_picture.specs.Steps.{IsDrawn, AreDrawn}
use Rattle.ir_run_picture.specs.declared.drawn.Drawn.{Drawn}

-- the first event of a box is one of the guest's thread
pub box_first_event_inside : (f : FittedTrace) → HasRun f → (b : EventBox) → IsBox f.recorded b → IsInside f b.thread b.event
box_first_event_inside f h b is =
    let es : List Event = (recorded_thread f.recorded b.thread).events in
    let some = is.some in
    let within = is.within in
    let l : b.event < length es = omega (arith, some, within) in
    let e : Event = get_or es b.event (Try 0) in
    recorded_is_inside f h b.thread b.event e (slice_get-get_or es b.event (Try 0) l)

-- ---- boxes with their last steps

-- so far as they are made
pub record AreDrawnTo (f : FittedTrace) (boxes : List PlacedBox) (n : ℕ) (drawn : List Drawn) : Type 0 where
  pub size : length drawn ≡ n
  pub each : (k : ℕ) (b : PlacedBox) (d : Drawn) → slice_get boxes k ≡ Some b → slice_get drawn k ≡ Some d → IsDrawn f b d

pub no_boxes_drawn_to : (f : FittedTrace) (boxes : List PlacedBox) → AreDrawnTo f boxes 0 []
no_boxes_drawn_to f boxes = record { size = refl; each = λ k b d at there. absurd (none-some d there) }

pub drawn_to_push : (f : FittedTrace) (boxes : List PlacedBox) (n : ℕ) (old new : List Drawn) (b : PlacedBox) (d : Drawn) → AreDrawnTo f boxes n old
    → slice_get boxes n ≡ Some b → IsDrawn f b d → new ≡ old ++ d ∷ [] → AreDrawnTo f boxes (n + 1) new
drawn_to_push f boxes n old new b d h at is made = subst (AreDrawnTo f boxes (n + 1)) (sym made) (record {
  size = length_push old d ∙ (let s = h.size in omega (arith, s));
  each = λ k c e there new_there. elim (slice_get-push_cases old d k e new_there) [
    | inl before ↦ h.each k c e there before
    | inr last ↦
        let here : slice_get boxes n ≡ Some c = ap (slice_get boxes) (sym (last.0 ∙ h.size)) ∙ there in
        subst (λ (x : Drawn). IsDrawn f c x) last.1 (subst (λ (x : PlacedBox). IsDrawn f x d) (same_Some b c (sym at ∙ here)) is)
  ];
})

pub drawn_if_drawn_to_all : (f : FittedTrace) (boxes : List PlacedBox) (n : ℕ) (drawn : List Drawn) → AreDrawnTo f boxes n drawn → n ≡ length boxes
    → AreDrawn f boxes drawn
drawn_if_drawn_to_all f boxes n drawn h all = record { size = h.size ∙ all; each = h.each }

-- they are boxes of the trace
pub drawn_are_trace_boxes : (f : FittedTrace) (boxes : List PlacedBox) (drawn : List Drawn) → AreBoxesOf f.recorded boxes → AreDrawn f boxes drawn → (k : ℕ)
    (d : Drawn) → slice_get drawn k ≡ Some d → IsBox f.recorded d.own.events
drawn_are_trace_boxes f boxes drawn are h k d there =
    let within = slice_get_within drawn k d there in
    let same = h.size in
    let b : PlacedBox = get_or boxes k d.own in
    let at : slice_get boxes k ≡ Some b = slice_get-get_or boxes k d.own (omega (arith, within, same)) in
    subst (λ (x : PlacedBox). IsBox f.recorded x.events) (sym (h.each k b d at there).box) (are k b at)
