-- The steps of the boxes of a run.
use Rattle.std.proofs.Common.{◌≡◌, ℕ, ◌+◌, ◌-◌, ◌<◌, Option, Some, None, List, length, get_or, refl, arith}
use Rattle.std.proofs.lemmas.Option.{none-some, slice_get-get_or}
use Rattle.ir_log.specs.declared.event.Event.{Event}
use Rattle.ir_log.specs.declared.event.Event.TheVariants.{Answer, Read, Write, Try}
use Rattle.ir_trace.specs.Recorded.{recorded_thread}
use Rattle.ir_fit.specs.Fit.{FittedTrace, HasRun}
use Rattle.ir_past.specs.Past.{event_at}
use Rattle.ir_opened.specs.Positions.{IsInside}
use Rattle.ir_opened.proofs.CallerLemmas.{recorded_is_inside, entering_event_has_leave}
use Rattle.ir_picture.specs.Boxes.{IsBox}
use Rattle.ir_picture.specs.declared.event_box.EventBox.{EventBox}
use Rattle.ir_run_picture.specs.Steps.{IsLastStep}
use Rattle.ir_run_picture.specs.Spans.{last_event}

-- the last event of a box is one of the guest's thread
pub box_last_event_inside : (f : FittedTrace) → HasRun f → (b : EventBox) → IsBox f.recorded b → IsInside f b.thread (last_event b)
box_last_event_inside f h b is =
    let es : List Event = (recorded_thread f.recorded b.thread).events in
    let some = is.some in
    let within = is.within in
    let l : b.event + (b.count - 1) < length es = omega (arith, some, within) in
    let e : Event = get_or es (last_event b) (Try 0) in
    recorded_is_inside f h b.thread (last_event b) e (slice_get-get_or es (last_event b) (Try 0) l)

-- an event of a run has a last step: what is entered is left
pub event_has_last_step : (f : FittedTrace) → HasRun f → (t i : ℕ) (e : Option Event) → event_at f.recorded t i ≡ e → IsLastStep f t i e None → ⊥
event_has_last_step f run t i None is h = h
event_has_last_step f run t i (Some (Answer kind value)) is h = none-some _ h
event_has_last_step f run t i (Some (Read o v)) is h =
    let left = entering_event_has_leave f run t i o (Read o v) is refl in h left.0 left.1.leaves
event_has_last_step f run t i (Some (Write o v readers)) is h =
    let left = entering_event_has_leave f run t i o (Write o v readers) is refl in h left.0 left.1.leaves
event_has_last_step f run t i (Some (Try o)) is h = none-some _ h
