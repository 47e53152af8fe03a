-- What an event needs behind a leave is drawn left of it.
use Rattle.std.proofs.Common.{◌≡◌, ℕ, suc, ◌+◌, ◌<◌, ◌≤◌, inl, inr, Option, Some, None, List, length, get_or, refl, sym, ap, ◌∙◌, subst, arith}
use Rattle.std.specs.List.{slice_get}
use Rattle.std.specs.Option.{option_map}
use Rattle.std.proofs.lemmas.Bool.{cases_lt}
use Rattle.std.proofs.lemmas.Option.{same_Some, slice_get-get_or, slice_get_within, slice_get-map}
use Rattle.ir_lemmas.proofs.CallerLemmas.{length_of_map}
use Rattle.ir_log.specs.declared.event.Event.{Event}
use Rattle.ir_log.specs.declared.event.Event.TheVariants.{Answer, Read, Write, Try}
use Rattle.ir_trace.specs.Recorded.{Recorded, recorded_thread}
use Rattle.ir_fit.specs.Fit.{FittedTrace, HasRun}
use Rattle.ir_past.specs.Past.{event_at}
use Rattle.ir_events.specs.Events.{event_entry}
use Rattle.ir_opened.specs.Positions.{IsInside, IsLeaveOf, EntryLeaves}
use Rattle.ir_opened.proofs.CallerLemmas.{recorded_is_inside, leave_is_past_event, earlier_entry_step_le}
use Rattle.ir_picture.specs.Needs.{Needs}
use Rattle.ir_picture.specs.Boxes.{IsInBox, HasBox}
use Rattle.ir_picture.specs.Places.{EndsNeeded}
use Rattle.ir_picture.specs.Placing.{events_of_all}
use Rattle.ir_picture.specs.declared.event_box.EventBox.{EventBox}
use Rattle.ir_picture.specs.declared.placed_box.Point.{Point}
use Rattle.ir_picture.specs.declared.placed_box.PlacedBox.{PlacedBox}
use Rattle.ir_run_picture.specs.Steps.{IsLastStep}
use Rattle.ir_run_picture.specs.Spans.{last_event, IsSpanOfBox}
use Rattle.ir_run_picture.specs.Brief.{IsRunBox}
use Rattle.ir_holds.specs.Held.{IsMark, MarkedBefore}
use Rattle.ir_run_picture.specs.Held.{AreHeld}
use Rattle.ir_run_picture.specs.Laws.{BehindIsLeft}
use Rattle.ir_holds.specs.declared.span.Span.{Span}

-- ---- steps of events

-- an event of the trace is one of the guest's thread
pub below_length_is_inside : (f : FittedTrace) → HasRun f → (t i : ℕ) → i < length (recorded_thread f.recorded t).events → IsInside f t i
below_length_is_inside f h t i l =
    let es : List Event = (recorded_thread f.recorded t).events in
    recorded_is_inside f h t i (get_or es i (Try 0)) (slice_get-get_or es i (Try 0) l)

-- the last step of an event is its leave, and no earlier than the step that logs it
leave_is_before_last_step : (f : FittedTrace) (t i k l : ℕ) (e : Option Event) → event_at f.recorded t i ≡ e → IsLastStep f t i e (Some k) → IsLeaveOf f t i l → l ≤ k
leave_is_before_last_step f t i k l None is h left = absurd h
leave_is_before_last_step f t i k l (Some (Answer kind value)) is h left = absurd (subst (λ z. EntryLeaves f t (event_entry f t i + 1) z l) is left.leaves)
leave_is_before_last_step f t i k l (Some (Read o v)) is h left = left.first k h.leaves
leave_is_before_last_step f t i k l (Some (Write o v readers)) is h left = left.first k h.leaves
leave_is_before_last_step f t i k l (Some (Try o)) is h left = absurd (subst (λ z. EntryLeaves f t (event_entry f t i + 1) z l) is left.leaves)

pub last_step_is_past_event : (f : FittedTrace) (t i k : ℕ) (e : Option Event) → IsLastStep f t i e (Some k) → event_entry f t i ≤ k
last_step_is_past_event f t i k None h = absurd h
last_step_is_past_event f t i k (Some (Answer kind value)) h = let same = same_Some k (event_entry f t i) h in omega (arith, same)
last_step_is_past_event f t i k (Some (Read o v)) h = let past = leave_is_past_event f t i k h.leaves in omega (arith, past)
last_step_is_past_event f t i k (Some (Write o v readers)) h = let past = leave_is_past_event f t i k h.leaves in omega (arith, past)
last_step_is_past_event f t i k (Some (Try o)) h = let same = same_Some k (event_entry f t i) h in omega (arith, same)

-- what an event of a box entered is left by the box's last step
pub leave_within_box_end : (f : FittedTrace) → HasRun f → (b : EventBox) (s : Span) → IsRunBox f b → IsSpanOfBox f b s → (j l : ℕ) → IsInBox b b.thread j
    → IsLeaveOf f b.thread j l → l ≤ s.last
leave_within_box_end f h b s box go j l has left =
    let below = has.below in
    let some = box.some in
    elim (cases_lt j (last_event b)) [
      | inl less ↦ brief less
      | inr past ↦
          let same : last_event b ≡ j = omega (arith, below, some, past) in
          leave_is_before_last_step f b.thread (last_event b) s.last l (event_at f.recorded b.thread (last_event b)) refl go.last
          (subst (λ z. IsLeaveOf f b.thread z l) (sym same) left)
    ]
  where
    last_is_inside : IsInside f b.thread (last_event b)
    last_is_inside = below_length_is_inside f h b.thread (last_event b) (let within = box.within in let some = box.some in omega (arith, within, some))

    brief : j < last_event b → l ≤ s.last
    brief less =
        let some = box.some in
        let from = has.from in
        let fold = box.folds j from (omega (arith, less, some)) in
        let inside = last_is_inside in
        let room = inside.event in
        let before = fold.one l left (omega (arith, less, room)) in
        let later = earlier_entry_step_le f h b.thread (last_event b) (suc j) inside (omega (arith, less)) in
        let end = last_step_is_past_event f b.thread (last_event b) s.last (event_at f.recorded b.thread (last_event b)) go.last in
        omega (arith, before, later, end)

-- ---- boxes

-- what is needed is an event of the trace
pub needed_event_exists : (r : Recorded) (t i u j : ℕ) → Needs r t i u j → j < length (recorded_thread r u).events
needed_event_exists r t i u j (inl maker) = slice_get_within (recorded_thread r u).events j (Write maker.object maker.version maker.readers) maker.made
needed_event_exists r t i u j (inr reader) = slice_get_within (recorded_thread r u).events j (Read reader.object reader.version) reader.read

-- a box whose events are at a place in the list is at that place
pub placed_box_of_events : (boxes : List PlacedBox) (n : ℕ) (b : EventBox) → slice_get (events_of_all boxes) n ≡ Some b
    → (p : PlacedBox) × (slice_get boxes n ≡ Some p) × (p.events ≡ b)
placed_box_of_events boxes n b at =
    let nowhere : Point = record { x = 0; u = 0 } in
    let none : PlacedBox = record { events = b; start = nowhere; end = nowhere; came = 0; row = 0 } in
    let long = length_of_map (λ (x : PlacedBox). x.events) boxes in
    let within = slice_get_within (events_of_all boxes) n b at in
    let there : slice_get boxes n ≡ Some (get_or boxes n none) = slice_get-get_or boxes n none (omega (arith, long, within)) in (
      get_or boxes n none,
      there,
      same_Some (get_or boxes n none).events b
          (sym (slice_get-map (λ (x : PlacedBox). x.events) boxes n ∙ ap (λ (x : Option PlacedBox). option_map (λ (y : PlacedBox). y.events) x) there) ∙ at),
    )

-- the steps of a box are there
pub box_has_span_of_run : (f : FittedTrace) (boxes : List PlacedBox) (spans : List Span) (ends : List Point) → AreHeld f boxes spans ends → (n : ℕ)
    (b : PlacedBox) → slice_get boxes n ≡ Some b → (s : Span) × (slice_get spans n ≡ Some s) × IsSpanOfBox f b.events s
box_has_span_of_run f boxes spans ends h n b at =
    let none : Span = record { thread = 0; first = 0; last = 0 } in
    let size = h.go.size in
    let within = slice_get_within boxes n b at in
    let there : slice_get spans n ≡ Some (get_or spans n none) = slice_get-get_or spans n none (omega (arith, size, within)) in (
      get_or spans n none,
      there,
      h.go.each n b (get_or spans n none) at there,
    )

-- it is a box of the run
pub held_box_is_of_run : (f : FittedTrace) (boxes : List PlacedBox) (spans : List Span) (ends : List Point) → AreHeld f boxes spans ends → (n : ℕ)
    (b : PlacedBox) → slice_get boxes n ≡ Some b → IsRunBox f b.events
held_box_is_of_run f boxes spans ends h n b at = h.all.each n b.events
    (slice_get-map (λ (x : PlacedBox). x.events) boxes n ∙ ap (λ (x : Option PlacedBox). option_map (λ (y : PlacedBox). y.events) x) at)

-- ---- the law

-- the box of what is needed ends left of the box of what needs it, and the box of an event before the leave starts left of that end
pub behind_starts_left : BehindIsLeft
behind_starts_left f run boxes spans ends h t i u k x z behind early late =
    let l = behind.leave in
    let j = behind.needs.needed in
    let own : HasBox (events_of_all boxes) u j = h.all.all u j (needed_event_exists f.recorded t i u j behind.needs.needs) in
    let found = placed_box_of_events boxes own.number own.box own.there in
    let a : PlacedBox = found.0 in
    let span_a = box_has_span_of_run f boxes spans ends h own.number a found.1 in
    let span_b = box_has_span_of_run f boxes spans ends h late.number late.box late.there in
    let span_c = box_has_span_of_run f boxes spans ends h early.number early.box early.there in
    let has : IsInBox a.events u j = subst (λ (y : EventBox). IsInBox y u j) (sym found.2) own.has in
    let has_own : IsInBox a.events a.events.thread j = subst (λ y. IsInBox a.events y j) (sym has.thread) has in
    let left_own : IsLeaveOf f a.events.thread j l = subst (λ y. IsLeaveOf f y j l) (sym has.thread) behind.needs.left in
    let by = leave_within_box_end f run a.events span_a.0 (held_box_is_of_run f boxes spans ends h own.number a found.1) span_a.2 j l has_own left_own in
    let before = behind.before in
    let first : event_entry f u early.box.events.event ≤ event_entry f u k = earlier_entry_step_le f run u k early.box.events.event behind.inside early.has.from in
    let first_is : span_c.0.first ≡ event_entry f u early.box.events.event =
    span_c.2.first ∙ ap (λ y. event_entry f y early.box.events.event) early.has.thread in
    let mark : IsMark boxes spans span_a.0.thread span_c.0.first early.box.start = record {
      number = early.number;
      box = early.box;
      own = span_c.0;
      there = early.there;
      goes = span_c.1;
      thread = span_c.2.thread ∙ early.has.thread ∙ sym (span_a.2.thread ∙ has.thread);
      is = inl (refl, refl);
    } in
    let marked : MarkedBefore boxes spans span_a.0.thread span_a.0.last early.box.start.x = record {
      step = span_c.0.first;
      place = early.box.start;
      mark = mark;
      before = omega (arith, by, before, first, first_is);
      x = refl;
    } in
    let es : List Event = (recorded_thread f.recorded a.events.thread).events in
    let of_run = held_box_is_of_run f boxes spans ends h own.number a found.1 in
    let some = of_run.some in
    let within = of_run.within in
    let e : Event = get_or es a.events.event (Try 0) in
    let e_at : event_at f.recorded a.events.thread a.events.event ≡ Some e = slice_get-get_or es a.events.event (Try 0) (omega (arith, some, within)) in
    let up = ((h.places.placed own.number a span_a.0 found.1 span_a.1).end_x e e_at).above early.box.start.x marked in
    let needed : EndsNeeded f.recorded boxes (λ p. p.x) late.box a.end.x = record {
      at = own.number;
      box = a;
      there = found.1;
      needs = record {
        event = i;
        needed = j;
        own = subst (λ y. IsInBox late.box.events y i) (sym late.has.thread) late.has;
        other = has_own;
        needs = subst (λ y. Needs f.recorded y i a.events.thread j) (sym late.has.thread) (subst (λ y. Needs f.recorded t i y j) (sym has.thread) behind.needs.needs);
      };
      ends = refl;
    } in
    let right = (h.places.placed late.number late.box span_b.0 late.there span_b.1).start_x.above a.end.x (inr needed) in
    let start_early = early.start in
    let start_late = late.start in
    omega (arith, up, right, start_early, start_late)
