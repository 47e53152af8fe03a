-- What is left of an x is a consistent cut.
use Rattle.std.proofs.Common.{◌≡◌, ℕ, ◌<◌, ◌≤◌, inl, inr, Some, List, length, refl, sym, ap, ◌∙◌, subst, arith}
use Rattle.std.specs.List.{slice_get}
use Rattle.std.proofs.lemmas.Bool.{cases_lt}
use Rattle.std.proofs.lemmas.List.{get_or_past}
use Rattle.std.proofs.lemmas.Option.{slice_get_within}
use Rattle.ir_runs.specs.Machine.{Label, Quiet, Answer, EnteredAt, FailedTry, LeftAt}
use Rattle.ir_runs.specs.declared.access.Access.{Access}
use Rattle.ir_runs.specs.declared.access.Access.TheVariants.{Reading, Writing}
use Rattle.ir_runs.specs.Run.{Emits, IsNeededBy, Cut, IsCut, Consistent}
use Rattle.ir_log.specs.declared.event.Event.TheVariants.{Read, Write}
use Rattle.ir_trace.specs.Recorded.{Recorded, RecordedThread, recorded_thread}
use Rattle.ir_trace.specs.Absent.{absent}
use Rattle.ir_fit.specs.Fit.{FittedTrace, HasRun}
use Rattle.ir_cut.specs.Positions.{EachRun, cut_of, last_of, threads_of, machine_of, start_of}
use Rattle.ir_events.specs.Events.{event_entry}
use Rattle.ir_opened.specs.Positions.{IsLeaveOf}
use Rattle.ir_opened.proofs.CallerLemmas.{leave_is_past_event, earlier_entry_step_le}
use Rattle.ir_picture.specs.Needs.{Needs}
use Rattle.ir_picture.specs.Boxes.{IsInBox, HasBox}
use Rattle.ir_picture.specs.Places.{EndsNeeded}
use Rattle.ir_picture.specs.Placing.{events_of_all}
use Rattle.ir_picture.specs.declared.event_box.EventBox.{EventBox}
use Rattle.ir_picture.specs.declared.placed_box.Point.{Point}
use Rattle.ir_picture.specs.declared.placed_box.PlacedBox.{PlacedBox}
use Rattle.ir_holds.specs.declared.span.Span.{Span}
use Rattle.ir_run_picture.specs.Held.{AreHeld}
use Rattle.ir_run_picture.specs.Laws.{IsMoment, LeftIsConsistent}
use Rattle.ir_run_picture.specs.Spans.{IsSpanOfBox}
use Rattle.ir_run_picture.proofs.Behind.{below_length_is_inside, leave_within_box_end, placed_box_of_events, box_has_span_of_run, held_box_is_of_run}
use Rattle.ir_run_picture.proofs.Entered.{IsEntryFor, entering_step_has_event, leaving_step_has_entry}

-- ---- what needs and what is needed

-- a step that needs another step is an entry, and the other a leave
pub record AreNeed (emitted needed : Label) : Type 0 where
  pub object : ℕ
  pub access : Access
  pub version : ℕ
  pub readers : ℕ
  pub enters : emitted ≡ EnteredAt object access version readers
  pub kind : Access
  pub left : ℕ
  pub leaves : needed ≡ LeftAt object kind left
  pub needs : IsNeededBy (LeftAt object kind left) (EnteredAt object access version readers)

needed_labels_are_need : (b a : Label) → IsNeededBy b a → AreNeed a b
needed_labels_are_need (LeftAt o Writing w) (EnteredAt p c v l) h = record {
  object = p;
  access = c;
  version = v;
  readers = l;
  enters = refl;
  kind = Writing;
  left = w;
  leaves = ap (λ z. LeftAt z Writing w) h.0;
  needs = (refl, h.1);
}
needed_labels_are_need (LeftAt o Writing w) Quiet h = absurd h
needed_labels_are_need (LeftAt o Writing w) (Answer k x) h = absurd h
needed_labels_are_need (LeftAt o Writing w) (FailedTry p) h = absurd h
needed_labels_are_need (LeftAt o Writing w) (LeftAt p c v) h = absurd h
needed_labels_are_need (LeftAt o Reading w) (EnteredAt p Writing v l) h = record {
  object = p;
  access = Writing;
  version = v;
  readers = l;
  enters = refl;
  kind = Reading;
  left = w;
  leaves = ap (λ z. LeftAt z Reading w) h.0;
  needs = (refl, h.1);
}
needed_labels_are_need (LeftAt o Reading w) (EnteredAt p Reading v l) h = absurd h
needed_labels_are_need (LeftAt o Reading w) Quiet h = absurd h
needed_labels_are_need (LeftAt o Reading w) (Answer k x) h = absurd h
needed_labels_are_need (LeftAt o Reading w) (FailedTry p) h = absurd h
needed_labels_are_need (LeftAt o Reading w) (LeftAt p c v) h = absurd h
needed_labels_are_need Quiet a h = absurd h
needed_labels_are_need (Answer k x) a h = absurd h
needed_labels_are_need (EnteredAt p c v l) a h = absurd h
needed_labels_are_need (FailedTry p) a h = absurd h

-- an event needs the event that entered what has to be left
needing_labels_need_events : (r : Recorded) (t i u j o : ℕ) (a : Access) (v l : ℕ) (c : Access) (w n : ℕ) → IsNeededBy (LeftAt o c w) (EnteredAt o a v l) → IsEntryFor r t i o a v l
    → IsEntryFor r u j o c w n → Needs r t i u j
needing_labels_need_events r t i u j o Reading v l Writing w n needs own other = inl (record {
  object = o;
  version = w;
  readers = n;
  entry = inl (own ∙ ap (λ z. Some (Read o z)) needs.1);
  made = other;
})
needing_labels_need_events r t i u j o Writing v l Writing w n needs own other = inl (record {
  object = o;
  version = w;
  readers = n;
  entry = inr (l, own ∙ ap (λ z. Some (Write o z l)) needs.1);
  made = other;
})
needing_labels_need_events r t i u j o Reading v l Reading w n needs own other = absurd needs
needing_labels_need_events r t i u j o Writing v l Reading w n needs own other = inr (record {
  object = o;
  version = v;
  readers = l;
  write = own;
  read = other ∙ ap (λ z. Some (Read o z)) (sym needs.1);
})

-- the event of a step that needs a leave
entry_is_recorded : (r : Recorded) (t i o : ℕ) (a : Access) (v l : ℕ) → IsEntryFor r t i o a v l → i < length (recorded_thread r t).events
entry_is_recorded r t i o Reading v l there = slice_get_within (recorded_thread r t).events i (Read o v) there
entry_is_recorded r t i o Writing v l there = slice_get_within (recorded_thread r t).events i (Write o v l) there

-- ---- the cut

-- a cut goes between what is left of x and the rest
pub record IsLeftCut (f : FittedTrace) (boxes : List PlacedBox) (spans : List Span) (x : ℕ) (c : Cut) : Type 0 where
  pub within : (t : ℕ) → c t ≤ last_of f t
  pub left : (t k z : ℕ) → IsMoment boxes spans t k z → z < x → k < c t
  pub rest : (t k z : ℕ) → IsMoment boxes spans t k z → x ≤ z → c t ≤ k

-- a box with its steps, of an event
record HasPlace (f : FittedTrace) (boxes : List PlacedBox) (spans : List Span) (t i : ℕ) : Type 0 where
  number : ℕ
  box : PlacedBox
  own : Span
  there : slice_get boxes number ≡ Some box
  goes : slice_get spans number ≡ Some own
  has : IsInBox box.events t i
  span : IsSpanOfBox f box.events own
  thread : own.thread ≡ t

event_has_box_and_place : (f : FittedTrace) (boxes : List PlacedBox) (spans : List Span) (ends : List Point) → AreHeld f boxes spans ends → (t i : ℕ)
    → i < length (recorded_thread f.recorded t).events → HasPlace f boxes spans t i
event_has_box_and_place f boxes spans ends h t i within =
    let own : HasBox (events_of_all boxes) t i = h.all.all t i within in
    let found = placed_box_of_events boxes own.number own.box own.there in
    let has : IsInBox found.0.events t i = subst (λ (y : EventBox). IsInBox y t i) (sym found.2) own.has in
    let go = box_has_span_of_run f boxes spans ends h own.number found.0 found.1 in
    record {
      number = own.number;
      box = found.0;
      own = go.0;
      there = found.1;
      goes = go.1;
      has = has;
      span = go.2;
      thread = go.2.thread ∙ has.thread;
    }

-- the box that an event needs ends left of the box of the event
needed_box_ends_left : (f : FittedTrace) (boxes : List PlacedBox) (spans : List Span) (ends : List Point) → AreHeld f boxes spans ends → (t i u j : ℕ)
    → Needs f.recorded t i u j → (b : HasPlace f boxes spans t i) (a : HasPlace f boxes spans u j) → a.box.end.x < b.box.start.x
needed_box_ends_left f boxes spans ends h t i u j needs b a =
    let needed : EndsNeeded f.recorded boxes (λ p. p.x) b.box a.box.end.x = record {
      at = a.number;
      box = a.box;
      there = a.there;
      needs = record {
        event = i;
        needed = j;
        own = subst (λ y. IsInBox b.box.events y i) (sym b.has.thread) b.has;
        other = subst (λ y. IsInBox a.box.events y j) (sym a.has.thread) a.has;
        needs = subst (λ y. Needs f.recorded y i a.box.events.thread j) (sym b.has.thread) (subst (λ y. Needs f.recorded t i y j) (sym a.has.thread) needs);
      };
      ends = refl;
    } in
    (h.places.placed b.number b.box b.own b.there b.goes).start_x.above a.box.end.x (inr needed)

-- the box of a step of the cut starts left of x
step_in_cut_starts_left : (f : FittedTrace) → HasRun f → (boxes : List PlacedBox) (spans : List Span) (ends : List Point) → AreHeld f boxes spans ends
    → (x : ℕ) (c : Cut) → IsLeftCut f boxes spans x c → (t i : ℕ) → i < length (recorded_thread f.recorded t).events → (b : HasPlace f boxes spans t i)
    → event_entry f t i < c t → b.box.start.x < x
step_in_cut_starts_left f run boxes spans ends h x c cut t i within b inside = elim (cases_lt b.box.start.x x) [
  | inl less ↦ less
  | inr not ↦
      let moment : IsMoment boxes spans t b.own.first b.box.start.x = record {
        number = b.number;
        box = b.box;
        own = b.own;
        there = b.there;
        goes = b.goes;
        thread = b.thread;
        is = inl (refl, refl);
      } in
      let out = cut.rest t b.own.first b.box.start.x moment not in
      let first : b.own.first ≡ event_entry f t b.box.events.event = b.span.first ∙ ap (λ y. event_entry f y b.box.events.event) b.has.thread in
      let early = earlier_entry_step_le f run t i b.box.events.event (below_length_is_inside f run t i within) b.has.from in
      absurd (omega (arith, out, first, early, inside))
]

-- a step that leaves what a box entered is in the cut, if the box ends left of x
leave_is_in_cut : (f : FittedTrace) → HasRun f → (boxes : List PlacedBox) (spans : List Span) (ends : List Point) → AreHeld f boxes spans ends
    → (x : ℕ) (c : Cut) → IsLeftCut f boxes spans x c → (u j k : ℕ) → j < length (recorded_thread f.recorded u).events → (a : HasPlace f boxes spans u j)
    → IsLeaveOf f u j k → a.box.end.x < x → k < c u
leave_is_in_cut f run boxes spans ends h x c cut u j k within a leave left =
    let own : IsInBox a.box.events a.box.events.thread j = subst (λ y. IsInBox a.box.events y j) (sym a.has.thread) a.has in
    let by = leave_within_box_end f run a.box.events a.own (held_box_is_of_run f boxes spans ends h a.number a.box a.there) a.span j k own
    (subst (λ y. IsLeaveOf f y j k) (sym a.has.thread) leave) in
    let first : a.own.first ≡ event_entry f u a.box.events.event = a.span.first ∙ ap (λ y. event_entry f y a.box.events.event) a.has.thread in
    let early = earlier_entry_step_le f run u j a.box.events.event (below_length_is_inside f run u j within) a.has.from in
    let past = leave_is_past_event f u j k leave.leaves in
    let moment : IsMoment boxes spans u a.own.last a.box.end.x = record {
      number = a.number;
      box = a.box;
      own = a.own;
      there = a.there;
      goes = a.goes;
      thread = a.thread;
      is = inr (omega (arith, by, first, early, past), refl, refl);
    } in
    let inside = cut.left u a.own.last a.box.end.x moment left in
    omega (arith, by, inside)

-- a thread that there isn't has no last position
pub missing_has_last_zero : (f : FittedTrace) → HasRun f → (t : ℕ) → threads_of f ≤ t → last_of f t ≡ 0
missing_has_last_zero f run t past =
    let threads = run.whole.0.threads in
    ap (λ (z : RecordedThread). z.steps) (get_or_past f.recorded.threads t absent (omega (arith, threads, past)))

-- no position is past the thread's last
pub within_last_is_cut : (f : FittedTrace) (c : Cut) → ((t : ℕ) → c t ≤ last_of f t) → EachRun f (λ run. IsCut (machine_of f) (start_of f) run c)
within_last_is_cut f c within run of t = elim (cases_lt t (threads_of f)) [
  | inl there ↦ (let steps = of.1.steps t there in let low = within t in omega (arith, steps, low))
  | inr past ↦ (let none = missing_has_last_zero f (record { run = run; whole = of }) t past in let low = within t in omega (arith, none, low))
]

pub left_cut_is_consistent : (f : FittedTrace) → HasRun f → (boxes : List PlacedBox) (spans : List Span) (ends : List Point) → AreHeld f boxes spans ends
    → (x : ℕ) (c : Cut) → IsLeftCut f boxes spans x c
    → EachRun f (λ run. IsCut (machine_of f) (start_of f) run c × Consistent (machine_of f) (start_of f) run c)
left_cut_is_consistent f some boxes spans ends h x c cut run of = (within_last_is_cut f c cut.within run of, consistent)
  where
    own : HasRun f
    own = record { run = run; whole = of }

    consistent : Consistent (machine_of f) (start_of f) run c
    consistent t k u j a b emits_a emits_b needs inside =
        let need = needed_labels_are_need b a needs in
        let event = entering_step_has_event f own t k need.object need.access need.version need.readers
        (subst (λ z. Emits (machine_of f) (start_of f) run t k z) need.enters emits_a) in
        let entry = leaving_step_has_entry f own u j need.object need.kind need.left
        (subst (λ z. Emits (machine_of f) (start_of f) run u j z) need.leaves emits_b) in
        let within_b = entry_is_recorded f.recorded t event.event need.object need.access need.version need.readers event.entry in
        let within_a = entry_is_recorded f.recorded u entry.event need.object need.kind need.left entry.readers entry.entry in
        let box_b = event_has_box_and_place f boxes spans ends h t event.event within_b in
        let box_a = event_has_box_and_place f boxes spans ends h u entry.event within_a in
        let left = needed_box_ends_left f boxes spans ends h t event.event u entry.event
        (needing_labels_need_events f.recorded t event.event u entry.event need.object need.access need.version need.readers need.kind need.left entry.readers need.needs event.entry entry.entry)
        box_b box_a in
        let step = event.step in
        let start = step_in_cut_starts_left f own boxes spans ends h x c cut t event.event within_b box_b (omega (arith, step, inside)) in
        leave_is_in_cut f own boxes spans ends h x c cut u entry.event j within_a box_a entry.leave (omega (arith, left, start))

pub left_of_x_is_consistent : LeftIsConsistent
left_of_x_is_consistent f run boxes spans ends h x cut is =
    left_cut_is_consistent f run boxes spans ends h x (cut_of cut) (record { within = is.within; left = is.left; rest = is.rest })
