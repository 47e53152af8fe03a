-- The steps at which the boxes of a run start and end: the moments of a thread go to the right.
use Rattle.std.proofs.Common.{◌≡◌, ℕ, ◌+◌, ◌<◌, ◌≤◌, inl, inr, Option, Some, None, List, length, get_or, refl, sym, ap, ◌∙◌, subst, arith}
use Rattle.std.specs.List.{slice_get}
use Rattle.std.proofs.lemmas.Bool.{cases_lt}
use Rattle.std.proofs.lemmas.Option.{same_Some, slice_get-get_or}
use Rattle.ir_runs.specs.Machine.{Machine, Label, LeftAt}
use Rattle.ir_runs.specs.Run.{State, Step, trail, Emits}
use Rattle.ir_runs.specs.declared.access.Access.{Access}
use Rattle.ir_runs.specs.declared.access.Access.TheVariants.{Reading, Writing}
use Rattle.ir_log.specs.Logging.{label_of}
use Rattle.ir_log.specs.declared.event.Event.{Event}
use Rattle.ir_log.specs.declared.event.Event.TheVariants.{Answer, Read, Write, Try}
use Rattle.ir_trace.specs.Recorded.{recorded_thread}
use Rattle.ir_fit.specs.Fit.{FittedTrace, HasRun}
use Rattle.ir_fit.proofs.CallerLemmas.{at_is_get_or, event_positions_rise, event_position_below}
use Rattle.ir_past.specs.Past.{event_at}
use Rattle.ir_events.specs.Events.{event_entry}
use Rattle.ir_opened.specs.Positions.{IsInside, EntryLeaves}
use Rattle.ir_opened.proofs.CallerLemmas.{leave_is_within_thread, event_step_emits_label}
use Rattle.ir_picture.specs.Boxes.{IsInBox}
use Rattle.ir_picture.specs.Placing.{events_of_all}
use Rattle.ir_picture.proofs.CallerLemmas.{slice_get_of_map, event_length_le_one}
use Rattle.ir_picture.specs.declared.placed_box.Point.{Point}
use Rattle.ir_picture.specs.declared.placed_box.PlacedBox.{PlacedBox}
use Rattle.ir_holds.specs.Held.{IsMark, MarkedBefore}
use Rattle.ir_holds.specs.declared.span.Span.{Span}
use Rattle.ir_cut.specs.Positions.{last_of, threads_of, machine_of, start_of}
use Rattle.ir_run_picture.specs.Brief.{IsRunBox}
use Rattle.ir_run_picture.specs.Held.{AreHeld}
use Rattle.ir_run_picture.specs.Laws.{IsMoment}
use Rattle.ir_run_picture.specs.Spans.{last_event, IsSpanOfBox}
use Rattle.ir_run_picture.specs.Steps.{IsLastStep}
use Rattle.ir_run_picture.proofs.Behind.{below_length_is_inside, held_box_is_of_run}

-- ---- steps

-- a step emits a single label
step_label_unique : {T : Type 0} (m : Machine T) (s : State T) (run : List Step) (t k : ℕ) (a b : Label) → Emits m s run t k a → Emits m s run t k b → a ≡ b
step_label_unique {T} m s run t k a b x y =
    let first = (at_is_get_or (trail m s run t) k (x.0, a) x.1).1 (x.0, a) in
    let second = (at_is_get_or (trail m s run t) k (y.0, b) y.1).1 (x.0, a) in
    let same : (x.0, a) ≡ (y.0, b) = sym first ∙ second in
    ap (λ (z : T × Label). z.1) same

event_label_is_no_leave : (e : Event) (o : ℕ) (a : Access) (v : ℕ) → label_of e ≡ LeftAt o a v → ⊥
event_label_is_no_leave (Answer kind value) o a v x = absurd (cc x)
event_label_is_no_leave (Read p w) o a v x = absurd (cc x)
event_label_is_no_leave (Write p w n) o a v x = absurd (cc x)
event_label_is_no_leave (Try p) o a v x = absurd (cc x)

-- an event is where its step is
event_of_step_unique : (f : FittedTrace) → HasRun f → (t i j : ℕ) → IsInside f t i → IsInside f t j → event_entry f t i ≡ event_entry f t j → i ≡ j
event_of_step_unique f h t i j at_i at_j same = elim (cases_lt i j) [
  | inl less ↦ absurd (let up = event_positions_rise f h t at_i.thread i j less at_j.event in omega (arith, up, same))
  | inr not ↦ elim (cases_lt j i) [
    | inl more ↦ absurd (let up = event_positions_rise f h t at_i.thread j i more at_i.event in omega (arith, up, same))
    | inr equal ↦ omega (arith, not, equal)
  ]
]

-- the step that logs an event leaves nothing
event_step_is_no_leave : (f : FittedTrace) → HasRun f → (t i j k : ℕ) → IsInside f t i → i < length (recorded_thread f.recorded t).events → event_entry f t i ≡ k
    → (e : Option Event) → EntryLeaves f t (event_entry f t j + 1) e k → ⊥
event_step_is_no_leave f h t i j k inside within same None x = x
event_step_is_no_leave f h t i j k inside within same (Some (Answer kind value)) x = x
event_step_is_no_leave f h t i j k inside within same (Some (Read o v)) x =
    let e : Event = get_or (recorded_thread f.recorded t).events i (Try 0) in
    let own = event_step_emits_label f h t i e (slice_get-get_or (recorded_thread f.recorded t).events i (Try 0) within) in
    event_label_is_no_leave e o Reading v (step_label_unique (machine_of f) (start_of f) h.run t k (label_of e) (LeftAt o Reading v)
    (subst (λ z. Emits (machine_of f) (start_of f) h.run t z (label_of e)) same own) (x.1 h.run h.whole))
event_step_is_no_leave f h t i j k inside within same (Some (Write o v readers)) x =
    let e : Event = get_or (recorded_thread f.recorded t).events i (Try 0) in
    let own = event_step_emits_label f h t i e (slice_get-get_or (recorded_thread f.recorded t).events i (Try 0) within) in
    event_label_is_no_leave e o Writing v (step_label_unique (machine_of f) (start_of f) h.run t k (label_of e) (LeftAt o Writing v)
    (subst (λ z. Emits (machine_of f) (start_of f) h.run t z (label_of e)) same own) (x.1 h.run h.whole))
event_step_is_no_leave f h t i j k inside within same (Some (Try o)) x = x

-- the last step of an event is a step of its thread
last_step_in_thread : (f : FittedTrace) → HasRun f → (t i k : ℕ) → IsInside f t i → (e : Option Event) → event_at f.recorded t i ≡ e
    → IsLastStep f t i e (Some k) → k < last_of f t
last_step_in_thread f h t i k inside None is last = absurd last
last_step_in_thread f h t i k inside (Some (Answer kind value)) is last =
    let same = same_Some k (event_entry f t i) last in let low = event_position_below f h t inside.thread i inside.event in omega (arith, same, low)
last_step_in_thread f h t i k inside (Some (Read o v)) is last = leave_is_within_thread f h t i k inside.thread last.leaves
last_step_in_thread f h t i k inside (Some (Write o v readers)) is last = leave_is_within_thread f h t i k inside.thread last.leaves
last_step_in_thread f h t i k inside (Some (Try o)) is last =
    let same = same_Some k (event_entry f t i) last in let low = event_position_below f h t inside.thread i inside.event in omega (arith, same, low)

-- ---- boxes

-- the box of a moment, of its thread
pub record IsBoxOf (f : FittedTrace) (boxes : List PlacedBox) (spans : List Span) (t k x : ℕ) (m : IsMoment boxes spans t k x) : Type 0 where
  pub thread : m.box.events.thread ≡ t
  pub run : IsRunBox f m.box.events
  pub span : IsSpanOfBox f m.box.events m.own
  pub first : IsInside f t m.box.events.event
  pub last : IsInside f t (last_event m.box.events)
  pub has_first : IsInBox m.box.events t m.box.events.event
  pub has_last : IsInBox m.box.events t (last_event m.box.events)
  pub begins : m.own.first ≡ event_entry f t m.box.events.event
  pub ends : IsLastStep f t (last_event m.box.events) (event_at f.recorded t (last_event m.box.events)) (Some m.own.last)

pub moment_has_box : (f : FittedTrace) → HasRun f → (boxes : List PlacedBox) (spans : List Span) (ends : List Point) → AreHeld f boxes spans ends
    → (t k x : ℕ) (m : IsMoment boxes spans t k x) → IsBoxOf f boxes spans t k x m
moment_has_box f run boxes spans ends h t k x m =
    let of = held_box_is_of_run f boxes spans ends h m.number m.box m.there in
    let go = h.go.each m.number m.box m.own m.there m.goes in
    let thread : m.box.events.thread ≡ t = sym go.thread ∙ m.thread in
    let some = of.some in
    let within : m.box.events.event + m.box.events.count ≤ length (recorded_thread f.recorded t).events =
    subst (λ z. m.box.events.event + m.box.events.count ≤ length (recorded_thread f.recorded z).events) thread of.within in
    record {
      thread = thread;
      run = of;
      span = go;
      first = below_length_is_inside f run t m.box.events.event (omega (arith, within, some));
      last = below_length_is_inside f run t (last_event m.box.events) (omega (arith, within, some));
      has_first = record { thread = thread; from = omega arith; below = omega (arith, some) };
      has_last = record { thread = thread; from = omega arith; below = omega (arith, some) };
      begins = go.first ∙ ap (λ z. event_entry f z m.box.events.event) thread;
      ends = subst (λ z. IsLastStep f z (last_event m.box.events) (event_at f.recorded z (last_event m.box.events)) (Some m.own.last)) thread go.last;
    }

-- moments whose boxes have the same event have the same box
event_box_unique : (f : FittedTrace) → HasRun f → (boxes : List PlacedBox) (spans : List Span) (ends : List Point) → AreHeld f boxes spans ends
    → (t k x j y i : ℕ) (m : IsMoment boxes spans t k x) (n : IsMoment boxes spans t j y) → IsInBox m.box.events t i → IsInBox n.box.events t i
    → (m.box ≡ n.box) × (m.own ≡ n.own)
event_box_unique f run boxes spans ends h t k x j y i m n has_m has_n =
    let events : (b : ℕ) (z : PlacedBox) → slice_get boxes b ≡ Some z → slice_get (events_of_all boxes) b ≡ Some z.events = λ b z at. slice_get_of_map (λ (w : PlacedBox). w.events) boxes b z at in
    let same : m.number ≡ n.number = h.all.one m.number n.number t i m.box.events n.box.events (events m.number m.box m.there) (events n.number n.box n.there) has_m has_n in (
      same_Some m.box n.box (sym m.there ∙ ap (slice_get boxes) same ∙ n.there),
      same_Some m.own n.own (sym m.goes ∙ ap (slice_get spans) same ∙ n.goes),
    )

-- a moment is a mark
moment_has_mark : (boxes : List PlacedBox) (spans : List Span) (t k x : ℕ) → IsMoment boxes spans t k x → (p : Point) × IsMark boxes spans t k p × (p.x ≡ x)
moment_has_mark boxes spans t k x m = elim m.is [
  | inl start ↦ (
    m.box.start,
    record { number = m.number; box = m.box; own = m.own; there = m.there; goes = m.goes; thread = m.thread; is = inl (start.0, refl) },
    sym start.1,
  )
  | inr end ↦ (
    m.box.end,
    record { number = m.number; box = m.box; own = m.own; there = m.there; goes = m.goes; thread = m.thread; is = inr (end.1, refl) },
    sym end.2,
  )
]

moment_is_marked_before : (boxes : List PlacedBox) (spans : List Span) (t k x u j : ℕ) → IsMoment boxes spans t k x → u ≡ t → k < j → MarkedBefore boxes spans u j x
moment_is_marked_before boxes spans t k x u j m thread less =
    let mark = moment_has_mark boxes spans t k x m in
    record {
      step = k;
      place = mark.0;
      mark = subst (λ z. IsMark boxes spans z k mark.0) (sym thread) mark.1;
      before = less;
      x = mark.2;
    }

-- the first event of a moment's box is there
box_first_event_exists : (f : FittedTrace) (boxes : List PlacedBox) (spans : List Span) (ends : List Point) → AreHeld f boxes spans ends
    → (t k x : ℕ) (m : IsMoment boxes spans t k x) → (e : Event) × (event_at f.recorded m.box.events.thread m.box.events.event ≡ Some e)
box_first_event_exists f boxes spans ends h t k x m =
    let of = held_box_is_of_run f boxes spans ends h m.number m.box m.there in
    let some = of.some in
    let within = of.within in
    let es : List Event = (recorded_thread f.recorded m.box.events.thread).events in
    (get_or es m.box.events.event (Try 0), slice_get-get_or es m.box.events.event (Try 0) (omega (arith, some, within)))

-- ---- from left to right

-- of two moments of a thread the later is further right
pub later_moment_is_right : (f : FittedTrace) (boxes : List PlacedBox) (spans : List Span) (ends : List Point) → AreHeld f boxes spans ends
    → (t k x j y : ℕ) → IsMoment boxes spans t k x → IsMoment boxes spans t j y → k < j → x < y
later_moment_is_right f boxes spans ends h t k x j y m n less = elim n.is [
  | inl start ↦
      let at = start.0 in
      let place = start.1 in
      let right = (h.places.placed n.number n.box n.own n.there n.goes).start_x.above x
      (inl (moment_is_marked_before boxes spans t k x n.own.thread n.own.first m n.thread (omega (arith, less, at)))) in
      omega (arith, right, place)
  | inr end ↦
      let at = end.1 in
      let place = end.2 in
      let event = box_first_event_exists f boxes spans ends h t j y n in
      let right = ((h.places.placed n.number n.box n.own n.there n.goes).end_x event.0 event.1).above x
      (moment_is_marked_before boxes spans t k x n.own.thread n.own.last m n.thread (omega (arith, less, at))) in
      omega (arith, right, place)
]

-- boxes that start at the same step are the same
step_start_box_unique : (f : FittedTrace) → HasRun f → (boxes : List PlacedBox) (spans : List Span) (ends : List Point) → AreHeld f boxes spans ends
    → (t k x y : ℕ) (m : IsMoment boxes spans t k x) (n : IsMoment boxes spans t k y) → m.own.first ≡ n.own.first → m.box ≡ n.box
step_start_box_unique f run boxes spans ends h t k x y m n same =
    let a = moment_has_box f run boxes spans ends h t k x m in
    let b = moment_has_box f run boxes spans ends h t k y n in
    let one : m.box.events.event ≡ n.box.events.event =
    event_of_step_unique f run t m.box.events.event n.box.events.event a.first b.first (sym a.begins ∙ same ∙ b.begins) in
    (event_box_unique f run boxes spans ends h t k x k y m.box.events.event m n a.has_first
    (subst (IsInBox n.box.events t) (sym one) b.has_first)).0

-- no box starts where another box ends
box_end_is_no_start : (f : FittedTrace) → HasRun f → (boxes : List PlacedBox) (spans : List Span) (ends : List Point) → AreHeld f boxes spans ends
    → (t k x y : ℕ) (m : IsMoment boxes spans t k x) (n : IsMoment boxes spans t k y) → m.own.first ≡ n.own.last → n.own.first < n.own.last → ⊥
box_end_is_no_start f run boxes spans ends h t k x y m n same long =
    by (moment_has_box f run boxes spans ends h t k x m) (event_at f.recorded t (last_event n.box.events)) refl
    (moment_has_box f run boxes spans ends h t k y n).ends
  where
    of_event : IsBoxOf f boxes spans t k x m → n.own.last ≡ event_entry f t (last_event n.box.events) → ⊥
    of_event a last =
        let b = moment_has_box f run boxes spans ends h t k y n in
        let one : m.box.events.event ≡ last_event n.box.events =
        event_of_step_unique f run t m.box.events.event (last_event n.box.events) a.first b.last (sym a.begins ∙ same ∙ last) in
        let both = (event_box_unique f run boxes spans ends h t k x k y m.box.events.event m n a.has_first
        (subst (IsInBox n.box.events t) (sym one) b.has_last)).1 in
        let first = ap (λ (s : Span). s.first) both in
        omega (arith, first, same, long)

    within : IsBoxOf f boxes spans t k x m → m.box.events.event < length (recorded_thread f.recorded t).events
    within a =
        let some = a.run.some in
        let below : m.box.events.event + m.box.events.count ≤ length (recorded_thread f.recorded t).events =
        subst (λ z. m.box.events.event + m.box.events.count ≤ length (recorded_thread f.recorded z).events) a.thread a.run.within in
        omega (arith, some, below)

    by : IsBoxOf f boxes spans t k x m → (e : Option Event) → event_at f.recorded t (last_event n.box.events) ≡ e
        → IsLastStep f t (last_event n.box.events) e (Some n.own.last) → ⊥
    by a None is last = last
    by a (Some (Answer kind value)) is last = of_event a (same_Some n.own.last (event_entry f t (last_event n.box.events)) last)
    by a (Some (Read o v)) is last = event_step_is_no_leave f run t m.box.events.event (last_event n.box.events) n.own.last a.first (within a) (sym a.begins ∙ same)
        (event_at f.recorded t (last_event n.box.events)) last.leaves
    by a (Some (Write o v readers)) is last = event_step_is_no_leave f run t m.box.events.event (last_event n.box.events) n.own.last a.first (within a) (sym a.begins ∙ same)
        (event_at f.recorded t (last_event n.box.events)) last.leaves
    by a (Some (Try o)) is last = of_event a (same_Some n.own.last (event_entry f t (last_event n.box.events)) last)

-- boxes that end at the same step end at the same x
box_end_is_no_further : (f : FittedTrace) (boxes : List PlacedBox) (spans : List Span) (ends : List Point) → AreHeld f boxes spans ends
    → (t k x y : ℕ) (m : IsMoment boxes spans t k x) (n : IsMoment boxes spans t k y) → k ≡ m.own.last → k ≡ n.own.last → m.own.first < m.own.last
    → m.box.end.x ≤ n.box.end.x
box_end_is_no_further f boxes spans ends h t k x y m n at_m at_n long =
    let event_m = box_first_event_exists f boxes spans ends h t k x m in
    let event_n = box_first_event_exists f boxes spans ends h t k y n in
    let own = (h.places.placed m.number m.box m.own m.there m.goes).end_x event_m.0 event_m.1 in
    let other = (h.places.placed n.number n.box n.own n.there n.goes).end_x event_n.0 event_n.1 in
    let start : IsMoment boxes spans t m.own.first m.box.start.x = record {
      number = m.number;
      box = m.box;
      own = m.own;
      there = m.there;
      goes = m.goes;
      thread = m.thread;
      is = inl (refl, refl);
    } in
    let begun = other.above m.box.start.x
    (moment_is_marked_before boxes spans t m.own.first m.box.start.x n.own.thread n.own.last start n.thread (omega (arith, long, at_m, at_n))) in
    let short = event_length_le_one event_m.0 in
    own.least n.box.end.x (omega (arith, begun, short)) (λ z marked. other.above z (record {
      step = marked.step;
      place = marked.place;
      mark = subst (λ w. IsMark boxes spans w marked.step marked.place) (m.thread ∙ sym n.thread) marked.mark;
      before = (let low = marked.before in omega (arith, low, at_m, at_n));
      x = marked.x;
    }))

-- the moments at a step of a thread have the same x
pub moments_of_step_same : (f : FittedTrace) → HasRun f → (boxes : List PlacedBox) (spans : List Span) (ends : List Point) → AreHeld f boxes spans ends
    → (t k x y : ℕ) → IsMoment boxes spans t k x → IsMoment boxes spans t k y → x ≡ y
moments_of_step_same f run boxes spans ends h t k x y m n = elim m.is [
  | inl start ↦ elim n.is [
    | inl also ↦ start.1 ∙ ap (λ (b : PlacedBox). b.start.x) (step_start_box_unique f run boxes spans ends h t k x y m n (sym start.0 ∙ also.0)) ∙ sym also.1
    | inr end ↦ absurd (box_end_is_no_start f run boxes spans ends h t k x y m n (sym start.0 ∙ end.1) end.0)
  ]
  | inr end ↦ elim n.is [
    | inl start ↦ absurd (box_end_is_no_start f run boxes spans ends h t k y x n m (sym start.0 ∙ end.1) end.0)
    | inr also ↦
        let low = box_end_is_no_further f boxes spans ends h t k x y m n end.1 also.1 end.0 in
        let high = box_end_is_no_further f boxes spans ends h t k y x n m also.1 end.1 also.0 in
        let place = end.2 in
        let other = also.2 in
        omega (arith, low, high, place, other)
  ]
]

-- a moment is a step of its thread
pub moment_is_within_thread : (f : FittedTrace) → HasRun f → (boxes : List PlacedBox) (spans : List Span) (ends : List Point) → AreHeld f boxes spans ends
    → (t k x : ℕ) → IsMoment boxes spans t k x → (t < threads_of f) × (k < last_of f t)
moment_is_within_thread f run boxes spans ends h t k x m =
    let b = moment_has_box f run boxes spans ends h t k x m in (
      b.first.thread,
      elim m.is [
        | inl start ↦
            let at = start.0 in
            let begins = b.begins in
            let low = event_position_below f run t b.first.thread m.box.events.event b.first.event in
            omega (arith, at, begins, low)
        | inr end ↦
            let at = end.1 in
            let low = last_step_in_thread f run t (last_event m.box.events) m.own.last b.last (event_at f.recorded t (last_event m.box.events)) refl b.ends in
            omega (arith, at, low)
      ],
    )
