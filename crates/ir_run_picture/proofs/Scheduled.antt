-- The steps of a run give the boxes of its trace an order: each box starts after what it needs ends. The steps of a box of several events count as its
-- first, since these events see nothing new.
use Rattle.std.proofs.Common.{◌≡◌, ℕ, zero, suc, ◌+◌, ◌-◌, ◌*◌, ◌^◌, ◌<◌, ◌≤◌, inl, inr, Option, Some, None, List, length, get_or, refl, sym, ap, ◌∙◌, subst, arith}
use Rattle.std.specs.List.{slice_get}
use Rattle.std.proofs.lemmas.Bool.{cases_lt}
use Rattle.std.proofs.lemmas.Option.{same_Some, slice_get-get_or, slice_get_within}
use Rattle.ir_runs.specs.Run.{Step}
use Rattle.ir_log.specs.declared.event.Event.{Event}
use Rattle.ir_log.specs.declared.event.Event.TheVariants.{Answer, Read, Write, Try}
use Rattle.ir_trace.specs.Recorded.{recorded_thread}
use Rattle.ir_coherence.proofs.CallerLemmas.{recorded_thread_fits}
use Rattle.ir_fit.specs.Fit.{FittedTrace, HasRun}
use Rattle.ir_fit.specs.Within.{IsFitted}
use Rattle.ir_fit.proofs.CallerLemmas.{event_positions_rise, event_position_below}
use Rattle.ir_past.specs.Past.{event_at}
use Rattle.ir_events.specs.Events.{event_entry}
use Rattle.ir_opened.specs.Positions.{IsInside, IsLeaveOf, EntryLeaves}
use Rattle.ir_opened.specs.Paired.{ArePaired}
use Rattle.ir_opened.proofs.CallerLemmas.{recorded_is_inside, leave_is_past_event, leave_is_within_thread, entering_event_has_leave, earlier_entry_step_le}
use Rattle.ir_picture.specs.Needs.{Needs}
use Rattle.ir_picture.specs.Boxes.{IsInBox}
use Rattle.ir_picture.specs.Places.{NeedsBox}
use Rattle.ir_picture.specs.declared.event_box.EventBox.{EventBox}
use Rattle.ir_holds.specs.Open.{AreRising}
use Rattle.ir_holds.specs.Schedules.{IsSpotSchedule, HasSchedule}
use Rattle.ir_holds.specs.declared.span.Span.{Span}
use Rattle.ir_run_picture.specs.Steps.{IsLastStep}
use Rattle.ir_run_picture.specs.Spans.{last_event, IsSpanOfBox}
use Rattle.ir_run_picture.specs.Brief.{IsBrief, IsRunBox, AreRunBoxes}
use Rattle.ir_run_picture.proofs.Places.{place_in, place_in_monotone}
use Rattle.ir_run_picture.proofs.Ordered.{needed_is_left_before}
use Rattle.ir_run_picture.proofs.Squeezed.{GoesOver, BoxOver, front_of, front_cases}

-- ---- steps of events

event_is_inside : (f : FittedTrace) → HasRun f → (t i : ℕ) → i < length (recorded_thread f.recorded t).events → IsInside f t i
event_is_inside f h t i l =
    let es : List Event = (recorded_thread f.recorded t).events in
    recorded_is_inside f h t i (get_or es i (Try 0)) (slice_get-get_or es i (Try 0) l)

last_step_past_entry : (f : FittedTrace) (t i k : ℕ) (e : Option Event) → IsLastStep f t i e (Some k) → event_entry f t i ≤ k
last_step_past_entry f t i k None h = absurd h
last_step_past_entry f t i k (Some (Answer kind value)) h = let same = same_Some k (event_entry f t i) h in omega (arith, same)
last_step_past_entry f t i k (Some (Read o v)) h = let past = leave_is_past_event f t i k h.leaves in omega (arith, past)
last_step_past_entry f t i k (Some (Write o v readers)) h = let past = leave_is_past_event f t i k h.leaves in omega (arith, past)
last_step_past_entry f t i k (Some (Try o)) h = let same = same_Some k (event_entry f t i) h in omega (arith, same)

last_step_within_thread : (f : FittedTrace) → HasRun f → (t i k : ℕ) (e : Option Event) → IsInside f t i → IsLastStep f t i e (Some k)
    → k < (recorded_thread f.recorded t).steps
last_step_within_thread f h t i k None inside last = absurd last
last_step_within_thread f h t i k (Some (Answer kind value)) inside last =
    let same = same_Some k (event_entry f t i) last in
    let low = event_position_below f h t inside.thread i inside.event in
    omega (arith, same, low)
last_step_within_thread f h t i k (Some (Read o v)) inside last = leave_is_within_thread f h t i k inside.thread last.leaves
last_step_within_thread f h t i k (Some (Write o v readers)) inside last = leave_is_within_thread f h t i k inside.thread last.leaves
last_step_within_thread f h t i k (Some (Try o)) inside last =
    let same = same_Some k (event_entry f t i) last in
    let low = event_position_below f h t inside.thread i inside.event in
    omega (arith, same, low)

-- the last step of a brief event comes before the next event
brief_ends_before_next : (f : FittedTrace) → HasRun f → (t i k : ℕ) (e : Option Event) → IsBrief f t i → IsInside f t (suc i) → IsLastStep f t i e (Some k)
    → k < event_entry f t (suc i)
brief_ends_before_next f h t i k None brief next last = absurd last
brief_ends_before_next f h t i k (Some (Answer kind value)) brief next last =
    let same = same_Some k (event_entry f t i) last in
    let up = event_positions_rise f h t next.thread i (suc i) (omega arith) next.event in
    omega (arith, same, up)
brief_ends_before_next f h t i k (Some (Read o v)) brief next last = brief k last next.event
brief_ends_before_next f h t i k (Some (Write o v readers)) brief next last = brief k last next.event
brief_ends_before_next f h t i k (Some (Try o)) brief next last =
    let same = same_Some k (event_entry f t i) last in
    let up = event_positions_rise f h t next.thread i (suc i) (omega arith) next.event in
    omega (arith, same, up)

-- an event that is left ends with its leave
last_step_before_leave : (f : FittedTrace) (t i k l : ℕ) (e : Option Event) → event_at f.recorded t i ≡ e → IsLastStep f t i e (Some k) → IsLeaveOf f t i l → k ≤ l
last_step_before_leave f t i k l None is last left = absurd last
last_step_before_leave f t i k l (Some (Answer kind value)) is last left = absurd (subst (λ z. EntryLeaves f t (event_entry f t i + 1) z l) is left.leaves)
last_step_before_leave f t i k l (Some (Read o v)) is last left = last.first l left.leaves
last_step_before_leave f t i k l (Some (Write o v readers)) is last left = last.first l left.leaves
last_step_before_leave f t i k l (Some (Try o)) is last left = absurd (subst (λ z. EntryLeaves f t (event_entry f t i + 1) z l) is left.leaves)

-- ---- boxes

-- the last event of a box is one of the guest's thread
last_event_is_inside : (f : FittedTrace) → HasRun f → (b : EventBox) → IsRunBox f b → IsInside f b.thread (last_event b)
last_event_is_inside f h b box =
    event_is_inside f h b.thread (last_event b) (let within = box.within in let some = box.some in omega (arith, within, some))

first_event_is_inside : (f : FittedTrace) → HasRun f → (b : EventBox) → IsRunBox f b → IsInside f b.thread b.event
first_event_is_inside f h b box =
    event_is_inside f h b.thread b.event (let within = box.within in let some = box.some in omega (arith, within, some))

span_first_before_last : (f : FittedTrace) → HasRun f → (b : EventBox) (s : Span) → IsRunBox f b → IsSpanOfBox f b s → s.first ≤ s.last
span_first_before_last f h b s box go =
    let later = earlier_entry_step_le f h b.thread (last_event b) b.event (last_event_is_inside f h b box) (let some = box.some in omega (arith, some)) in
    let past = last_step_past_entry f b.thread (last_event b) s.last (event_at f.recorded b.thread (last_event b)) go.last in
    let first = go.first in
    omega (arith, later, past, first)

-- a box of several events ends before the thread's next event
several_end_before_next : (f : FittedTrace) → HasRun f → (b : EventBox) (s : Span) → IsRunBox f b → IsSpanOfBox f b s → 1 < b.count → (i : ℕ)
    → IsInside f b.thread i → b.event + b.count ≤ i → s.last < event_entry f b.thread i
several_end_before_next f h b s box go many i inside past =
    let before = b.event + (b.count - 2) in
    let next : suc before ≡ last_event b = omega (arith, many) in
    let fold = box.folds before (omega arith) (omega (arith, many)) in
    let brief : IsBrief f b.thread (last_event b) = subst (IsBrief f b.thread) next fold.other in
    let low : suc (last_event b) ≤ i = omega (arith, many, past) in
    let room = inside.event in
    let there : IsInside f b.thread (suc (last_event b)) = record { thread = inside.thread; event = omega (arith, low, room) } in
    let ends = brief_ends_before_next f h b.thread (last_event b) s.last (event_at f.recorded b.thread (last_event b)) brief there go.last in
    let later = earlier_entry_step_le f h b.thread i (suc (last_event b)) inside low in
    omega (arith, ends, later)

-- ---- what a box needs is needed by its first event, or by one before

-- an event of a box that isn't its first sees nothing new: what it needs is needed before
later_box_need_is_earlier : (f : FittedTrace) (b : EventBox) → IsRunBox f b → (u j i : ℕ) → b.event < i → IsInBox b b.thread i → Needs f.recorded b.thread i u j
    → (k : ℕ) × (k < i) × Needs f.recorded b.thread k u j
later_box_need_is_earlier f b box u j i later has needs =
    let p = i - 1 in
    let next : suc p ≡ i = omega (arith, later) in
    let below = has.below in
    let fold = (box.folds p (omega (arith, later)) (omega (arith, below, next))).folded in
    elim fold.repeats [
      | inl reads ↦
          let again = reads.1 in
          let is : event_at f.recorded b.thread i ≡ Some (Read again.object again.version) =
          subst (λ z. event_at f.recorded b.thread z ≡ Some (Read again.object again.version)) next again.read in
          let before = again.earlier in
          elim needs [
            | inl maker ↦ elim maker.entry [
              | inl read ↦ (
                again.before,
                omega (arith, before, next),
                inl (record {
                  object = maker.object;
                  version = maker.version;
                  readers = maker.readers;
                  entry = inl (again.same ∙ sym is ∙ read);
                  made = maker.made;
                }),
              )
              | inr write ↦ absurd (cc (sym is ∙ write.1))
            ]
            | inr reader ↦ absurd (cc (sym is ∙ reader.write))
          ]
      | inr tries ↦
          let again = tries.1 in
          let is : event_at f.recorded b.thread i ≡ Some (Try again.object) =
          subst (λ z. event_at f.recorded b.thread z ≡ Some (Try again.object)) next again.«try» in
          elim needs [
            | inl maker ↦ elim maker.entry [
              | inl read ↦ absurd (cc (sym is ∙ read))
              | inr write ↦ absurd (cc (sym is ∙ write.1))
            ]
            | inr reader ↦ absurd (cc (sym is ∙ reader.write))
          ]
    ]

box_need_is_early : (f : FittedTrace) (b : EventBox) → IsRunBox f b → (u j n i : ℕ) → i ≤ n → IsInBox b b.thread i → Needs f.recorded b.thread i u j
    → (k : ℕ) × (k ≤ b.event) × Needs f.recorded b.thread k u j
box_need_is_early f b box u j zero i low has needs = (i, omega (arith, low), needs)
box_need_is_early f b box u j (suc n) i low has needs = elim (cases_lt b.event i) [
  | inr not ↦ (i, omega (arith, not), needs)
  | inl later ↦
      let one = later_box_need_is_earlier f b box u j i later has needs in
      let less = one.1 in
      let below = has.below in
      elim (cases_lt b.event one.0) [
        | inr not ↦ (one.0, omega (arith, not), one.2)
        | inl past ↦ box_need_is_early f b box u j n one.0 (omega (arith, low, less))
            (record { thread = refl; from = omega (arith, past); below = omega (arith, below, less) }) one.2
      ]
]

-- ---- the boxes of a run

-- boxes of a run with their steps
pub record AreGoing (f : FittedTrace) (events : List EventBox) (spans : List Span) : Type 0 where
  pub run : HasRun f
  pub boxes : AreRunBoxes f events
  pub go : ArePaired (IsSpanOfBox f) events spans

-- the box of these steps
span_has_box : (f : FittedTrace) (events : List EventBox) (spans : List Span) → AreGoing f events spans → (n : ℕ) (s : Span) → slice_get spans n ≡ Some s
    → (b : EventBox) × (slice_get events n ≡ Some b)
span_has_box f events spans g n s goes =
    let none : EventBox = record { thread = 0; event = 0; count = 0 } in
    let within = slice_get_within spans n s goes in
    let size = g.go.size in
    (get_or events n none, slice_get-get_or events n none (omega (arith, within, size)))

-- a box that starts while a box of several events goes on is that box
overlapping_box_is_own : (f : FittedTrace) (events : List EventBox) (spans : List Span) → AreGoing f events spans → (n m : ℕ) (b c : EventBox) (s z : Span)
    → slice_get events n ≡ Some b → slice_get spans n ≡ Some s → slice_get events m ≡ Some c → slice_get spans m ≡ Some z → 1 < b.count → z.thread ≡ s.thread
    → s.first ≤ z.first → z.first ≤ s.last → n ≡ m
overlapping_box_is_own f events spans g n m b c s z is_b goes_s is_c goes_z many thread from to =
    let box_b = g.boxes.each n b is_b in
    let box_c = g.boxes.each m c is_c in
    let go_b = g.go.each n b s is_b goes_s in
    let go_c = g.go.each m c z is_c goes_z in
    let threads : c.thread ≡ b.thread = sym go_c.thread ∙ thread ∙ go_b.thread in
    let inside_c : IsInside f b.thread c.event = subst (λ t. IsInside f t c.event) threads (first_event_is_inside f g.run c box_c) in
    let first_b = go_b.first in
    let first_c : z.first ≡ event_entry f b.thread c.event = go_c.first ∙ ap (λ t. event_entry f t c.event) threads in
    let some_c = box_c.some in
    elim (cases_lt c.event b.event) [
      | inl early ↦
          let inside_b = first_event_is_inside f g.run b box_b in
          let up = event_positions_rise f g.run b.thread inside_b.thread c.event b.event early inside_b.event in
          absurd (omega (arith, up, first_b, first_c, from))
      | inr late ↦ elim (cases_lt c.event (b.event + b.count)) [
        | inl here ↦ g.boxes.one n m b.thread c.event b c is_b is_c (record { thread = refl; from = late; below = here })
            (record { thread = threads; from = omega arith; below = omega (arith, some_c) })
        | inr past ↦
            let ends = several_end_before_next f g.run b s box_b go_b many c.event inside_c past in
            absurd (omega (arith, ends, first_c, to))
      ]
    ]

-- ---- the steps that count as the first of a box

front_of_at_most_step : (events : List EventBox) (spans : List Span) (t k : ℕ) → front_of events spans t k ≤ k
front_of_at_most_step events spans t k = elim (front_cases events spans t k) [
  | inl over ↦ let is = over.is in let from = over.over.from in omega (arith, is, from)
  | inr none ↦ let is = none.0 in omega (arith, is)
]

-- two boxes of several events that go over one step are one
over_one_step_alike : (f : FittedTrace) (events : List EventBox) (spans : List Span) → AreGoing f events spans → (t k : ℕ) (a : BoxOver events spans t k (front_of events spans t k))
    → (b : EventBox) (s : Span) (n : ℕ) → slice_get events n ≡ Some b → slice_get spans n ≡ Some s → GoesOver b s t k → a.own.first ≤ s.first
over_one_step_alike f events spans g t k a b s n is goes over = elim (cases_lt s.first a.own.first) [
  | inr not ↦ omega (arith, not)
  | inl less ↦
      let from = a.over.from in
      let to = over.to in
      let one : n ≡ a.number = overlapping_box_is_own f events spans g n a.number b a.box s a.own is goes a.there a.goes over.many (a.over.thread ∙ sym over.thread)
      (omega (arith, less)) (omega (arith, from, to)) in
      let same : s ≡ a.own = same_Some s a.own (sym goes ∙ ap (slice_get spans) one ∙ a.goes) in
      let equal = ap (λ (x : Span). x.first) same in
      absurd (omega (arith, less, equal))
]

front_of_monotone : (f : FittedTrace) (events : List EventBox) (spans : List Span) → AreGoing f events spans → (t j k : ℕ) → j ≤ k
    → front_of events spans t j ≤ front_of events spans t k
front_of_monotone f events spans g t j k low =
    let before = front_of_at_most_step events spans t j in
    elim (front_cases events spans t k) [
      | inr none ↦ let is = none.0 in omega (arith, before, low, is)
      | inl over ↦
          let is = over.is in
          let to = over.over.to in
          elim (cases_lt j over.own.first) [
            | inl early ↦ omega (arith, before, early, is)
            | inr late ↦
                let here : GoesOver over.box over.own t j = record {
                  thread = over.over.thread;
                  many = over.over.many;
                  from = late;
                  to = omega (arith, low, to);
                } in
                elim (front_cases events spans t j) [
                  | inr none ↦ absurd (none.1 over.number over.box over.own over.there over.goes here)
                  | inl other ↦
                      let starts = over_one_step_alike f events spans g t j other over.box over.own over.number over.there over.goes here in
                      let is_j = other.is in
                      omega (arith, starts, is, is_j)
                ]
          ]
    ]

-- a box starts at its own step
front_of_box_start : (f : FittedTrace) (events : List EventBox) (spans : List Span) → AreGoing f events spans → (n : ℕ) (b : EventBox) (s : Span)
    → slice_get events n ≡ Some b → slice_get spans n ≡ Some s → front_of events spans s.thread s.first ≡ s.first
front_of_box_start f events spans g n b s is goes = elim (front_cases events spans s.thread s.first) [
  | inr none ↦ none.0
  | inl over ↦
      let one : over.number ≡ n = overlapping_box_is_own f events spans g over.number n over.box b over.own s over.there over.goes is goes over.over.many
      (sym over.over.thread) over.over.from over.over.to in
      let same : over.own ≡ s = same_Some over.own s (sym over.goes ∙ ap (slice_get spans) one ∙ goes) in
      over.is ∙ ap (λ (x : Span). x.first) same
]

-- a box of several events ends at its first step
front_of_box_end : (f : FittedTrace) (events : List EventBox) (spans : List Span) → AreGoing f events spans → (n : ℕ) (b : EventBox) (s : Span)
    → slice_get events n ≡ Some b → slice_get spans n ≡ Some s → 1 < b.count → front_of events spans s.thread s.last ≤ s.first
front_of_box_end f events spans g n b s is goes many =
    let on = span_first_before_last f g.run b s (g.boxes.each n b is) (g.go.each n b s is goes) in
    let here : GoesOver b s s.thread s.last = record { thread = refl; many = many; from = on; to = omega arith } in
    elim (front_cases events spans s.thread s.last) [
      | inr none ↦ absurd (none.1 n b s is goes here)
      | inl over ↦
          let starts = over_one_step_alike f events spans g s.thread s.last over b s n is goes here in
          let same = over.is in
          omega (arith, starts, same)
    ]

-- ---- the order of the steps

-- the number of step k of thread t: by the place of the step as which it counts, and then by the thread's steps
abbrev pub number_of : List Step → List EventBox → List Span → ℕ → ℕ → ℕ
number_of run events spans t k = place_in run t (front_of events spans t k) * 2 ^ 64 + k

run_numbers_rise : (f : FittedTrace) (events : List EventBox) (spans : List Span) (g : AreGoing f events spans) (t j k : ℕ) → j < k
    → number_of g.run.run events spans t j < number_of g.run.run events spans t k
run_numbers_rise f events spans g t j k less =
    let fronts = front_of_monotone f events spans g t j k (omega (arith, less)) in
    let places = place_in_monotone g.run.run t (front_of events spans t j) (front_of events spans t k) fronts in
    omega (arith, places, less)

-- an event that is needed is an entry, and is left
needed_event_has_leave : (f : FittedTrace) → HasRun f → (t i u j : ℕ) → Needs f.recorded t i u j → (l : ℕ) × IsLeaveOf f u j l
needed_event_has_leave f h t i u j (inl maker) = entering_event_has_leave f h u j maker.object (Write maker.object maker.version maker.readers) maker.made refl
needed_event_has_leave f h t i u j (inr reader) = entering_event_has_leave f h u j reader.object (Read reader.object reader.version) reader.read refl

-- what a box needs counts as left before the box starts
needed_box_ends_before : (f : FittedTrace) (events : List EventBox) (spans : List Span) (g : AreGoing f events spans) (m n : ℕ) (a b : EventBox) (s z : Span)
    → slice_get events m ≡ Some a → slice_get spans m ≡ Some s → slice_get events n ≡ Some b → slice_get spans n ≡ Some z → NeedsBox f.recorded b a
    → place_in g.run.run s.thread (front_of events spans s.thread s.last) < place_in g.run.run z.thread (front_of events spans z.thread z.first)
needed_box_ends_before f events spans g m n a b s z is_a goes_s is_b goes_z need =
    let run = g.run.run in
    let box_a = g.boxes.each m a is_a in
    let box_b = g.boxes.each n b is_b in
    let go_a = g.go.each m a s is_a goes_s in
    let go_b = g.go.each n b z is_b goes_z in
    let left = needed_event_has_leave f g.run b.thread need.event a.thread need.needed need.needs in
    let early = box_need_is_early f b box_b a.thread need.needed need.event need.event (omega arith) need.own need.needs in
    let before = needed_is_left_before f g.run b.thread early.0 a.thread need.needed left.0 early.2 left.1 in
    let inside_b = first_event_is_inside f g.run b box_b in
    let no_later = place_in_monotone run b.thread (event_entry f b.thread early.0) (event_entry f b.thread b.event)
    (earlier_entry_step_le f g.run b.thread b.event early.0 inside_b early.1) in
    let start : place_in run z.thread (front_of events spans z.thread z.first) ≡ place_in run b.thread (event_entry f b.thread b.event) =
    ap (place_in run z.thread) (front_of_box_start f events spans g n b z is_b goes_z ∙ go_b.first)
    ∙ ap (λ t. place_in run t (event_entry f b.thread b.event)) go_b.thread in
    let ends : front_of events spans s.thread s.last ≤ left.0 = end_counts_by_leave box_a go_a left.0 left.1 in
    let by = place_in_monotone run s.thread (front_of events spans s.thread s.last) left.0 ends in
    let same = ap (λ t. place_in run t left.0) go_a.thread in
    omega (arith, before, no_later, start, by, same)
  where
    end_counts_by_leave : IsRunBox f a → IsSpanOfBox f a s → (l : ℕ) → IsLeaveOf f a.thread need.needed l → front_of events spans s.thread s.last ≤ l
    end_counts_by_leave box_a go_a l left = elim (cases_lt 1 a.count) [
      | inl many ↦
          let front = front_of_box_end f events spans g m a s is_a goes_s many in
          let first = go_a.first in
          let below = need.other.below in
          let within = box_a.within in
          let inside = event_is_inside f g.run a.thread need.needed (omega (arith, below, within)) in
          let later = earlier_entry_step_le f g.run a.thread need.needed a.event inside need.other.from in
          let past = leave_is_past_event f a.thread need.needed l left.leaves in
          omega (arith, front, first, later, past)
      | inr one ↦
          let some = box_a.some in
          let from = need.other.from in
          let below = need.other.below in
          let here : need.needed ≡ last_event a = omega (arith, one, some, from, below) in
          let last = last_step_before_leave f a.thread (last_event a) s.last l (event_at f.recorded a.thread (last_event a)) refl go_a.last
          (subst (λ i. IsLeaveOf f a.thread i l) here left) in
          let front = front_of_at_most_step events spans s.thread s.last in
          omega (arith, front, last)
    ]

pub run_has_schedule : (f : FittedTrace) (events : List EventBox) (spans : List Span) → IsFitted f → AreRunBoxes f events → ArePaired (IsSpanOfBox f) events spans
    → HasSchedule f.recorded events spans
run_has_schedule f events spans fitted boxes go = (number_of fitted.run.run events spans, is)
  where
    g : AreGoing f events spans
    g = record { run = fitted.run; boxes = boxes; go = go }

    ends_within : (n : ℕ) (s : Span) → slice_get spans n ≡ Some s → s.last < (recorded_thread f.recorded s.thread).steps
    ends_within n s goes =
        let b = span_has_box f events spans g n s goes in
        let box = boxes.each n b.0 b.1 in
        let own = go.each n b.0 s b.1 goes in
        let within = last_step_within_thread f fitted.run b.0.thread (last_event b.0) s.last (event_at f.recorded b.0.thread (last_event b.0))
        (last_event_is_inside f fitted.run b.0 box) own.last in
        let same = ap (λ t. (recorded_thread f.recorded t).steps) own.thread in
        omega (arith, within, same)

    last_is_word : (n : ℕ) (s : Span) → slice_get spans n ≡ Some s → s.last < 2 ^ 64
    last_is_word n s goes =
        let b = span_has_box f events spans g n s goes in
        let box = boxes.each n b.0 b.1 in
        let own = go.each n b.0 s b.1 goes in
        let within = ends_within n s goes in
        let there : s.thread < length f.recorded.threads = (let thread = box.thread in let same = own.thread in omega (arith, thread, same)) in
        let fits = (recorded_thread_fits f.recorded fitted.within s.thread there).steps_fit in
        omega (arith, within, fits)

    is : IsSpotSchedule f.recorded events spans (number_of fitted.run.run events spans)
    is = record {
      rises = run_numbers_rise f events spans g;
      goes = λ n s goes. let b = span_has_box f events spans g n s goes in span_first_before_last f fitted.run b.0 s (boxes.each n b.0 b.1) (go.each n b.0 s b.1 goes);
      within = ends_within;
      needs = λ m n a b s z is_a goes_s is_b goes_z need.
          let before = needed_box_ends_before f events spans g m n a b s z is_a goes_s is_b goes_z need in
          let small = last_is_word m s goes_s in
          omega (arith, before, small);
    }

-- the boxes of a run come by rising thread and step
pub run_spans_rise : (f : FittedTrace) (events : List EventBox) (spans : List Span) → IsFitted f → AreRunBoxes f events → ArePaired (IsSpanOfBox f) events spans → AreRising spans
run_spans_rise f events spans fitted boxes go k m s z less goes_s goes_z =
    let g : AreGoing f events spans = record { run = fitted.run; boxes = boxes; go = go } in
    let a = span_has_box f events spans g k s goes_s in
    let b = span_has_box f events spans g m z goes_z in
    let own = go.each k a.0 s a.1 goes_s in
    let other = go.each m b.0 z b.1 goes_z in
    let thread_s = own.thread in
    let thread_z = other.thread in
    elim (boxes.rising k m a.0 b.0 less a.1 b.1) [
      | inl threads ↦ record {
        thread = omega (arith, threads, thread_s, thread_z);
        first = λ same. absurd (omega (arith, threads, thread_s, thread_z, same));
      }
      | inr here ↦
          let threads = here.0 in
          let up = here.1 in
          record {
            thread = omega (arith, threads, thread_s, thread_z);
            first = λ same.
                let inside = first_event_is_inside f fitted.run b.0 (boxes.each m b.0 b.1) in
                let rise = earlier_entry_step_le f fitted.run b.0.thread b.0.event a.0.event inside (omega (arith, up)) in
                let first_s = own.first ∙ ap (λ t. event_entry f t a.0.event) threads in
                let first_z = other.first in
                omega (arith, rise, first_s, first_z);
          }
    ]
