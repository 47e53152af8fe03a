-- Events that are among the steps of a run, and texts put one after the other.
use Rattle.std.proofs.Common.{◌≡◌, ℕ, zero, suc, ◌+◌, ◌<◌, inl, inr, List, [], ◌∷◌, ◌++◌, get_or, length, map, drop, flat_map, append_assoc, refl, sym, ap, ◌∙◌, subst, arith}
use Rattle.std.proofs.lemmas.Bool.{cases_lt}
use Rattle.std.proofs.lemmas.List.{get_or_past}
use Rattle.ir_runs.specs.Run.{events}
use Rattle.ir_log.specs.Logging.{label_of}
use Rattle.ir_trace.specs.Recorded.{Recorded, RecordedThread, recorded_thread}
use Rattle.ir_trace.specs.Absent.{absent}
use Rattle.ir_fit.specs.Fit.{FittedTrace, HasRun}
use Rattle.ir_fit.proofs.CallerLemmas.{entries_count_events, guest_start_is_start}
use Rattle.ir_cut.specs.Positions.{start_of}
use Rattle.ir_cut.proofs.CallerLemmas.{missing_has_no_trail}
use Rattle.ir_past.specs.declared.place.Place.{Place}
use Rattle.ir_picture.specs.Needs.{HasNoCircle, IsCircleAt}
use Rattle.ir_picture.specs.Runs.{RunsHaveNoCircle}
use Rattle.ir_opened.specs.Positions.{IsInside}
use Rattle.ir_why.specs.FitAnswers.{AreEventsInside}
use Rattle.ir_why.specs.Tables.{AreThere}

-- ---- what is inside

-- an event of the trace is one of a thread of the guest
pub trace_event_is_inside : (f : FittedTrace) → HasRun f → (t i : ℕ) → t < length f.recorded.threads → i < length (recorded_thread f.recorded t).events
    → IsInside f t i
trace_event_is_inside f h t i a b =
    let l : t < length f.guest.entries = let n = h.whole.0.threads in omega (arith, a, n) in
    record { thread = l; event = let long = entries_count_events f h t l in omega (arith, long, b) }

pub trace_events_are_inside : (f : FittedTrace) → HasRun f → (places : List Place) → AreThere f.recorded places → AreEventsInside f places
trace_events_are_inside f h places there k p is = let own = there k p is in trace_event_is_inside f h p.thread p.event own.0 own.1

-- the other way
pub inside_is_of_trace : (f : FittedTrace) → HasRun f → (t i : ℕ) → IsInside f t i
    → (t < length f.recorded.threads) × (i < length (recorded_thread f.recorded t).events)
inside_is_of_trace f h t i inside = (
  (let a = inside.thread in let n = h.whole.0.threads in omega (arith, a, n)),
  (let b = inside.event in let long = entries_count_events f h t inside.thread in omega (arith, b, long)),
)

-- ---- the first cut

-- ---- circles

-- a trace without a circle has none
pub no_event_has_circle : (r : Recorded) (t e : ℕ) → HasNoCircle r → IsCircleAt r t e → ⊥
no_event_has_circle r t e h c =
    let all = h.2 t in
    let most = c.full.most h.0 h.1 t in
    let next = c.next in
    let left = c.left in
    omega (arith, all, most, next, left)

-- the trace of a run has no circle
pub run_trace_has_no_circle : RunsHaveNoCircle → (f : FittedTrace) → HasRun f → (r : Recorded) → r ≡ f.recorded → (t e : ℕ) → IsCircleAt r t e → ⊥
run_trace_has_no_circle law f h r same t e c =
    no_event_has_circle f.recorded t e
    (law f.guest.code (start_of f) (guest_start_is_start f.guest f.recorded.budget f.recorded.profile) h.run h.whole.1.runs f.recorded (λ u. elim (cases_lt u (length f.guest.entries)) [
      | inl l ↦ h.whole.1.logs u l
      | inr past ↦ ap events (missing_has_no_trail f h.run h.whole u past)
          ∙ ap (λ (x : RecordedThread). map label_of x.events) (sym (get_or_past f.recorded.threads u absent
          (let size = h.whole.0.threads in omega (arith, past, size))))
    ]))
    (subst (λ (x : Recorded). IsCircleAt x t e) same c)

-- ---- texts

-- the texts of the elements from one on
flat_map_of_drop_step : {X : Type 0} (f : X → List ℕ) (xs : List X) (n : ℕ) (d : X) → n < length xs
    → flat_map f (drop n xs) ≡ f (get_or xs n d) ++ flat_map f (drop (suc n) xs)
flat_map_of_drop_step f [] n d l = absurd (omega (arith, l))
flat_map_of_drop_step f (x ∷ xs) zero d l = refl
flat_map_of_drop_step f (x ∷ xs) (suc n) d l = flat_map_of_drop_step f xs n d (omega (arith, l))

-- the text of one element more
pub text_and_flat_map_step : {X : Type 0} (f : X → List ℕ) (xs : List X) (n : ℕ) (d : X) (old new all : List ℕ) → n < length xs → new ≡ old ++ f (get_or xs n d)
    → old ++ flat_map f (drop n xs) ≡ all → new ++ flat_map f (drop (n + 1) xs) ≡ all
text_and_flat_map_step f xs n d old new all l is h =
    let same : n + 1 ≡ suc n = omega arith in
    ap (λ k. new ++ flat_map f (drop k xs)) same ∙ ap (λ t. t ++ flat_map f (drop (suc n) xs)) is
    ∙ append_assoc old (f (get_or xs n d)) (flat_map f (drop (suc n) xs)) ∙ ap (λ t. old ++ t) (sym (flat_map_of_drop_step f xs n d l)) ∙ h
