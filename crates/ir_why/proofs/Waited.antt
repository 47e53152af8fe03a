-- How many events are before a step, and the chain of waits of a run, wait by wait.
use Rattle.std.proofs.Common.{◌≡◌, ℕ, zero, suc, ◌+◌, ◌-◌, ◌<◌, ◌≤◌, ◌^◌, ◌⊎◌, inl, inr, Option, Some, None, true, false, ltb, ltb-true}
use Rattle.std.proofs.Common.{ltb-false, List, [], ◌∷◌, ◌++◌, length, get_or, append_assoc, append-nil, refl, sym, ap, ◌∙◌, subst, arith}
use Rattle.std.specs.Prelude.{slice_get, MatchOption}
use Rattle.std.specs.List.Sorted.{IsNonDecreasingBy, IsPartitionPoint}
use Rattle.std.proofs.lemmas.Bool.{cases_lt}
use Rattle.std.proofs.lemmas.Option.{same_Some, none-some}
use Rattle.ir_lemmas.proofs.CallerLemmas.{slice_get_append_cases, length_of_append_item}
use Rattle.ir_coherence.proofs.CallerLemmas.{recorded_thread_fits}
use Rattle.ir_log.specs.declared.event.Event.TheVariants.{Read, Write}
use Rattle.ir_trace.specs.Recorded.{Recorded}
use Rattle.ir_fit.specs.Fit.{FittedTrace, HasRun}
use Rattle.ir_fit.specs.Within.{IsFitted}
use Rattle.ir_fit.proofs.CallerLemmas.{entries_count_events, event_positions_rise}
use Rattle.ir_cut.specs.Positions.{cut_of}
use Rattle.ir_past.specs.declared.place.Place.{Place}
use Rattle.ir_picture.specs.declared.placed_box.PlacedBox.{PlacedBox}
use Rattle.ir_events.specs.Events.{entries_of, event_entry}
use Rattle.ir_opened.specs.Positions.{IsInside, IsLeaveOf}
use Rattle.ir_opened.proofs.CallerLemmas.{entering_event_has_leave, leave_is_past_event}
use Rattle.ir_why.specs.Chain.{IsLink, WaitsForNone}
use Rattle.ir_why.specs.Needed.{NeedsOther}
use Rattle.ir_why.specs.Waits.{AreBefore, IsLastBefore, IsWait, IsWaitFrom, AreWaits, itself}
use Rattle.ir_why.specs.declared.link.Link.{Link}
use Rattle.ir_why.specs.declared.wait.Wait.{Wait}
use Rattle.ir_why.proofs.Linked.{linked_event_exists}
use Rattle.ir_why.proofs.Within.{trace_event_is_inside, inside_is_of_trace}

-- ---- events before a step

-- the steps of a thread's events are in order
pub entry_steps_sorted : (f : FittedTrace) → HasRun f → (t : ℕ) (xs : List ℕ) → t < length f.guest.entries → xs ≡ entries_of f t
    → IsNonDecreasingBy (λ (i : ℕ). i) xs
entry_steps_sorted f h t xs l is i j d le lj = elim (cases_lt i j) [
  | inl less ↦
      let inside : j < length (entries_of f t) = subst (λ (z : List ℕ). j < length z) is lj in
      let up = event_positions_rise f h t l i j less inside in
      let raised : get_or xs i 0 < get_or xs j 0 = subst (λ (z : List ℕ). get_or z i 0 < get_or z j 0) (sym is) up in
      let low = same_default xs i d (omega (arith, less, lj)) in
      let high = same_default xs j d lj in
      omega (arith, raised, low, high)
  | inr past ↦
      let same : i ≡ j = omega (arith, le, past) in
      let equal = ap (λ k. get_or xs k d) same in omega (arith, equal)
]
  where
    same_default : (ys : List ℕ) (k e : ℕ) → k < length ys → get_or ys k e ≡ get_or ys k 0
    same_default [] k e lk = absurd (omega (arith, lk))
    same_default (y ∷ ys) zero e lk = refl
    same_default (y ∷ ys) (suc k) e lk = same_default ys k e (omega (arith, lk))

-- they are few
pub entries_fit_32_bits : (f : FittedTrace) → IsFitted f → (t : ℕ) → t < length f.guest.entries → length (entries_of f t) < 2 ^ 32
entries_fit_32_bits f fitted t l =
    let long = entries_count_events f fitted.run t l in
    let same = fitted.run.whole.0.threads in
    let few = (recorded_thread_fits f.recorded fitted.within t (omega (arith, l, same))).few_events in
    omega (arith, long, few)

-- where a search found that the steps from `step` on begin
pub partition_by_step_test : (xs : List ℕ) (step n : ℕ) → IsPartitionPoint (λ (i : ℕ). ltb i step ≡ true) (λ i. ltb i step ≡ false) xs n
    → IsPartitionPoint (λ (i : ℕ). i < step) (λ i. step ≤ i) xs n
partition_by_step_test xs step n h = (λ k d low lt. ltb-true _ step (h.0 k d low lt), λ k d low lt. ltb-false _ step (h.1 k d low lt))

-- ---- the past

-- so many events of the first n threads are steps of a cut, event p left out
pub record IsPastSoFar (f : FittedTrace) (p : Place) (cut counts : List ℕ) (n : ℕ) : Type 0 where
  pub size : length counts ≡ n
  pub each : (u m : ℕ) → slice_get counts u ≡ Some m → AreBefore f u (cut_of cut u) (m + itself p u)

pub past_so_far_at_start : (f : FittedTrace) (p : Place) (cut : List ℕ) → IsPastSoFar f p cut [] 0
past_so_far_at_start f p cut = record { size = refl; each = λ u m is. absurd (none-some m is) }

pub past_next_thread : (f : FittedTrace) (p : Place) (cut counts : List ℕ) (n count : ℕ) → IsPastSoFar f p cut counts n
    → AreBefore f n (cut_of cut n) (count + itself p n) → IsPastSoFar f p cut (counts ++ count ∷ []) (n + 1)
past_next_thread f p cut counts n count h own = record {
  size = length_of_append_item counts count ∙ ap (λ k. k + 1) h.size;
  each = λ u m is. elim (slice_get_append_cases counts (count ∷ []) u m is) [
    | inl before ↦ h.each u m before
    | inr here ↦ last u m here.0 here.1 here.2
  ];
}
  where
    last : (u m k : ℕ) → u ≡ length counts + k → slice_get (count ∷ []) k ≡ Some m → AreBefore f u (cut_of cut u) (m + itself p u)
    last u m zero e is =
        let same : u ≡ n = let size = h.size in omega (arith, e, size) in
        subst (λ z. AreBefore f z (cut_of cut z) (m + itself p z)) (sym same)
        (subst (λ z. AreBefore f n (cut_of cut n) (z + itself p n)) (same_Some count m is) own)
    last u m (suc k) e is = absurd (none-some m is)

-- ---- waits

-- what a link names is among the steps of the run
pub link_is_inside : (f : FittedTrace) → HasRun f → (boxes : List PlacedBox) (t i : ℕ) (l : Link) → IsInside f t i → IsLink f.recorded boxes t i l
    → IsInside f l.waiting.thread l.waiting.event × IsInside f l.needed.thread l.needed.event
link_is_inside f h boxes t i l inside link =
    let here = inside_is_of_trace f h t i inside in
    let there = linked_event_exists f.recorded boxes t i l link in
    let by = link.waiting.by in (
      subst (λ z. IsInside f z l.waiting.event) (sym link.thread) (trace_event_is_inside f h t l.waiting.event here.0 (omega (arith, by, here.1))),
      trace_event_is_inside f h l.needed.thread l.needed.event there.0 there.1,
    )

-- an event that another thread's event needs is left
pub needed_event_is_left : (f : FittedTrace) → HasRun f → (t i u j : ℕ) → NeedsOther f.recorded t i u j → (k : ℕ) × IsLeaveOf f u j k
needed_event_is_left f h t i u j (inl maker, other) = entering_event_has_leave f h u j maker.object (Write maker.object maker.version maker.readers) maker.made refl
needed_event_is_left f h t i u j (inr reader, other) = entering_event_has_leave f h u j reader.object (Read reader.object reader.version) reader.read refl

-- what is found of a trace is of the run that has it
pub found_link_is_of_run : (f : FittedTrace) (r : Recorded) → r ≡ f.recorded → (boxes : List PlacedBox) (t i : ℕ) (found : Option Link) (l : Link) → found ≡ Some l
    → MatchOption found (WaitsForNone r t i) (IsLink r boxes t i) → IsLink f.recorded boxes t i l
found_link_is_of_run f r same boxes t i found l is h = subst (λ (x : Recorded). IsLink x boxes t i l) same
    (subst (λ (x : Option Link). MatchOption x (WaitsForNone r t i) (IsLink r boxes t i)) is h)

pub waits_for_none_in_run : (f : FittedTrace) (r : Recorded) → r ≡ f.recorded → (boxes : List PlacedBox) (t i : ℕ) (found : Option Link) → found ≡ None
    → MatchOption found (WaitsForNone r t i) (IsLink r boxes t i) → WaitsForNone f.recorded t i
waits_for_none_in_run f r same boxes t i found is h = subst (λ (x : Recorded). WaitsForNone x t i) same
    (subst (λ (x : Option Link). MatchOption x (WaitsForNone r t i) (IsLink r boxes t i)) is h)

-- what a wait needs is among the steps of the run, and is logged before it is left
pub needed_event_is_inside : (f : FittedTrace) (l : Link) (w : Wait) → IsWait f l w → IsInside f l.needed.thread l.needed.event → IsInside f w.needed.thread w.needed.event
needed_event_is_inside f l w h inside = subst (λ (p : Place). IsInside f p.thread p.event) (sym h.needed) inside

pub needed_before_leave : (f : FittedTrace) (l : Link) (w : Wait) → IsWait f l w → event_entry f w.needed.thread w.needed.event < w.left
needed_before_leave f l w h = subst (λ (p : Place). event_entry f p.thread p.event < w.left) (sym h.needed)
    (let past = leave_is_past_event f l.needed.thread l.needed.event w.left h.left.leaves in omega (arith, past))

-- the waits so far, with waits from event i of thread t on, are a chain
abbrev pub WaitsGoOn : FittedTrace → List PlacedBox → ℕ → Place → List Wait → ℕ → Place → Type 0
WaitsGoOn f boxes n here waits m last = (ws : List Wait) → AreWaits f boxes m last.thread last.event ws
    → AreWaits f boxes n here.thread here.event (waits ++ ws)

pub waits_go_on_by_no_wait : (f : FittedTrace) (boxes : List PlacedBox) (n : ℕ) (here : Place) → WaitsGoOn f boxes n here [] n here
waits_go_on_by_no_wait f boxes n here = λ ws h. h

pub waits_go_on_by_wait : (f : FittedTrace) (boxes : List PlacedBox) (n : ℕ) (here : Place) (waits : List Wait) (m k : ℕ) (last next : Place) (w : Wait)
    → WaitsGoOn f boxes n here waits m last → m ≡ suc k → IsWaitFrom f boxes last.thread last.event w → next.thread ≡ w.needed.thread
    → IsLastBefore f w.needed.thread w.left next.event → WaitsGoOn f boxes n here (waits ++ w ∷ []) k next
waits_go_on_by_wait f boxes n here waits m k last next w h is wait same before = λ ws rest.
    subst (λ (xs : List Wait). AreWaits f boxes n here.thread here.event xs) (sym (append_assoc waits (w ∷ []) ws))
    (h (w ∷ ws) (
      omega (arith, is),
      wait,
      (
        next.event,
        before,
        subst (λ z. AreWaits f boxes z w.needed.thread next.event ws) (let less : k ≡ m - 1 = omega (arith, is) in less)
            (subst (λ z. AreWaits f boxes k z next.event ws) same rest),
      ),
    ))

pub are_waits_if_chain_ends : (f : FittedTrace) (boxes : List PlacedBox) (n : ℕ) (here : Place) (waits : List Wait) (m : ℕ) (last : Place)
    → WaitsGoOn f boxes n here waits m last → (m ≡ 0) ⊎ WaitsForNone f.recorded last.thread last.event → AreWaits f boxes n here.thread here.event waits
are_waits_if_chain_ends f boxes n here waits m last h done =
    subst (λ (xs : List Wait). AreWaits f boxes n here.thread here.event xs) (append-nil waits) (h [] done)
