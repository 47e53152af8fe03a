-- A past that is gathered, event by event.
use Rattle.std.proofs.Common.{◌≡◌, ◌≢◌, ℕ, suc, zero, ◌+◌, ◌-◌, ◌<◌, ◌≤◌, inl, inr, Some, List, [], ◌∷◌, length, get_or, replicate, slice_set, refl, sym, ap, ◌∙◌, subst, arith}
use Rattle.std.specs.Prelude.{slice_get}
use Rattle.std.proofs.lemmas.Bool.{cases_eq, cases_lt}
use Rattle.std.proofs.lemmas.List.{get_or_past}
use Rattle.std.proofs.lemmas.Option.{same_Some, slice_get_within}
use Rattle.ir_lemmas.proofs.CallerLemmas.{get_or-zeros}
use Rattle.ir_runs.proofs.CallerLemmas.{sum_below_less}
use Rattle.ir_coherence.proofs.CallerLemmas.{recorded_thread_fits}
use Rattle.ir_trace.specs.Recorded.{Recorded, recorded_thread}
use Rattle.ir_trace.specs.Bounds.{IsRecorded}
use Rattle.ir_past.specs.declared.place.Place.{Place}
use Rattle.ir_past.proofs.CallerLemmas.{event_thread_exists}
use Rattle.ir_why.specs.Needed.{NeedsOther, AreNeeds}
use Rattle.ir_why.specs.Before.{IsPast}
use Rattle.ir_why.specs.Tables.{AreThere, AreRaised, IsGathered, HaveRisen, unscanned}

-- ---- a number of a list that is set

pub get_or_set_zero_own : (xs : List ℕ) (i v : ℕ) → i < length xs → get_or (slice_set xs i v) i 0 ≡ v
get_or_set_zero_own [] i v l = absurd (omega arith)
get_or_set_zero_own (x ∷ xs) zero v l = refl
get_or_set_zero_own (x ∷ xs) (suc i) v l = get_or_set_zero_own xs i v (omega arith)

pub get_or_set_zero_other : (xs : List ℕ) (i o v : ℕ) → (i ≡ o → ⊥) → get_or (slice_set xs i v) o 0 ≡ get_or xs o 0
get_or_set_zero_other [] i o v ne = refl
get_or_set_zero_other (x ∷ xs) zero zero v ne = absurd (ne refl)
get_or_set_zero_other (x ∷ xs) zero (suc o) v ne = refl
get_or_set_zero_other (x ∷ xs) (suc i) zero v ne = refl
get_or_set_zero_other (x ∷ xs) (suc i) (suc o) v ne = get_or_set_zero_other xs i o v (λ e. ne (ap suc e))

pub length_of_set : (xs : List ℕ) (i v : ℕ) → length (slice_set xs i v) ≡ length xs
length_of_set [] i v = refl
length_of_set (x ∷ xs) zero v = refl
length_of_set (x ∷ xs) (suc i) v = ap suc (length_of_set xs i v)

-- what is at a place of a list
pub place_is_get_or : (places : List Place) (n : ℕ) (d : Place) → n < length places → slice_get places n ≡ Some (get_or places n d)
place_is_get_or [] n d l = absurd (omega arith)
place_is_get_or (x ∷ xs) zero d l = refl
place_is_get_or (x ∷ xs) (suc n) d l = place_is_get_or xs n d (omega arith)

-- ---- counts that rise

pub raised_by_no_event : (old : List ℕ) (places : List Place) → AreRaised old old places 0
raised_by_no_event old places = record {
  size = refl;
  above = λ u. omega arith;
  has = λ k p less is. absurd (omega (arith, less));
  least = λ d below has u. below u;
}

-- one more event: its thread's count rises to the least that has it
pub raised_by_next_event : (old now : List ℕ) (places : List Place) (n c : ℕ) (p : Place) → AreRaised old now places n → slice_get places n ≡ Some p
    → p.thread < length now → get_or now p.thread 0 ≤ c → p.event < c → ((d : ℕ) → get_or now p.thread 0 ≤ d → p.event < d → c ≤ d)
    → AreRaised old (slice_set now p.thread c) places (n + 1)
raised_by_next_event old now places n c p h at within above more least = record {
  size = length_of_set now p.thread c ∙ h.size;
  above = λ u. let before = h.above u in let after = rise u in omega (arith, before, after);
  has = λ k q less is. elim (cases_eq k n) [
    | inl here ↦ let same : p ≡ q = same_Some p q (sym at ∙ subst (λ z. slice_get places z ≡ Some q) here is) in
        subst (λ (z : Place). z.event < get_or (slice_set now p.thread c) z.thread 0) same
        (let set = get_or_set_zero_own now p.thread c within in omega (arith, set, more))
    | inr ne ↦ let own = h.has k q (omega (arith, less, ne)) is in let after = rise q.thread in omega (arith, own, after)
  ];
  least = λ d below has u. elim (cases_eq p.thread u) [
    | inl here ↦ let set = get_or_set_zero_own now p.thread c within in
        let bound = least (d p.thread) (h.least d below (λ k q less is. has k q (omega (arith, less)) is) p.thread) (has n p (omega arith) at) in
        subst (λ z. get_or (slice_set now p.thread c) z 0 ≤ d z) here (omega (arith, set, bound))
    | inr ne ↦ let set = get_or_set_zero_other now p.thread u c ne in
        let bound = h.least d below (λ k q less is. has k q (omega (arith, less)) is) u in omega (arith, set, bound)
  ];
}
  where
    rise : (u : ℕ) → get_or now u 0 ≤ get_or (slice_set now p.thread c) u 0
    rise u = elim (cases_eq p.thread u) [
      | inl here ↦ subst (λ z. get_or now z 0 ≤ get_or (slice_set now p.thread c) z 0) here
          (let set = get_or_set_zero_own now p.thread c within in omega (arith, set, above))
      | inr ne ↦ let set = get_or_set_zero_other now p.thread u c ne in omega (arith, set)
    ]

-- ---- a past

-- an event that is needed is there
pub needed_event_exists : (r : Recorded) (t i u j : ℕ) → NeedsOther r t i u j → (u < length r.threads) × (j < length (recorded_thread r u).events)
needed_event_exists r t i u j (inl maker, other) =
    (event_thread_exists r u j _ maker.made, slice_get_within (recorded_thread r u).events j _ maker.made)
needed_event_exists r t i u j (inr reader, other) =
    (event_thread_exists r u j _ reader.read, slice_get_within (recorded_thread r u).events j _ reader.read)

-- what an event of a recorded trace needs is there
pub needed_events_exist : (r : Recorded) (t i : ℕ) (needs : List Place) → IsRecorded r → AreNeeds r t i needs → AreThere r needs
needed_events_exist r t i needs recorded need = λ k p is.
    let there = needed_event_exists r t i p.thread p.event (need.sound k p is) in
    let few = (recorded_thread_fits r recorded p.thread there.0).few_events in
    (there.0, there.1, omega (arith, there.1, few))

-- the next event of thread u is scanned
pub gathered_step : (r : Recorded) (t i u k : ℕ) (counts scanned new : List ℕ) (needs : List Place) → IsGathered r t i counts scanned
    → u < length r.threads → get_or scanned u 0 ≡ k → k ≢ get_or counts u 0 → AreNeeds r u k needs
    → AreRaised counts new needs (length needs) → IsGathered r t i new (slice_set scanned u (k + 1))
gathered_step r t i u k counts scanned new needs h within at less need raised = record {
  size = raised.size ∙ h.size;
  sizes = length_of_set scanned u (k + 1) ∙ h.sizes;
  own = let above = raised.above t in let own = h.own in omega (arith, above, own);
  needs = λ v j n. let own = h.needs v j n in let above = raised.above v in omega (arith, own, above);
  closed = λ v m w j below n. elim (cases_eq u v) [
    | inl here ↦ elim (cases_eq m k) [
      | inl same ↦ fresh w j (subst (λ z. NeedsOther r u z w j) same (subst (λ z. NeedsOther r z m w j) (sym here) n))
      | inr ne ↦ old v m w j (earlier v m here ne below) n
    ]
    | inr ne ↦ let set = get_or_set_zero_other scanned u v (k + 1) ne in old v m w j (omega (arith, set, below)) n
  ];
  behind = λ v. elim (cases_eq u v) [
    | inl here ↦ subst (λ z. get_or (slice_set scanned u (k + 1)) z 0 ≤ get_or new z 0) here
        (let set = get_or_set_zero_own scanned u (k + 1) inside in let above = raised.above u in omega (arith, set, above, under))
    | inr ne ↦ let set = get_or_set_zero_other scanned u v (k + 1) ne in let above = raised.above v in let own = h.behind v in omega (arith, set, above, own)
  ];
  within = raised.least (λ v. length (recorded_thread r v).events) h.within
      (λ m p l is. (needed_event_exists r u k p.thread p.event (need.sound m p is)).1);
  least = λ d own others all. raised.least d (h.least d own others all)
      (λ m p l is. all u k p.thread p.event (let bound = h.least d own others all u in omega (arith, bound, under)) (need.sound m p is));
}
  where
    inside : u < length scanned
    inside = let size = h.sizes in omega (arith, size, within)

    under : k < get_or counts u 0
    under = let own = h.behind u in omega (arith, own, at, less)

    fresh : (w j : ℕ) → NeedsOther r u k w j → j < get_or new w 0
    fresh w j n =
        let place = need.complete w j n in
        let has = raised.has place.number place.place (slice_get_within needs place.number place.place place.there) place.there in
        subst (λ z. j < get_or new z 0) place.thread (subst (λ z. z < get_or new place.place.thread 0) place.event has)

    old : (v m w j : ℕ) → m < get_or scanned v 0 → NeedsOther r v m w j → j < get_or new w 0
    old v m w j below n = let own = h.closed v m w j below n in let above = raised.above w in omega (arith, own, above)

    earlier : (v m : ℕ) → u ≡ v → m ≢ k → m < get_or (slice_set scanned u (k + 1)) v 0 → m < get_or scanned v 0
    earlier v m here ne below = subst (λ z. m < get_or scanned z 0) here
        (let set = get_or_set_zero_own scanned u (k + 1) inside in
        let less = subst (λ z. m < get_or (slice_set scanned u (k + 1)) z 0) (sym here) below in
        omega (arith, set, less, at, ne))

-- an event's own past, and what it needs
pub gathered_at_start : (r : Recorded) (t i : ℕ) (blank new none : List ℕ) (needs : List Place) → blank ≡ replicate (length r.threads) 0
    → none ≡ replicate (length r.threads) 0 → length blank ≡ length r.threads → length none ≡ length r.threads → t < length r.threads
    → i < length (recorded_thread r t).events → AreNeeds r t i needs → AreRaised (slice_set blank t i) new needs (length needs)
    → IsGathered r t i new none
gathered_at_start r t i blank new none needs is_blank is_none size sizes within event need raised = record {
  size = raised.size ∙ length_of_set blank t i ∙ size;
  sizes = sizes;
  own = let above = raised.above t in let set = get_or_set_zero_own blank t i inside in omega (arith, above, set);
  needs = λ w j x. let place = need.complete w j x in
      let has = raised.has place.number place.place (slice_get_within needs place.number place.place place.there) place.there in
      subst (λ z. j < get_or new z 0) place.thread (subst (λ z. z < get_or new place.place.thread 0) place.event has);
  closed = λ u k v j below x. let zero_at = nothing none is_none u in absurd (omega (arith, zero_at, below));
  behind = λ u. let zero_at = nothing none is_none u in omega (arith, zero_at);
  within = raised.least (λ v. length (recorded_thread r v).events) (λ v. first v (λ z. length (recorded_thread r z).events) (omega (arith, event)))
      (λ m p l is. (needed_event_exists r t i p.thread p.event (need.sound m p is)).1);
  least = λ d own others all. raised.least d (λ v. first v d own) (λ m p l is. others p.thread p.event (need.sound m p is));
}
  where
    nothing : (xs : List ℕ) → xs ≡ replicate (length r.threads) 0 → (u : ℕ) → get_or xs u 0 ≡ 0
    nothing xs is u = ap (λ (z : List ℕ). get_or z u 0) is ∙ get_or-zeros (length r.threads) u

    inside : t < length blank
    inside = omega (arith, size, within)

    first : (v : ℕ) (d : ℕ → ℕ) → i ≤ d t → get_or (slice_set blank t i) v 0 ≤ d v
    first v d own = elim (cases_eq t v) [
      | inl here ↦ subst (λ z. get_or (slice_set blank t i) z 0 ≤ d z) here
          (let set = get_or_set_zero_own blank t i inside in omega (arith, set, own))
      | inr ne ↦ let set = get_or_set_zero_other blank t v i ne in let zero_at = nothing blank is_blank v in omega (arith, set, zero_at)
    ]

-- all is scanned
pub all_scanned_is_past : (r : Recorded) (t i : ℕ) (counts scanned : List ℕ) → IsGathered r t i counts scanned
    → ((u : ℕ) → u < length r.threads → get_or scanned u 0 ≡ get_or counts u 0) → IsPast r t i counts
all_scanned_is_past r t i counts scanned h all = record {
  size = h.size;
  has = record { own = h.own; needs = h.needs; closed = λ u k v j below n. h.closed u k v j (by u k below) n };
  least = λ d past. h.least d past.own past.needs past.closed;
  within = h.within;
}
  where
    by : (u k : ℕ) → k < get_or counts u 0 → k < get_or scanned u 0
    by u k below = elim (cases_lt u (length r.threads)) [
      | inl there ↦ let same = all u there in omega (arith, same, below)
      | inr past ↦ let none = get_or_past counts u 0 (let size = h.size in omega (arith, size, past)) in absurd (omega (arith, none, below))
    ]

-- one thread's number has risen, and none has fallen: less is left to scan
pub unscanned_falls : (r : Recorded) (old new : List ℕ) (t : ℕ) → HaveRisen old new → t < length r.threads → get_or old t 0 < get_or new t 0
    → get_or new t 0 ≤ length (recorded_thread r t).events → unscanned r new < unscanned r old
unscanned_falls r old new t risen within more most = sum_below_less (length r.threads) t
    (λ u. length (recorded_thread r u).events - get_or new u 0) (λ u. length (recorded_thread r u).events - get_or old u 0)
    within (omega (arith, more, most)) (λ u. let own = risen u in omega (arith, own))
