-- The read entries of a version, event by event.
use Rattle.std.proofs.Common.{◌≡◌, ℕ, ◌+◌, ◌<◌, ◌≤◌, inl, inr, Some, List, [], ◌∷◌, ◌++◌, length, refl, sym, ap, ◌∙◌, subst, arith}
use Rattle.std.proofs.lemmas.Bool.{cases_eq}
use Rattle.std.proofs.lemmas.Option.{same_Some, none-some, slice_get_within}
use Rattle.ir_lemmas.proofs.CallerLemmas.{added_element_is_last, slice_get-push_cases, slice_get_push_earlier}
use Rattle.ir_log.specs.declared.event.Event.{Event}
use Rattle.ir_log.specs.declared.event.Event.TheVariants as variant
use Rattle.ir_trace.specs.Recorded.{Recorded, recorded_thread}
use Rattle.ir_coherence.specs.Before.{IsBefore}
use Rattle.ir_past.specs.Past.{event_at, IsReadAt, HasPlace, AreReaders}
use Rattle.ir_past.specs.Progress.{ReadBefore}
use Rattle.ir_past.specs.declared.place.Place.{Place}
use Rattle.ir_past.proofs.Rows.{before_next_event, before_next_event_cases, before_next_thread, event_thread_exists}

pub nothing_before_first : (u j : ℕ) → IsBefore u j 0 0 → ⊥
nothing_before_first u j (inl less) = omega (arith, less)
nothing_before_first u j (inr here) = omega (arith, here.1)

pub none_read_before_first : (r : Recorded) (o v : ℕ) → ReadBefore r o v 0 0 []
none_read_before_first r o v = record {
  sound = λ k p is. absurd (none-some p is);
  before = λ k p is. absurd (none-some p is);
  complete = λ u i is b. absurd (nothing_before_first u i b);
  rising = λ a b p q less is other. absurd (none-some p is);
}

-- an event that is no such entry
pub read_before_no_read : (r : Recorded) (o v t n : ℕ) (places : List Place) (e : Event) → event_at r t n ≡ Some e → (e ≡ variant.Read o v → ⊥)
    → ReadBefore r o v t n places → ReadBefore r o v t (n + 1) places
read_before_no_read r o v t n places e at ne h = record {
  sound = h.sound;
  before = λ k p is. before_next_event p.thread p.event t n (h.before k p is);
  complete = λ u i is b. elim (before_next_event_cases u i t n b) [
    | inl less ↦ h.complete u i is less
    | inr here ↦ absurd (ne (same_Some e (variant.Read o v) (sym at
        ∙ subst (λ z. event_at r z n ≡ Some (variant.Read o v)) here.0 (subst (λ z. event_at r u z ≡ Some (variant.Read o v)) here.1 is))))
  ];
  rising = h.rising;
}

-- such an entry
pub read_before_with_read : (r : Recorded) (o v : ℕ) (p : Place) (places : List Place) → IsReadAt r p.thread p.event o v
    → ReadBefore r o v p.thread p.event places → ReadBefore r o v p.thread (p.event + 1) (places ++ p ∷ [])
read_before_with_read r o v p places at h = record {
  sound = λ k q is. elim (slice_get-push_cases places p k q is) [
    | inl old ↦ h.sound k q old
    | inr new ↦ subst (λ (z : Place). IsReadAt r z.thread z.event o v) new.1 at
  ];
  before = λ k q is. elim (slice_get-push_cases places p k q is) [
    | inl old ↦ before_next_event q.thread q.event p.thread p.event (h.before k q old)
    | inr new ↦ subst (λ (z : Place). IsBefore z.thread z.event p.thread (p.event + 1)) new.1 (inr (refl, omega arith))
  ];
  complete = λ u i is b. elim (before_next_event_cases u i p.thread p.event b) [
    | inl less ↦ has_more u i (h.complete u i is less)
    | inr here ↦ record { number = length places; place = p; there = added_element_is_last places p; thread = sym here.0; event = sym here.1 }
  ];
  rising = λ a b x z less first second. elim (slice_get-push_cases places p b z second) [
    | inl old ↦ elim (slice_get-push_cases places p a x first) [
      | inl both ↦ h.rising a b x z less both old
      | inr new ↦ absurd (omega (arith, less, new.0, slice_get_within places b z old))
    ]
    | inr new ↦ elim (slice_get-push_cases places p a x first) [
      | inl old ↦ subst (λ (k : Place). IsBefore x.thread x.event k.thread k.event) new.1 (h.before a x old)
      | inr same ↦ absurd (omega (arith, less, same.0, new.0))
    ]
  ];
}
  where
    has_more : (u i : ℕ) → HasPlace places u i → HasPlace (places ++ p ∷ []) u i
    has_more u i has = record {
      number = has.number;
      place = has.place;
      there = slice_get_push_earlier places p has.place has.number has.there;
      thread = has.thread;
      event = has.event;
    }

-- all events of a thread
pub read_before_next_thread : (r : Recorded) (o v t n : ℕ) (places : List Place) → length (recorded_thread r t).events ≤ n → ReadBefore r o v t n places
    → ReadBefore r o v (t + 1) 0 places
read_before_next_thread r o v t n places all h = record {
  sound = h.sound;
  before = λ k p is. before_next_thread p.thread p.event t n (h.before k p is);
  complete = λ u i is b. elim (cases_eq u t) [
    | inl here ↦ h.complete u i is (inr (here, within u i here is))
    | inr ne ↦ h.complete u i is (inl (below u i ne b))
  ];
  rising = h.rising;
}
  where
    within : (u i : ℕ) → u ≡ t → IsReadAt r u i o v → i < n
    within u i here is =
        omega (arith, slice_get_within (recorded_thread r u).events i _ is, ap (λ z. length (recorded_thread r z).events) here, all)

    below : (u j : ℕ) → (u ≡ t → ⊥) → IsBefore u j (t + 1) 0 → u < t
    below u j ne (inl less) = omega (arith, less, ne)
    below u j ne (inr here) = absurd (omega (arith, here.1))

-- all threads
pub read_to_end_readers : (r : Recorded) (o v n : ℕ) (places : List Place) → length r.threads ≤ n → ReadBefore r o v n 0 places → AreReaders r o v places
read_to_end_readers r o v n places all h = record {
  sound = h.sound;
  complete = λ t i is. h.complete t i is (inl (omega (arith, event_thread_exists r t i _ is, all)));
  rising = h.rising;
}
