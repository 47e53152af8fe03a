-- The boxes of a trace, event by event.
use Rattle.std.proofs.Common.{◌≡◌, ℕ, suc, ◌+◌, ◌-◌, ◌*◌, ◌<◌, ◌≤◌, inl, inr, true, false, Some, List, [], ◌∷◌, ◌++◌, length, get_or, slice_set, refl, sym, ap, ◌∙◌, subst, arith, length-append}
use Rattle.std.specs.Prelude.{slice_get}
use Rattle.std.proofs.lemmas.Bool.{cases_eq, cases_lt}
use Rattle.std.proofs.lemmas.List.{get_or_past}
use Rattle.std.proofs.lemmas.Option.{same_Some, none-some, slice_get_within, slice_get_read}
use Rattle.ir_lemmas.proofs.CallerLemmas.{added_element_is_last, slice_get-push_cases, slice_get_push_earlier, suc_is_plus_one}
use Rattle.ir_thread.specs.State.{most_events}
use Rattle.ir_trace.specs.Recorded.{Recorded, RecordedThread, recorded_thread}
use Rattle.ir_trace.specs.Absent.{absent}
use Rattle.ir_coherence.specs.Before.{IsBefore}
use Rattle.ir_picture.specs.Boxes.{AreFolded, IsInBox, HasBox, IsBox, AreBoxes}
use Rattle.ir_picture.specs.Boxing.{IsFold, EndsBy, HasLastBox, BoxedBefore}
use Rattle.ir_picture.specs.declared.event_box.EventBox.{EventBox}
use Rattle.ir_picture.proofs.Lists.{slice_get_after_set, slice_get_set_elsewhere, slice_get_set_split, length_of_slice_set}
use Rattle.ir_past.proofs.CallerLemmas.{nothing_before_first, before_next_event_cases}

pub box_ends_by_next : (b : EventBox) (t n : ℕ) → EndsBy b t n → EndsBy b t (n + 1)
box_ends_by_next b t n (inl less) = inl less
box_ends_by_next b t n (inr here) = inr (here.0, omega (arith, here.1))

pub boxed_before_first : (r : Recorded) → BoxedBefore r 0 0 []
boxed_before_first r = record {
  each = λ k b is. absurd (none-some b is);
  before = λ k b is. absurd (none-some b is);
  all = λ u i within b. absurd (nothing_before_first u i b);
  apart = λ k m a b less is other. absurd (none-some a is);
  joined = λ k u i b is. absurd (none-some b is);
  last = tt;
  few = omega arith;
}

-- an event that is in a box of its own
pub boxed_before_new_box : (r : Recorded) (t n : ℕ) (boxes : List EventBox) (new : EventBox) → new.thread ≡ t → new.event ≡ n → new.count ≡ 1 → t < length r.threads
    → n < length (recorded_thread r t).events → IsFold (recorded_thread r t).events n false → BoxedBefore r t n boxes
    → BoxedBefore r t (n + 1) (boxes ++ new ∷ [])
boxed_before_new_box r t n boxes new thread event count there within fold h = record {
  each = λ k b is. elim (slice_get-push_cases boxes new k b is) [
    | inl old ↦ h.each k b old
    | inr now ↦ subst (IsBox r) now.1 (record {
      thread = omega (arith, thread, there);
      some = omega (arith, count);
      within = omega (arith, event, count, within, ap (λ z. length (recorded_thread r z).events) thread);
      folds = λ i from below. absurd (omega (arith, from, below, event, count));
    })
  ];
  before = λ k b is. elim (slice_get-push_cases boxes new k b is) [
    | inl old ↦ box_ends_by_next b t n (h.before k b old)
    | inr now ↦ subst (λ (x : EventBox). EndsBy x t (n + 1)) now.1 (inr (thread, omega (arith, event, count)))
  ];
  all = λ u i inside b. elim (before_next_event_cases u i t n b) [
    | inl less ↦ has_more u i (h.all u i inside less)
    | inr here ↦ record {
      number = length boxes;
      box = new;
      there = added_element_is_last boxes new;
      has = record {
        thread = omega (arith, thread, here.0);
        from = omega (arith, event, here.1);
        below = omega (arith, event, count, here.1);
      };
    }
  ];
  apart = λ k m a b less first second. elim (slice_get-push_cases boxes new m b second) [
    | inl old ↦ elim (slice_get-push_cases boxes new k a first) [
      | inl both ↦ h.apart k m a b less both old
      | inr now ↦ absurd (omega (arith, less, now.0, slice_get_within boxes m b old))
    ]
    | inr now ↦ elim (slice_get-push_cases boxes new k a first) [
      | inl old ↦ subst (λ (x : EventBox). EndsBy a x.thread x.event) now.1
          (subst (λ z. EndsBy a z new.event) (sym thread) (subst (EndsBy a t) (sym event) (h.before k a old)))
      | inr same ↦ absurd (omega (arith, less, same.0, now.0))
    ]
  ];
  joined = λ k u i b is has folded b4. elim (slice_get-push_cases boxes new k b is) [
    | inl old ↦ elim (before_next_event_cases u (suc i) t n b4) [
      | inl less ↦ h.joined k u i b old has folded less
      | inr here ↦ absurd (fold i (sym here.1)
          (subst (λ z. AreFolded (recorded_thread r z).events i n) here.0 (subst (AreFolded (recorded_thread r u).events i) here.1 folded)))
    ]
    | inr now ↦ absurd (elim b4 [
      | inl less ↦ omega (arith, less, has.thread, thread, ap (λ (x : EventBox). x.thread) now.1)
      | inr here ↦ omega (arith, here.1, has.from, event, ap (λ (x : EventBox). x.event) now.1)
    ])
  ];
  last = subst (HasLastBox (boxes ++ new ∷ []) t) (suc_is_plus_one n) last_new;
  few = omega (arith, h.few, length-append boxes (new ∷ []));
}
  where
    has_more : (u i : ℕ) → HasBox boxes u i → HasBox (boxes ++ new ∷ []) u i
    has_more u i has = record { number = has.number; box = has.box; there = slice_get_push_earlier boxes new has.box has.number has.there; has = has.has }

    last_new : HasLastBox (boxes ++ new ∷ []) t (suc n)
    last_new = (
      length boxes,
      new,
      omega (arith, length-append boxes (new ∷ [])),
      added_element_is_last boxes new,
      record { thread = thread; from = omega (arith, event); below = omega (arith, event, count) },
    )

-- the last box, where an event is folded with the one before
pub last_box_ends_at_folded : (r : Recorded) (t n : ℕ) (boxes : List EventBox) → IsFold (recorded_thread r t).events n true → BoxedBefore r t n boxes
    → (k : ℕ) × (b : EventBox) × (length boxes ≡ suc k) × (slice_get boxes k ≡ Some b) × (b.thread ≡ t) × (b.event + b.count ≡ n) × (1 ≤ b.count)
last_box_ends_at_folded r t n boxes fold h =
    let last : HasLastBox boxes t (suc fold.0) = subst (HasLastBox boxes t) fold.1 h.last in
    let has = last.4 in
    (last.0, last.1, last.2, last.3, has.thread, ends last.1 has (h.before last.0 last.1 last.3), (h.each last.0 last.1 last.3).some)
  where
    ends : (b : EventBox) → IsInBox b t fold.0 → EndsBy b t n → b.event + b.count ≡ n
    ends b has (inl less) = absurd (omega (arith, less, has.thread))
    ends b has (inr by) = omega (arith, by.1, has.below, fold.1)

-- an event that joins the last box
pub boxed_before_joined : (r : Recorded) (t n k : ℕ) (boxes : List EventBox) (b new : EventBox) → length boxes ≡ suc k → slice_get boxes k ≡ Some b
    → b.thread ≡ t → b.event + b.count ≡ n → new.thread ≡ b.thread → new.event ≡ b.event → new.count ≡ b.count + 1
    → n < length (recorded_thread r t).events → IsFold (recorded_thread r t).events n true → BoxedBefore r t n boxes
    → BoxedBefore r t (n + 1) (slice_set boxes k new)
boxed_before_joined r t n k boxes b new long at thread ends thread_new event_new count_new within fold h = record {
  each = λ m a is. elim (slice_get_set_split boxes k m new a inside is) [
    | inl now ↦ subst (IsBox r) now.1 (record {
      thread = omega (arith, thread_new, box.thread);
      some = omega (arith, count_new);
      within = omega (
        arith,
        event_new,
        count_new,
        ends,
        within,
        ap (λ z. length (recorded_thread r z).events) thread,
        ap (λ z. length (recorded_thread r z).events) thread_new,
      );
      folds = λ i from below. elim (cases_lt (suc i) (b.event + b.count)) [
        | inl less ↦ subst (λ z. AreFolded (recorded_thread r z).events i (suc i)) (sym thread_new) (box.folds i (omega (arith, from, event_new)) less)
        | inr not ↦
            let here : fold.0 ≡ i = omega (arith, not, below, event_new, count_new, ends, fold.1) in
            let next : n ≡ suc i = omega (arith, here, fold.1) in
            subst (λ z. AreFolded (recorded_thread r z).events i (suc i)) (sym (thread_new ∙ thread))
            (subst (λ z. AreFolded (recorded_thread r t).events i z) next (subst (λ z. AreFolded (recorded_thread r t).events z n) here fold.2))
      ];
    })
    | inr old ↦ h.each m a old.1
  ];
  before = λ m a is. elim (slice_get_set_split boxes k m new a inside is) [
    | inl now ↦ subst (λ (x : EventBox). EndsBy x t (n + 1)) now.1 (inr (thread_new ∙ thread, omega (arith, event_new, count_new, ends)))
    | inr old ↦ box_ends_by_next a t n (h.before m a old.1)
  ];
  all = λ u i there b4. elim (before_next_event_cases u i t n b4) [
    | inl less ↦ has_more u i (h.all u i there less)
    | inr here ↦ record {
      number = k;
      box = new;
      there = slice_get_after_set boxes k new inside;
      has = record {
        thread = omega (arith, thread_new, thread, here.0);
        from = omega (arith, event_new, ends, here.1);
        below = omega (arith, event_new, count_new, ends, here.1);
      };
    }
  ];
  apart = λ m p x y less first second. elim (slice_get_set_split boxes k p new y inside second) [
    | inl now ↦ elim (slice_get_set_split boxes k m new x inside first) [
      | inl same ↦ absurd (omega (arith, less, now.0, same.0))
      | inr old ↦ subst (λ (z : EventBox). EndsBy x z.thread z.event) now.1
          (subst (λ z. EndsBy x z new.event) (sym thread_new) (subst (EndsBy x b.thread) (sym event_new)
          (h.apart m k x b (omega (arith, less, now.0)) old.1 at)))
    ]
    | inr other ↦ elim (slice_get_set_split boxes k m new x inside first) [
      | inl same ↦ absurd (omega (arith, less, same.0, slice_get_within boxes p y other.1, long))
      | inr old ↦ h.apart m p x y less old.1 other.1
    ]
  ];
  joined = λ m u i a is has folded b4. elim (slice_get_set_split boxes k m new a inside is) [
    | inl now ↦ subst (λ (x : EventBox). IsInBox x u (suc i)) now.1 (elim b4 [
      | inl less ↦ absurd (omega (arith, less, has.thread, thread_new, thread, ap (λ (x : EventBox). x.thread) now.1))
      | inr here ↦ record {
        thread = omega (arith, has.thread, ap (λ (x : EventBox). x.thread) now.1);
        from = omega (arith, has.from, ap (λ (x : EventBox). x.event) now.1);
        below = omega (arith, here.1, event_new, count_new, ends);
      }
    ])
    | inr old ↦ elim (before_next_event_cases u (suc i) t n b4) [
      | inl less ↦ h.joined m u i a old.1 has folded less
      | inr here ↦ absurd (elim (h.apart m k a b (omega (arith, old.0, slice_get_within boxes m a old.1, long)) old.1 at) [
        | inl less ↦ omega (arith, less, has.thread, here.0, thread)
        | inr by ↦ omega (arith, by.1, has.below, here.1, ends, box.some)
      ])
    ]
  ];
  last = subst (HasLastBox (slice_set boxes k new) t) (suc_is_plus_one n) last_new;
  few = omega (arith, h.few, length_of_slice_set boxes k new);
}
  where
    inside : k < length boxes
    inside = omega (arith, long)

    box : IsBox r b
    box = h.each k b at

    has_more : (u i : ℕ) → HasBox boxes u i → HasBox (slice_set boxes k new) u i
    has_more u i has = elim (cases_eq k has.number) [
      | inl here ↦
          let same : b ≡ has.box = same_Some b has.box (sym at ∙ subst (λ z. slice_get boxes z ≡ Some has.box) (sym here) has.there) in
          record {
            number = k;
            box = new;
            there = slice_get_after_set boxes k new inside;
            has = record {
              thread = omega (arith, thread_new, has.has.thread, ap (λ (x : EventBox). x.thread) same);
              from = omega (arith, event_new, has.has.from, ap (λ (x : EventBox). x.event) same);
              below = omega (arith, event_new, count_new, has.has.below, ap (λ (x : EventBox). x.event) same, ap (λ (x : EventBox). x.count) same);
            };
          }
      | inr ne ↦ record { number = has.number; box = has.box; there = slice_get_set_elsewhere boxes k has.number new ne ∙ has.there; has = has.has }
    ]

    last_new : HasLastBox (slice_set boxes k new) t (suc n)
    last_new = (
      k,
      new,
      length_of_slice_set boxes k new ∙ long,
      slice_get_after_set boxes k new inside,
      record { thread = thread_new ∙ thread; from = omega (arith, event_new, ends); below = omega (arith, event_new, count_new, ends) },
    )

-- all events of a thread
pub boxed_before_thread : (r : Recorded) (t n : ℕ) (boxes : List EventBox) → length (recorded_thread r t).events ≤ n → n ≤ most_events → BoxedBefore r t n boxes
    → BoxedBefore r (t + 1) 0 boxes
boxed_before_thread r t n boxes all most h = record {
  each = h.each;
  before = λ k b is. elim (h.before k b is) [
    | inl less ↦ inl (omega (arith, less))
    | inr here ↦ inl (omega (arith, here.0))
  ];
  all = λ u i within b. elim (cases_eq u t) [
    | inl here ↦ h.all u i within (inr (here, omega (arith, within, all, ap (λ z. length (recorded_thread r z).events) here)))
    | inr ne ↦ h.all u i within (inl (below u i ne b))
  ];
  apart = h.apart;
  joined = λ k u i b is has folded b4. elim (cases_eq u t) [
    | inl here ↦ h.joined k u i b is has folded (inr (here, omega (arith, all, folded_there u i folded, ap (λ z. length (recorded_thread r z).events) here)))
    | inr ne ↦ h.joined k u i b is has folded (inl (below u (suc i) ne b4))
  ];
  last = tt;
  few = grind (arith, h.few, most);
}
  where
    below : (u j : ℕ) → (u ≡ t → ⊥) → IsBefore u j (t + 1) 0 → u < t
    below u j ne (inl less) = omega (arith, less, ne)
    below u j ne (inr here) = absurd (omega (arith, here.1))

    folded_there : (u i : ℕ) → AreFolded (recorded_thread r u).events i (suc i) → suc i < length (recorded_thread r u).events
    folded_there u i folded = elim folded.repeats [
      | inl reads ↦ slice_get_within (recorded_thread r u).events (suc i) _ reads.1.read
      | inr tries ↦ slice_get_within (recorded_thread r u).events (suc i) _ tries.1.«try»
    ]

-- all threads
pub boxed_to_end_are_boxes : (r : Recorded) (n : ℕ) (boxes : List EventBox) → n ≡ length r.threads → BoxedBefore r n 0 boxes → AreBoxes r boxes
boxed_to_end_are_boxes r n boxes all h = record {
  each = h.each;
  all = λ t i within. h.all t i within (inl (thread_there t i within));
  one = λ k m t i a b at_k at_m in_a in_b. elim (cases_lt k m) [
    | inl less ↦ absurd (not_two k m t i a b less at_k at_m in_a in_b)
    | inr not ↦ elim (cases_lt m k) [
      | inl more ↦ absurd (not_two m k t i b a more at_m at_k in_b in_a)
      | inr same ↦ omega (arith, not, same)
    ]
  ];
  joined = λ k t i b at has folded. h.joined k t i b at has folded (inl (omega (arith, has.thread, (h.each k b at).thread, all)));
  rising = λ k m a b less at_k at_m. elim (h.apart k m a b less at_k at_m) [
    | inl thread ↦ inl thread
    | inr by ↦ inr (by.0, omega (arith, by.1, (h.each k a at_k).some))
  ];
}
  where
    thread_there : (t i : ℕ) → i < length (recorded_thread r t).events → t < n
    thread_there t i less = elim (cases_lt t (length r.threads)) [
      | inl within ↦ omega (arith, within, all)
      | inr past ↦ absurd (omega (arith, less, ap (λ (x : RecordedThread). length x.events) (get_or_past r.threads t absent past)))
    ]

    not_two : (k m t i : ℕ) (a b : EventBox) → k < m → slice_get boxes k ≡ Some a → slice_get boxes m ≡ Some b → IsInBox a t i → IsInBox b t i → ⊥
    not_two k m t i a b less at_k at_m in_a in_b = elim (h.apart k m a b less at_k at_m) [
      | inl thread ↦ omega (arith, thread, in_a.thread, in_b.thread)
      | inr by ↦ omega (arith, by.1, in_a.below, in_b.from)
    ]

pub box_count_bound : (r : Recorded) (n : ℕ) (boxes : List EventBox) → n ≡ length r.threads → BoxedBefore r n 0 boxes
    → length boxes ≤ length r.threads * most_events
box_count_bound r n boxes all h = subst (λ z. length boxes ≤ z * most_events) all (omega (arith, h.few))

-- the same by the length of the list
pub boxed_before_last_join : (r : Recorded) (t n long : ℕ) (boxes : List EventBox) (own : EventBox) → long ≡ length boxes → own ≡ get_or boxes (long - 1) own
    → n < length (recorded_thread r t).events → IsFold (recorded_thread r t).events n true → BoxedBefore r t n boxes
    → BoxedBefore r t (n + 1) (slice_set boxes (long - 1) (record { thread = own.thread; event = own.event; count = own.count + 1 }))
boxed_before_last_join r t n long boxes own all is within fold h =
    let last = last_box_ends_at_folded r t n boxes fold h in
    let place : last.0 ≡ long - 1 = omega (arith, all, last.2) in
    let at : slice_get boxes (long - 1) ≡ Some own = slice_get_read boxes long (long - 1) own all (omega (arith, all, last.2)) is in
    let same : last.1 ≡ own = same_Some last.1 own (sym last.3 ∙ subst (λ k. slice_get boxes k ≡ Some own) (sym place) at) in
    boxed_before_joined r t n (long - 1) boxes own (record { thread = own.thread; event = own.event; count = own.count + 1 }) (omega (arith, all, last.2)) at
    (ap (λ (x : EventBox). x.thread) (sym same) ∙ last.4)
    (omega (arith, last.5, ap (λ (x : EventBox). x.event) same, ap (λ (x : EventBox). x.count) same)) refl refl refl within fold h
