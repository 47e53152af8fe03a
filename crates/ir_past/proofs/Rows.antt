-- The rows of the answer, event by event.
use Rattle.std.proofs.Common.{◌≡◌, ℕ, ◌+◌, ◌<◌, ◌≤◌, ◌⊎◌, inl, inr, Some, List, [], ◌∷◌, ◌++◌, length, refl, sym, ap, ◌∙◌, subst, arith}
use Rattle.std.specs.Prelude.{slice_get}
use Rattle.std.proofs.lemmas.Bool.{cases_eq, cases_lt}
use Rattle.std.proofs.lemmas.List.{get_or_past}
use Rattle.std.proofs.lemmas.Option.{none-some, slice_get_within}
use Rattle.ir_lemmas.proofs.CallerLemmas.{added_element_is_last, slice_get-push_cases, slice_get_push_earlier}
use Rattle.ir_log.specs.declared.event.Event.{Event}
use Rattle.ir_trace.specs.Recorded.{Recorded, RecordedThread, recorded_thread}
use Rattle.ir_trace.specs.Absent.{absent}
use Rattle.ir_coherence.specs.Before.{IsBefore}
use Rattle.ir_past.specs.Past.{event_at, IsStale, IsRow, HasRow, AreStaleWrites}
use Rattle.ir_past.specs.Progress.{HasRows}
use Rattle.ir_past.specs.declared.stale_write.StaleWrite.{StaleWrite}
use Rattle.ir_past.proofs.Open.{stale_read_unique}

pub before_next_event : (u j t n : ℕ) → IsBefore u j t n → IsBefore u j t (n + 1)
before_next_event u j t n (inl less) = inl less
before_next_event u j t n (inr here) = inr (here.0, omega (arith, here.1))

pub before_next_event_cases : (u j t n : ℕ) → IsBefore u j t (n + 1) → IsBefore u j t n ⊎ ((u ≡ t) × (j ≡ n))
before_next_event_cases u j t n (inl less) = inl (inl less)
before_next_event_cases u j t n (inr here) = elim (cases_lt j n) [
  | inl less ↦ inl (inr (here.0, less))
  | inr not ↦ inr (here.0, omega (arith, here.1, not))
]

pub before_next_thread : (u j t n : ℕ) → IsBefore u j t n → IsBefore u j (t + 1) 0
before_next_thread u j t n (inl less) = inl (omega (arith, less))
before_next_thread u j t n (inr here) = inl (omega (arith, here.0))

-- an event that is there is one of a thread that is there
pub event_thread_exists : (r : Recorded) (t i : ℕ) (e : Event) → event_at r t i ≡ Some e → t < length r.threads
event_thread_exists r t i e is = elim (cases_lt t (length r.threads)) [
  | inl within ↦ within
  | inr past ↦ absurd (none-some e (sym (ap (λ (x : RecordedThread). slice_get x.events i) (get_or_past r.threads t absent past)) ∙ is))
]

pub has_rows_at_start : (r : Recorded) → HasRows r 0 0 []
has_rows_at_start r = record {
  sound = λ k x is. absurd (none-some x is);
  before = λ k x is. absurd (none-some x is);
  complete = λ u i j o v w s b. absurd (none_before u j b);
  rising = λ a b x y less is other. absurd (none-some x is);
}
  where
    none_before : (u j : ℕ) → IsBefore u j 0 0 → ⊥
    none_before u j (inl less) = omega (arith, less)
    none_before u j (inr here) = omega (arith, here.1)

-- an event that is no stale write
pub has_rows_without_stale : (r : Recorded) (t n : ℕ) (rows : List StaleWrite) → HasRows r t n rows
    → ((i o v w : ℕ) → IsStale r t i n o v w → ⊥) → HasRows r t (n + 1) rows
has_rows_without_stale r t n rows h none = record {
  sound = h.sound;
  before = λ k x is. before_next_event x.thread x.event t n (h.before k x is);
  complete = λ u i j o v w s b. elim (before_next_event_cases u j t n b) [
    | inl less ↦ h.complete u i j o v w s less
    | inr here ↦ absurd (none i o v w (subst (λ z. IsStale r z i n o v w) here.0 (subst (λ z. IsStale r u i z o v w) here.1 s)))
  ];
  rising = h.rising;
}

has_row_after_push : (rows : List StaleWrite) (x : StaleWrite) (t i j : ℕ) → HasRow rows t i j → HasRow (rows ++ x ∷ []) t i j
has_row_after_push rows x t i j h = record {
  place = h.place;
  row = h.row;
  there = slice_get_push_earlier rows x h.row h.place h.there;
  thread = h.thread;
  read = h.read;
  event = h.event;
}

-- a stale write
pub has_rows_with_stale : (r : Recorded) (x : StaleWrite) (rows : List StaleWrite) → HasRows r x.thread x.event rows → IsRow r x
    → HasRows r x.thread (x.event + 1) (rows ++ x ∷ [])
has_rows_with_stale r x rows h row = record {
  sound = λ k y is. elim (slice_get-push_cases rows x k y is) [
    | inl old ↦ h.sound k y old
    | inr new ↦ subst (IsRow r) new.1 row
  ];
  before = λ k y is. elim (slice_get-push_cases rows x k y is) [
    | inl old ↦ before_next_event y.thread y.event x.thread x.event (h.before k y old)
    | inr new ↦ subst (λ (z : StaleWrite). IsBefore z.thread z.event x.thread (x.event + 1)) new.1 (inr (refl, omega arith))
  ];
  complete = λ u i j o v w s b. elim (before_next_event_cases u j x.thread x.event b) [
    | inl less ↦ has_row_after_push rows x u i j (h.complete u i j o v w s less)
    | inr here ↦ new_row u i j o v w s here.0 here.1
  ];
  rising = λ a b y z less first second. elim (slice_get-push_cases rows x b z second) [
    | inl old ↦ elim (slice_get-push_cases rows x a y first) [
      | inl both ↦ h.rising a b y z less both old
      | inr new ↦ absurd (omega (arith, less, new.0, slice_get_within rows b z old))
    ]
    | inr new ↦ elim (slice_get-push_cases rows x a y first) [
      | inl old ↦ subst (λ (k : StaleWrite). IsBefore y.thread y.event k.thread k.event) new.1 (h.before a y old)
      | inr same ↦ absurd (omega (arith, less, same.0, new.0))
    ]
  ];
}
  where
    new_row : (u i j o v w : ℕ) → IsStale r u i j o v w → u ≡ x.thread → j ≡ x.event → HasRow (rows ++ x ∷ []) u i j
    new_row u i j o v w s thread event = record {
      place = length rows;
      row = x;
      there = added_element_is_last rows x;
      thread = sym thread;
      read = sym (stale_read_unique (recorded_thread r x.thread).events i x.read x.event o x.object v w x.version x.written
          (subst (λ z. IsStale r z i x.event o v w) thread (subst (λ z. IsStale r u i z o v w) event s)) row.stale);
      event = sym event;
    }

-- all events of a thread
pub has_rows_next_thread : (r : Recorded) (t n : ℕ) (rows : List StaleWrite) → length (recorded_thread r t).events ≤ n → HasRows r t n rows
    → HasRows r (t + 1) 0 rows
has_rows_next_thread r t n rows all h = record {
  sound = h.sound;
  before = λ k x is. before_next_thread x.thread x.event t n (h.before k x is);
  complete = λ u i j o v w s b. elim (cases_eq u t) [
    | inl here ↦ h.complete u i j o v w s (inr (here, within u i j o v w here s))
    | inr ne ↦ h.complete u i j o v w s (inl (below u j ne b))
  ];
  rising = h.rising;
}
  where
    within : (u i j o v w : ℕ) → u ≡ t → IsStale r u i j o v w → j < n
    within u i j o v w here s =
        omega (arith, slice_get_within (recorded_thread r u).events j _ s.write, ap (λ z. length (recorded_thread r z).events) here, all)

    below : (u j : ℕ) → (u ≡ t → ⊥) → IsBefore u j (t + 1) 0 → u < t
    below u j ne (inl less) = omega (arith, less, ne)
    below u j ne (inr here) = absurd (omega (arith, here.1))

-- all threads
pub rows_to_end_are_stale : (r : Recorded) (n : ℕ) (rows : List StaleWrite) → length r.threads ≤ n → HasRows r n 0 rows → AreStaleWrites r rows
rows_to_end_are_stale r n rows all h = record {
  sound = h.sound;
  complete = λ t i j o v w s. h.complete t i j o v w s (inl (omega (arith, event_thread_exists r t i _ s.read, all)));
  rising = h.rising;
}
