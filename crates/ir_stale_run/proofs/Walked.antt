-- What is kept of the threads, and what is found of their rows, as they go on.
use Rattle.std.proofs.Common.{◌≡◌, ◌⊎◌, ◌<◌, ◌≤◌, ℕ, List, [], ◌∷◌, length, set, length-set, get_or-set_same, get_or-set_other, refl, sym, ap, ◌∙◌, subst, arith, inl, inr}
use Rattle.std.specs.Prelude.{Bool, Some, slice_get}
use Rattle.std.specs.List.{slice_index_or}
use Rattle.std.specs.List.Sorted.{IsNonDecreasingBy}
use Rattle.std.proofs.lemmas.Bool.{cases_eq}
use Rattle.ir_trace.specs.Recorded.{recorded_thread}
use Rattle.ir_fit.specs.Fit.{FittedTrace}
use Rattle.ir_weave.specs.Standing.{Standing, flat_in, positions}
use Rattle.ir_past.specs.declared.stale_write.StaleWrite.{StaleWrite}
use Rattle.ir_events.specs.Walk.{IsFurther}
use Rattle.ir_opened.proofs.CallerLemmas.{leave_is_past_event}
use Rattle.ir_stale_run.specs.Watch.{IsFoundAs, IsSpanOf, IsOpenAt, IsWatchedWrite, IsWatch, IsWatchFound, NoneEnds, IsBeforeStops, AddsRests, AreWatched}
use Rattle.ir_stale_run.specs.declared.found.Found.{Found}
use Rattle.ir_stale_run.specs.declared.found.Found.TheVariants.{Unknown}
use Rattle.ir_stale_run.specs.declared.span.Span.{Span}
use Rattle.ir_stale_run.specs.declared.kept.Open.{Open}
use Rattle.ir_stale_run.specs.declared.watch.Watch.{Watch}

-- ---- one thread goes on

-- at most to the next stop
pub watch_stays_to_next_stop : (copies : Bool) (f : FittedTrace) (rows : List StaleWrite) (t from k stop : ℕ) (w new : Watch) → IsWatch copies f rows t from w → IsBeforeStops from stop w → k ≤ stop
    → new.spans ≡ w.spans → new.next ≡ w.next → length new.opened.items ≡ length w.opened.items
    → ((i : ℕ) (d : Open) → i < length w.opened.items → IsOpenAt copies f rows t k (slice_index_or new.opened.items i d)) → IsWatch copies f rows t k new
watch_stays_to_next_stop copies f rows t from k stop w new is stops within spans next size each = record {
  sorted = subst (λ v. IsNonDecreasingBy (λ (s : Span). s.read) v.items) (sym spans) is.sorted;
  spans = subst (λ v. (i : ℕ) (d : Span) → i < length v.items → IsSpanOf f rows t (slice_index_or v.items i d)) (sym spans) is.spans;
  next = let m = ap (λ v. length v.items) spans in let a = is.next in omega (arith, a, next, m);
  pending = subst (λ v. (i : ℕ) (d : Span) → new.next ≤ i → i < length v.items → k ≤ (slice_index_or v.items i d).read) (sym spans)
      (λ i d past li. let a = stops.pending i d (omega (arith, past, next)) li in omega (arith, a, within));
  opened = λ i d l. each i d (omega (arith, l, size));
}

pub watched_if_spans_kept : (w new : Watch) → new.spans ≡ w.spans → new.next ≡ w.next → length new.opened.items ≡ length w.opened.items
    → ((i : ℕ) (d : Open) → i < length w.opened.items → (slice_index_or new.opened.items i d).span ≡ (slice_index_or w.opened.items i d).span)
    → (r : ℕ) → IsWatchedWrite w r → IsWatchedWrite new r
watched_if_spans_kept w new spans next size same r (inl p) = inl (
  p.0,
  (let a = p.1 in omega (arith, a, next)),
  (let a = p.2 in let m = ap (λ v. length v.items) spans in omega (arith, a, m)),
  λ d. ap (λ v. (slice_index_or v.items p.0 d).row) spans ∙ p.3 d,
)
watched_if_spans_kept w new spans next size same r (inr q) = inr (
  q.0,
  (let a = q.1 in omega (arith, a, size)),
  λ d. ap (λ (s : Span). s.row) (same q.0 d q.1) ∙ q.2 d,
)

-- ---- what is found

pub adds_rests_transitive : (copies : Bool) (f : FittedTrace) (rows : List StaleWrite) (a b c : List Found) → AddsRests copies f rows a b → AddsRests copies f rows b c → AddsRests copies f rows a c
adds_rests_transitive copies f rows a b c first more = record {
  size = more.size ∙ first.size;
  each = λ r x there. elim (more.each r x there) [
    | inr found ↦ inr found
    | inl same ↦ elim (first.each r x there) [
      | inl before ↦ inl (same ∙ before)
      | inr found ↦ inr (subst (IsFoundAs copies f x) (sym same) found)
    ]
  ];
}

-- what was found is found
pub found_row_stays_found : (copies : Bool) (f : FittedTrace) (rows : List StaleWrite) (a b : List Found) (r : ℕ) (x : StaleWrite) → AddsRests copies f rows a b
    → slice_get rows r ≡ Some x → IsFoundAs copies f x (slice_index_or a r Unknown) → IsFoundAs copies f x (slice_index_or b r Unknown)
found_row_stays_found copies f rows a b r x adds there found = elim (adds.each r x there) [
  | inl same ↦ subst (IsFoundAs copies f x) (sym same) found
  | inr new ↦ new
]

-- what was kept is kept or found
pub watched_or_found_stays : (copies : Bool) (f : FittedTrace) (rows : List StaleWrite) (w new : Watch) (a b : List Found) (r : ℕ) (x : StaleWrite) → AddsRests copies f rows a b
    → slice_get rows r ≡ Some x → (IsWatchedWrite w r → IsWatchedWrite new r ⊎ IsFoundAs copies f x (slice_index_or b r Unknown))
    → IsWatchedWrite w r ⊎ IsFoundAs copies f x (slice_index_or a r Unknown) → IsWatchedWrite new r ⊎ IsFoundAs copies f x (slice_index_or b r Unknown)
watched_or_found_stays copies f rows w new a b r x adds there more (inl watched) = more watched
watched_or_found_stays copies f rows w new a b r x adds there more (inr found) = inr (found_row_stays_found copies f rows a b r x adds there found)

-- ---- all threads, one of which has gone on

pub watched_after_going_on : (copies : Bool) (f : FittedTrace) (rows : List StaleWrite) (t : ℕ) (old new : Standing) (ws : List Watch) (w : Watch) (a b : List Found)
    → AreWatched copies f rows old ws a → IsFurther f t old new → t < length ws → AddsRests copies f rows a b
    → IsWatch copies f rows t (positions (flat_in f new) t) w
    → ((d : Watch) (r : ℕ) (x : StaleWrite) → slice_get rows r ≡ Some x → IsWatchedWrite (slice_index_or ws t d) r
    → IsWatchedWrite w r ⊎ IsFoundAs copies f x (slice_index_or b r Unknown)) → AreWatched copies f rows new (set ws t w) b
watched_after_going_on copies f rows t old new ws w a b are further l adds is more u d lu = elim (cases_eq u t) [
  | inl same ↦ subst (λ j. IsWatch copies f rows j (positions (flat_in f new) j) (slice_index_or (set ws t w) j d)
      × IsWatchFound copies f rows b j (slice_index_or (set ws t w) j d)) (sym same)
      (subst (λ z. IsWatch copies f rows t (positions (flat_in f new) t) z × IsWatchFound copies f rows b t z) (sym (get_or-set_same ws t w d l)) (
        is,
        λ r x there own. watched_or_found_stays copies f rows (slice_index_or ws t d) w a b r x adds there (more d r x there) ((are t d l).1 r x there own),
      ))
  | inr ne ↦
      let before = are u d (let n = length-set ws t w in omega (arith, n, lu)) in
      subst (λ z. IsWatch copies f rows u (positions (flat_in f new) u) z × IsWatchFound copies f rows b u z) (sym (get_or-set_other ws t u w d ne)) (
        subst (λ k. IsWatch copies f rows u k (slice_index_or ws u d)) (sym (further.others u ne)) before.0,
        λ r x there own. watched_or_found_stays copies f rows (slice_index_or ws u d) (slice_index_or ws u d) a b r x adds there (λ z. inl z) (before.1 r x there own),
      )
]

-- ---- at the end of a thread

-- no row is left
pub no_row_watched_at_end : (copies : Bool) (f : FittedTrace) (rows : List StaleWrite) (t k : ℕ) (w : Watch) (r : ℕ) → IsWatch copies f rows t k w → NoneEnds k w.opened.items
    → (recorded_thread f.recorded t).steps ≤ k → IsWatchedWrite w r → ⊥
no_row_watched_at_end copies f rows t k w r is ends all (inl p) =
    let any : Span = record { row = 0; object = 0; read = 0; write = 0; end = 0 } in
    let s = is.spans p.0 any p.2 in
    let a = is.pending p.0 any p.1 p.2 in
    let b = s.span.rises in
    let c = s.span.write in
    let d = leave_is_past_event f s.row.thread s.row.event s.span.last s.span.leave.leaves in
    let e = s.span.end in
    let g = s.span.within in
    let h = ap (λ u. (recorded_thread f.recorded u).steps) s.thread in
    omega (arith, a, b, c, d, e, g, h, all)
no_row_watched_at_end copies f rows t k w r is ends all (inr q) = no_open q.0 q.1 (w.opened.items) refl
  where
    no_open : (i : ℕ) → i < length w.opened.items → (xs : List Open) → xs ≡ w.opened.items → ⊥
    no_open i l [] e = absurd (let n = ap (λ (ys : List Open). length ys) e in omega (arith, l, n))
    no_open i l (o ∷ xs) e =
        let this = is.opened i o l in
        let a = ends i o l in
        let g = this.of.span.within in
        let h = ap (λ u. (recorded_thread f.recorded u).steps) this.of.thread in
        omega (arith, a, g, h, all)

-- so each is found
pub row_found_at_end : (copies : Bool) (f : FittedTrace) (rows : List StaleWrite) (t k : ℕ) (w new : Watch) (a b : List Found) (r : ℕ) (x : StaleWrite) → AddsRests copies f rows a b
    → slice_get rows r ≡ Some x → IsWatch copies f rows t k new → NoneEnds k new.opened.items → (recorded_thread f.recorded t).steps ≤ k
    → (IsWatchedWrite w r → IsWatchedWrite new r ⊎ IsFoundAs copies f x (slice_index_or b r Unknown))
    → IsWatchedWrite w r ⊎ IsFoundAs copies f x (slice_index_or a r Unknown) → IsFoundAs copies f x (slice_index_or b r Unknown)
row_found_at_end copies f rows t k w new a b r x adds there is ends all more was = elim (watched_or_found_stays copies f rows w new a b r x adds there more was) [
  | inr found ↦ found
  | inl watched ↦ absurd (no_row_watched_at_end copies f rows t k new r is ends all watched)
]
