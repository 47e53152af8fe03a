-- The rows of each thread, before the first step.
use Rattle.std.proofs.Common.{◌≡◌, ◌+◌, ◌<◌, ◌≤◌, ℕ, List, [], ◌∷◌, ◌++◌, length, length-append, set, length-set, get_or-set_same, get_or-set_other, sym, ap, ◌∙◌, subst, arith, inl, inr}
use Rattle.std.specs.Prelude.{Bool, Some, slice_get}
use Rattle.std.specs.List.{slice_index_or}
use Rattle.std.specs.List.Sorted.{IsNonDecreasingBy}
use Rattle.std.proofs.lemmas.Bool.{cases_lt, cases_eq}
use Rattle.std.proofs.lemmas.Option.{slice_get_within}
use Rattle.std.proofs.Math.ListN.{get_or-append}
use Rattle.std.proofs.Math.Seq.{get_or-append_seam}
use Rattle.ir_fit.specs.Fit.{FittedTrace}
use Rattle.ir_past.specs.Past.{IsRow}
use Rattle.ir_past.specs.declared.stale_write.StaleWrite.{StaleWrite}
use Rattle.ir_stale_run.specs.Watch.{IsFoundAs, IsSpan, IsSpanOf, IsWatch, IsWatchFound, IsBuilt, AreBuilt, IsSorted, AreWatchesSorted}
use Rattle.ir_stale_run.specs.declared.found.Found.{Found}
use Rattle.ir_stale_run.specs.declared.found.Found.TheVariants.{Unknown}
use Rattle.ir_stale_run.specs.declared.span.Span.{Span}
use Rattle.ir_stale_run.specs.declared.kept.Open.{Open}
use Rattle.ir_stale_run.specs.declared.watch.Watch.{Watch}
use Rattle.ir_event_walk.proofs.CallerLemmas.{each_element_after_push, permuted_all_satisfy, permuted_element_exists}

some_row_injective : (x y : StaleWrite) → Some x ≡ Some y → x ≡ y
some_row_injective x y e = cc e

-- no row of all
pub built_of_no_row : (copies : Bool) (f : FittedTrace) (rows : List StaleWrite) (found : List Found) (t : ℕ) (w : Watch) → w.next ≡ 0 → w.spans.items ≡ [] → w.opened.items ≡ []
    → IsBuilt copies f rows found 0 t w
built_of_no_row copies f rows found t w next spans opened = record {
  next = next;
  opened = opened;
  spans = λ i d l. absurd (let n = ap (λ (xs : List Span). length xs) spans in omega (arith, l, n));
  covered = λ r x l. absurd (omega (arith, l));
}

-- one row more, which is of another thread or is found
pub row_of_other_is_built : (copies : Bool) (f : FittedTrace) (rows : List StaleWrite) (found : List Found) (n t : ℕ) (w : Watch)
    (x : StaleWrite)
    → IsBuilt copies f rows found n t w → slice_get rows n ≡ Some x
    → (x.thread ≡ t → IsFoundAs copies f x (slice_index_or found n Unknown)) → IsBuilt copies f rows found (n + 1) t w
row_of_other_is_built copies f rows found n t w x is there none = record {
  next = is.next;
  opened = is.opened;
  spans = is.spans;
  covered = λ r y l here own. elim (cases_eq r n) [
    | inl same ↦
        let e : x ≡ y = some_row_injective x y (sym there ∙ ap (slice_get rows) (sym same) ∙ here) in
        inr (subst (λ j. IsFoundAs copies f y (slice_index_or found j Unknown)) (sym same)
        (subst (λ (z : StaleWrite). IsFoundAs copies f z (slice_index_or found n Unknown)) e (none (ap (λ (z : StaleWrite). z.thread) e ∙ own))))
    | inr ne ↦ is.covered r y (omega (arith, l, ne)) here own
  ];
}

-- or is one of this thread
pub built_after_own_row : (copies : Bool) (f : FittedTrace) (rows : List StaleWrite) (found : List Found) (n t : ℕ) (w new : Watch)
    (x : StaleWrite) (s : Span)
    → IsBuilt copies f rows found n t w → slice_get rows n ≡ Some x
    → x.thread ≡ t → IsRow f.recorded x → s.row ≡ n → IsSpan f x s → new.next ≡ w.next → new.opened.items ≡ w.opened.items
    → new.spans.items ≡ w.spans.items ++ s ∷ [] → IsBuilt copies f rows found (n + 1) t new
built_after_own_row copies f rows found n t w new x s is there own stale row span next opened spans = record {
  next = next ∙ is.next;
  opened = opened ∙ is.opened;
  spans = each_element_after_push (IsSpanOf f rows t) w.spans.items new.spans.items s is.spans (record {
    row = x;
    there = ap (slice_get rows) row ∙ there;
    thread = own;
    stale = stale;
    span = span;
  }) spans;
  covered = λ r y l here of. elim (cases_eq r n) [
    | inl same ↦ inl (
      length w.spans.items,
      (let a = is.next in omega (arith, a, next)),
      (let a = ap (λ (xs : List Span). length xs) spans in let b = length-append w.spans.items (s ∷ []) in omega (arith, a, b)),
      λ d. ap (λ (xs : List Span). (slice_index_or xs (length w.spans.items) d).row) spans
          ∙ ap (λ (z : Span). z.row) (get_or-append_seam w.spans.items s [] d) ∙ row ∙ sym same,
    )
    | inr ne ↦ elim (is.covered r y (omega (arith, l, ne)) here of) [
      | inr none ↦ inr none
      | inl p ↦ inl (
        p.0,
        (let a = is.next in omega (arith, a, next)),
        (let c = p.2 in let a = ap (λ (xs : List Span). length xs) spans in let b = length-append w.spans.items (s ∷ []) in omega (arith, a, b, c)),
        λ d. ap (λ (xs : List Span). (slice_index_or xs p.0 d).row) spans
            ∙ ap (λ (z : Span). z.row) (get_or-append w.spans.items (s ∷ []) d p.0 p.2) ∙ p.3 d,
      )
    ]
  ];
}

-- each thread, where one of them is another
pub all_built_watch_set : (copies : Bool) (f : FittedTrace) (rows : List StaleWrite) (found : List Found) (n u : ℕ) (ws : List Watch) (new : Watch) (x : StaleWrite) → u < length ws
    → AreBuilt copies f rows found n ws → slice_get rows n ≡ Some x → x.thread ≡ u → IsBuilt copies f rows found (n + 1) u new → AreBuilt copies f rows found (n + 1) (set ws u new)
all_built_watch_set copies f rows found n u ws new x l are there own is t d lt = elim (cases_eq t u) [
  | inl same ↦ subst (λ j. IsBuilt copies f rows found (n + 1) j (slice_index_or (set ws u new) j d)) (sym same)
      (subst (IsBuilt copies f rows found (n + 1) u) (sym (get_or-set_same ws u new d l)) is)
  | inr ne ↦ subst (IsBuilt copies f rows found (n + 1) t) (sym (get_or-set_other ws u t new d ne))
      (row_of_other_is_built copies f rows found n t (slice_index_or ws t d) x (are t d (let m = length-set ws u new in omega (arith, lt, m))) there
      (λ e. absurd (ne (sym e ∙ own))))
]

pub all_built_found_row : (copies : Bool) (f : FittedTrace) (rows : List StaleWrite) (found : List Found) (n : ℕ) (ws : List Watch)
    (x : StaleWrite)
    → AreBuilt copies f rows found n ws → slice_get rows n ≡ Some x
    → IsFoundAs copies f x (slice_index_or found n Unknown) → AreBuilt copies f rows found (n + 1) ws
all_built_found_row copies f rows found n ws x are there none t d l = row_of_other_is_built copies f rows found n t (slice_index_or ws t d) x (are t d l) there (λ _. none)

-- ---- before the first step

-- the rows of a thread in another order
pub built_after_sorting : (copies : Bool) (f : FittedTrace) (rows : List StaleWrite) (found : List Found) (n t : ℕ) (old new : Watch)
    → IsBuilt copies f rows found n t old → IsSorted old new → IsBuilt copies f rows found n t new
built_after_sorting copies f rows found n t old new is sorted = let none : Span = record { row = 0; object = 0; read = 0; write = 0; end = 0 } in record {
  next = sorted.next ∙ is.next;
  opened = sorted.opened ∙ is.opened;
  spans = permuted_all_satisfy (IsSpanOf f rows t) old.spans.items new.spans.items sorted.same is.spans;
  covered = λ r x l there own. elim (is.covered r x l there own) [
    | inr never ↦ inr never
    | inl p ↦
        let q = permuted_element_exists (λ (s : Span). s.row) none old.spans.items new.spans.items sorted.same r p.0 p.2 p.3 in
        inl (q.0, (let a = sorted.next in let b = is.next in omega (arith, a, b)), q.1, q.2)
  ];
}

pub watch_at_start_if_built : (copies : Bool) (f : FittedTrace) (rows : List StaleWrite) (found : List Found) (t k : ℕ) (w : Watch) → IsBuilt copies f rows found (length rows) t w
    → IsNonDecreasingBy (λ (s : Span). s.read) w.spans.items → k ≤ 0 → IsWatch copies f rows t k w
watch_at_start_if_built copies f rows found t k w is sorted first = record {
  sorted = sorted;
  spans = is.spans;
  next = let b = is.next in omega (arith, b);
  pending = λ i d past l. omega (arith, first);
  opened = λ i d l. absurd (let n = ap (λ (xs : List Open). length xs) is.opened in omega (arith, l, n));
}

pub built_start_is_found : (copies : Bool) (f : FittedTrace) (rows : List StaleWrite) (found : List Found) (t : ℕ) (w : Watch) → IsBuilt copies f rows found (length rows) t w
    → IsWatchFound copies f rows found t w
built_start_is_found copies f rows found t w is r x there own = elim (is.covered r x (slice_get_within rows r x there) there own) [
  | inr known ↦ inr known
  | inl p ↦ inl (inl p)
]

-- ---- each thread without rows

pub all_built_of_no_watch : (copies : Bool) (f : FittedTrace) (rows : List StaleWrite) (found : List Found) (ws : List Watch) → ws ≡ [] → AreBuilt copies f rows found 0 ws
all_built_of_no_watch copies f rows found ws none t d l = absurd (let n = ap (λ (xs : List Watch). length xs) none in omega (arith, l, n))

pub all_built_watch_added : (copies : Bool) (f : FittedTrace) (rows : List StaleWrite) (found : List Found) (ws new : List Watch) (w : Watch) → AreBuilt copies f rows found 0 ws → new ≡ ws ++ w ∷ []
    → w.next ≡ 0 → w.spans.items ≡ [] → w.opened.items ≡ [] → AreBuilt copies f rows found 0 new
all_built_watch_added copies f rows found ws new w are e next spans opened t d l =
    subst (λ (xs : List Watch). IsBuilt copies f rows found 0 t (slice_index_or xs t d)) (sym e) (elim (cases_lt t (length ws)) [
      | inl before ↦ subst (IsBuilt copies f rows found 0 t) (sym (get_or-append ws (w ∷ []) d t before)) (are t d before)
      | inr past ↦
          let size : length new ≡ length ws + 1 = ap (λ (xs : List Watch). length xs) e ∙ length-append ws (w ∷ []) in
          let at : t ≡ length ws = omega (arith, past, l, size) in
          subst (λ j. IsBuilt copies f rows found 0 t (slice_index_or (ws ++ w ∷ []) j d)) (sym at)
          (subst (IsBuilt copies f rows found 0 t) (sym (get_or-append_seam ws w [] d)) (built_of_no_row copies f rows found t w next spans opened))
    ])

-- in order
pub all_built_after_sorting : (copies : Bool) (f : FittedTrace) (rows : List StaleWrite) (found : List Found) (n : ℕ) (old new : List Watch)
    → AreBuilt copies f rows found n old → AreWatchesSorted old new
    → length new ≡ length old → AreBuilt copies f rows found n new
all_built_after_sorting copies f rows found n old new are sorted size t d l =
    let lt : t < length old = omega (arith, l, size) in
    built_after_sorting copies f rows found n t (slice_index_or old t d) (slice_index_or new t d) (are t d lt) (sorted t d lt)
