-- What is kept of a thread, one row opened or closed.
use Rattle.std.proofs.Common.{◌≡◌, ◌≢◌, ◌⊎◌, ◌+◌, ◌-◌, ◌<◌, ◌≤◌, ℕ, List, [], ◌∷◌, ◌++◌, length, length-append, set, length-set}
use Rattle.std.proofs.Common.{get_or-set_same, get_or-set_other, refl, sym, ap, ◌∙◌, subst, arith, inl, inr}
use Rattle.std.specs.Prelude.{Bool, Some, slice_get}
use Rattle.std.specs.List.{slice_index_or}
use Rattle.std.specs.List.Sorted.{IsNonDecreasingBy}
use Rattle.std.proofs.lemmas.Bool.{cases_lt, cases_eq}
use Rattle.std.proofs.Math.ListN.{get_or-append}
use Rattle.std.proofs.Math.Seq.{get_or-append_seam}
use Rattle.ir_fit.specs.Fit.{FittedTrace}
use Rattle.ir_event_walk.proofs.CallerLemmas.{each_element_after_push}
use Rattle.ir_past.specs.declared.stale_write.StaleWrite.{StaleWrite}
use Rattle.ir_stale_run.specs.Watch.{IsFoundAs, IsWithout, IsSpanOf, IsOpenAt, IsWatchedWrite, IsWatch, NoneDue, AddsRests}
use Rattle.ir_stale_run.specs.declared.found.Found.{Found}
use Rattle.ir_stale_run.specs.declared.found.Found.TheVariants.{Unknown}
use Rattle.ir_stale_run.specs.declared.span.Span.{Span}
use Rattle.ir_stale_run.specs.declared.kept.Open.{Open}
use Rattle.ir_stale_run.specs.declared.watch.Watch.{Watch}

-- ---- one more is open

pub watch_after_row_opened : (copies : Bool) (f : FittedTrace) (rows : List StaleWrite) (t k : ℕ) (w new : Watch) (o : Open) → IsWatch copies f rows t k w → w.next < length w.spans.items
    → IsOpenAt copies f rows t k o → new.spans ≡ w.spans → new.next ≡ w.next + 1 → new.opened.items ≡ w.opened.items ++ o ∷ [] → IsWatch copies f rows t k new
watch_after_row_opened copies f rows t k w new o is l this spans next opened = record {
  sorted = subst (λ v. IsNonDecreasingBy (λ (s : Span). s.read) v.items) (sym spans) is.sorted;
  spans = subst (λ v. (i : ℕ) (d : Span) → i < length v.items → IsSpanOf f rows t (slice_index_or v.items i d)) (sym spans) is.spans;
  next = let n = ap (λ v. length v.items) spans in omega (arith, l, next, n);
  pending = subst (λ v. (i : ℕ) (d : Span) → new.next ≤ i → i < length v.items → k ≤ (slice_index_or v.items i d).read) (sym spans)
      (λ i d past li. is.pending i d (omega (arith, past, next)) li);
  opened = each_element_after_push (IsOpenAt copies f rows t k) w.opened.items new.opened.items o is.opened this opened;
}

pub opened_row_is_watched : (w new : Watch) (o : Open) → new.spans ≡ w.spans → new.next ≡ w.next + 1 → new.opened.items ≡ w.opened.items ++ o ∷ []
    → ((d : Span) → o.span.row ≡ (slice_index_or w.spans.items w.next d).row) → (r : ℕ) → IsWatchedWrite w r → IsWatchedWrite new r
opened_row_is_watched w new o spans next opened row r (inl p) = elim (cases_eq p.0 w.next) [
  | inr ne ↦ inl (
    p.0,
    (let a = p.1 in omega (arith, a, ne, next)),
    (let a = p.2 in let n = ap (λ v. length v.items) spans in omega (arith, a, n)),
    λ d. ap (λ v. (slice_index_or v.items p.0 d).row) spans ∙ p.3 d,
  )
  | inl at ↦ inr (
    length w.opened.items,
    (let n = ap length opened in let m = length-append w.opened.items (o ∷ []) in omega (arith, n, m)),
    λ d. ap (λ xs. (slice_index_or xs (length w.opened.items) d).span.row) opened
        ∙ ap (λ (x : Open). x.span.row) (get_or-append_seam w.opened.items o [] d)
        ∙ row o.span ∙ ap (λ j. (slice_index_or w.spans.items j o.span).row) (sym at) ∙ p.3 o.span,
  )
]
opened_row_is_watched w new o spans next opened row r (inr q) = inr (
  q.0,
  (let a = q.1 in let n = ap length opened in let m = length-append w.opened.items (o ∷ []) in omega (arith, a, n, m)),
  λ d. ap (λ xs. (slice_index_or xs q.0 d).span.row) opened ∙ ap (λ (x : Open). x.span.row) (get_or-append w.opened.items (o ∷ []) d q.0 q.1) ∙ q.2 d,
)

-- no other has its read entry here
pub next_elsewhere_none_due : (copies : Bool) (f : FittedTrace) (rows : List StaleWrite) (t k : ℕ) (w : Watch) → IsWatch copies f rows t k w
    → (w.next < length w.spans.items → (d : Span) → (slice_index_or w.spans.items w.next d).read ≢ k) → NoneDue k w
next_elsewhere_none_due copies f rows t k w is other i d past l =
    let first = is.pending w.next d (omega arith) (omega (arith, past, l)) in
    let ne = other (omega (arith, past, l)) d in
    let up = is.sorted w.next i d past l in
    omega (arith, first, ne, up)

-- ---- one fewer

pub removed_all_satisfy : {X : Type 0} (P : X → Type 0) (xs ys : List X) (n : ℕ) → IsWithout xs ys n → ((i : ℕ) (d : X) → i < length xs → P (slice_index_or xs i d))
    → (i : ℕ) (d : X) → i < length ys → P (slice_index_or ys i d)
removed_all_satisfy P xs ys n out each i d l = elim (cases_eq i n) [
  | inl at ↦ let s = out.size in subst (λ j. P (slice_index_or ys j d)) (sym at) (subst P (sym (out.moved d (omega (arith, s, l, at))))
      (each (length xs - 1) d (omega (arith, s, l))))
  | inr ne ↦ let s = out.size in subst P (sym (out.others i d ne (omega (arith, s, l)))) (each i d (omega (arith, s, l)))
]

pub watch_after_row_closed : (copies : Bool) (f : FittedTrace) (rows : List StaleWrite) (t k n : ℕ) (w new : Watch) → IsWatch copies f rows t k w → new.spans ≡ w.spans → new.next ≡ w.next
    → IsWithout w.opened.items new.opened.items n → IsWatch copies f rows t k new
watch_after_row_closed copies f rows t k n w new is spans next out = record {
  sorted = subst (λ v. IsNonDecreasingBy (λ (s : Span). s.read) v.items) (sym spans) is.sorted;
  spans = subst (λ v. (i : ℕ) (d : Span) → i < length v.items → IsSpanOf f rows t (slice_index_or v.items i d)) (sym spans) is.spans;
  next = let m = ap (λ v. length v.items) spans in let a = is.next in omega (arith, a, next, m);
  pending = subst (λ v. (i : ℕ) (d : Span) → new.next ≤ i → i < length v.items → k ≤ (slice_index_or v.items i d).read) (sym spans)
      (λ i d past li. is.pending i d (omega (arith, past, next)) li);
  opened = removed_all_satisfy (IsOpenAt copies f rows t k) w.opened.items new.opened.items n out is.opened;
}

-- those that were looked at still end later
pub removed_still_end_later : (k n : ℕ) (xs ys : List Open) → IsWithout xs ys n → n < length xs → ((j : ℕ) (d : Open) → j < n → k < (slice_index_or xs j d).span.end)
    → (j : ℕ) (d : Open) → j < n → k < (slice_index_or ys j d).span.end
removed_still_end_later k n xs ys out l later j d less =
    subst (λ (o : Open). k < o.span.end) (sym (out.others j d (omega (arith, less)) (omega (arith, less, l)))) (later j d less)

-- a row that was open is, or was closed
pub closed_watched_or_found : (copies : Bool) (f : FittedTrace) (rows : List StaleWrite) (w new : Watch) (rests new_rests : List Found) (n row : ℕ) (rest : Found)
    (any : Open) → new.spans ≡ w.spans → new.next ≡ w.next → IsWithout w.opened.items new.opened.items n → n < length w.opened.items
    → ((d : Open) → (slice_index_or w.opened.items n d).span.row ≡ row) → row < length rests → new_rests ≡ set rests row rest
    → ((x : StaleWrite) → slice_get rows row ≡ Some x → IsFoundAs copies f x rest)
    → (r : ℕ) (x : StaleWrite) → slice_get rows r ≡ Some x → IsWatchedWrite w r ⊎ IsFoundAs copies f x (slice_index_or rests r Unknown)
    → IsWatchedWrite new r ⊎ IsFoundAs copies f x (slice_index_or new_rests r Unknown)
closed_watched_or_found copies f rows w new rests new_rests n row rest any spans next out l at within set_to judged r x there was = elim (cases_eq r row) [
  | inl same ↦ inr (subst (λ xs. IsFoundAs copies f x (slice_index_or xs r Unknown)) (sym set_to)
      (subst (λ j. IsFoundAs copies f x (slice_index_or (set rests row rest) j Unknown)) (sym same)
      (subst (IsFoundAs copies f x) (sym (get_or-set_same rests row rest Unknown within)) (judged x (ap (slice_get rows) (sym same) ∙ there)))))
  | inr ne ↦ others ne was
]
  where
    others : r ≢ row → IsWatchedWrite w r ⊎ IsFoundAs copies f x (slice_index_or rests r Unknown) → IsWatchedWrite new r ⊎ IsFoundAs copies f x (slice_index_or new_rests r Unknown)
    others ne (inr found) = inr (subst (λ xs. IsFoundAs copies f x (slice_index_or xs r Unknown)) (sym set_to)
        (subst (IsFoundAs copies f x) (sym (get_or-set_other rests row r rest Unknown ne)) found))
    others ne (inl (inl p)) = inl (inl (
      p.0,
      (let a = p.1 in omega (arith, a, next)),
      (let a = p.2 in let m = ap (λ v. length v.items) spans in omega (arith, a, m)),
      λ d. ap (λ v. (slice_index_or v.items p.0 d).row) spans ∙ p.3 d,
    ))
    others ne (inl (inr q)) = inl (inr (elim (cases_lt (q.0 + 1) (length w.opened.items)) [
      | inl before ↦ (
        q.0,
        (let s = out.size in omega (arith, s, before)),
        λ d. ap (λ (o : Open). o.span.row) (out.others q.0 d (λ e. ne (sym (q.2 d) ∙ ap (λ j. (slice_index_or w.opened.items j d).span.row) e ∙ at d))
            before) ∙ q.2 d,
      )
      | inr last ↦
          let size = out.size in
          let a = q.1 in
          let here : q.0 ≡ length w.opened.items - 1 = omega (arith, last, a) in
          elim (cases_lt (n + 1) (length w.opened.items)) [
            | inl some ↦ (
              n,
              omega (arith, size, some),
              λ d. ap (λ (o : Open). o.span.row) (out.moved d some) ∙ ap (λ j. (slice_index_or w.opened.items j d).span.row) (sym here) ∙ q.2 d,
            )
            | inr none ↦
                let both : q.0 ≡ n = omega (arith, here, none, l) in
                absurd (ne (sym (q.2 any) ∙ ap (λ j. (slice_index_or w.opened.items j any).span.row) both ∙ at any))
          ]
    ]))

-- one result more
pub adds_rests_after_set : (copies : Bool) (f : FittedTrace) (rows : List StaleWrite) (first rests new : List Found) (row : ℕ) (rest : Found) → AddsRests copies f rows first rests
    → row < length rests → new ≡ set rests row rest → ((x : StaleWrite) → slice_get rows row ≡ Some x → IsFoundAs copies f x rest) → AddsRests copies f rows first new
adds_rests_after_set copies f rows first rests new row rest adds within set_to judged = record {
  size = ap length set_to ∙ length-set rests row rest ∙ adds.size;
  each = λ r x there. elim (cases_eq r row) [
    | inl same ↦ inr (subst (λ xs. IsFoundAs copies f x (slice_index_or xs r Unknown)) (sym set_to)
        (subst (λ j. IsFoundAs copies f x (slice_index_or (set rests row rest) j Unknown)) (sym same)
        (subst (IsFoundAs copies f x) (sym (get_or-set_same rests row rest Unknown within)) (judged x (ap (slice_get rows) (sym same) ∙ there)))))
    | inr ne ↦
        let e : slice_index_or new r Unknown ≡ slice_index_or rests r Unknown = ap (λ xs. slice_index_or xs r Unknown) set_to ∙ get_or-set_other rests row r rest Unknown ne in
        elim (adds.each r x there) [
          | inl same ↦ inl (e ∙ same)
          | inr found ↦ inr (subst (IsFoundAs copies f x) (sym e) found)
        ]
  ];
}

pub adds_rests_reflexive : (copies : Bool) (f : FittedTrace) (rows : List StaleWrite) (rests : List Found) → AddsRests copies f rows rests rests
adds_rests_reflexive copies f rows rests = record { size = refl; each = λ r x there. inl refl }

-- ---- each in turn

-- one more of a list is so
pub all_satisfy_to_set_place : {X : Type 0} (P : X → Type 0) (xs : List X) (i : ℕ) (x : X) → i < length xs → ((j : ℕ) (d : X) → j < i → P (slice_index_or xs j d)) → P x
    → (j : ℕ) (d : X) → j < i + 1 → P (slice_index_or (set xs i x) j d)
all_satisfy_to_set_place P xs i x l each last j d less = elim (cases_eq j i) [
  | inl same ↦ subst (λ n. P (slice_index_or (set xs i x) n d)) (sym same) (subst P (sym (get_or-set_same xs i x d l)) last)
  | inr ne ↦ subst P (sym (get_or-set_other xs i j x d ne)) (each j d (omega (arith, less, ne)))
]

-- each has the span that it had
pub spans_kept_to_set_place : (first xs : List Open) (i : ℕ) (x : Open) → i < length xs
    → ((j : ℕ) (d : Open) → j < i → (slice_index_or xs j d).span ≡ (slice_index_or first j d).span)
    → ((d : Open) → x.span ≡ (slice_index_or first i d).span)
    → (j : ℕ) (d : Open) → j < i + 1 → (slice_index_or (set xs i x) j d).span ≡ (slice_index_or first j d).span
spans_kept_to_set_place first xs i x l each last j d less = elim (cases_eq j i) [
  | inl same ↦ subst (λ n. (slice_index_or (set xs i x) n d).span ≡ (slice_index_or first n d).span) (sym same)
      (ap (λ (o : Open). o.span) (get_or-set_same xs i x d l) ∙ last d)
  | inr ne ↦ ap (λ (o : Open). o.span) (get_or-set_other xs i j x d ne) ∙ each j d (omega (arith, less, ne))
]

-- and the others are as they were
pub kept_beyond_set_place : {X : Type 0} (first xs : List X) (i : ℕ) (x : X) → ((j : ℕ) (d : X) → i ≤ j → slice_index_or xs j d ≡ slice_index_or first j d)
    → (j : ℕ) (d : X) → i + 1 ≤ j → slice_index_or (set xs i x) j d ≡ slice_index_or first j d
kept_beyond_set_place first xs i x each j d past = get_or-set_other xs i j x d (λ e. absurd (omega (arith, past, e))) ∙ each j d (omega (arith, past))
