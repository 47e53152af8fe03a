-- How many read entries are placed.
use Rattle.std.proofs.Common.{◌≡◌, ℕ, suc, zero, ◌+◌, ◌*◌, ◌<◌, ◌≤◌, inl, inr, Bool, true, false, cond, eqb, Some, List, [], ◌∷◌, map, take, length, refl, ap, ◌∙◌, arith, eq-eqb, ne_eqb}
use Rattle.std.specs.Prelude.{slice_get}
use Rattle.std.proofs.lemmas.Bool.{cases_eq, cases_lt}
use Rattle.std.proofs.lemmas.Option.{same_Some, none-some}
use Rattle.ir_runs.specs.Verdicts.{reads_one, reads, sum_below}
use Rattle.ir_runs.proofs.CallerLemmas.{sum_below_less, sum_below_cong}
use Rattle.ir_log.specs.Logging.{label_of}
use Rattle.ir_log.specs.declared.event.Event.{Event}
use Rattle.ir_log.specs.declared.event.Event.TheVariants.{Answer, Read, Write, Try}
use Rattle.ir_thread.specs.State.{most_events}
use Rattle.ir_trace.specs.Recorded.{Recorded, recorded_thread, trace_of}
use Rattle.ir_trace.specs.Bounds.{IsRecorded}
use Rattle.ir_coherence.proofs.CallerLemmas.{recorded_thread_fits}
use Rattle.ir_past.specs.Past.{event_at, IsReadAt}
use Rattle.ir_past.proofs.CallerLemmas.{event_thread_exists}
use Rattle.ir_picture.specs.Placing.{placed_reads}

pub reads_one_of_read : (o v : ℕ) → reads_one o v (label_of (Read o v)) ≡ 1
reads_one_of_read o v = ap (λ b. cond b (cond (eqb v v) 1 0) 0) (eq-eqb o o refl) ∙ ap (λ b. cond b 1 0) (eq-eqb v v refl)

pub reads_one_of_other : (e : Event) (o v : ℕ) → (e ≡ Read o v → ⊥) → reads_one o v (label_of e) ≡ 0
reads_one_of_other (Answer kind value) o v ne = refl
reads_one_of_other (Read p w) o v ne = elim (cases_eq p o) [
  | inl object ↦ elim (cases_eq w v) [
    | inl version ↦ absurd (ne (λ i. Read (object i) (version i)))
    | inr other ↦ ap {B = ℕ} (λ b. cond (eqb p o) (cond b 1 0) 0) (ne_eqb w v other) ∙ none (eqb p o)
  ]
  | inr other ↦ ap {B = ℕ} (λ b. cond b (cond (eqb w v) 1 0) 0) (ne_eqb p o other)
]
  where
    none : (b : Bool) → ◌≡◌ {A = ℕ} (cond b 0 0) 0
    none true = refl
    none false = refl
reads_one_of_other (Write p w l) o v ne = refl
reads_one_of_other (Try p) o v ne = refl

pub reads_one_at_most_one : (o v : ℕ) (e : Event) → reads_one o v (label_of e) ≤ 1
reads_one_at_most_one o v (Answer kind value) = omega arith
reads_one_at_most_one o v (Read p w) = few (eqb p o) (eqb w v)
  where
    few : (a b : Bool) → cond {A = ℕ} a (cond b 1 0) 0 ≤ 1
    few true true = omega arith
    few true false = omega arith
    few false true = omega arith
    few false false = omega arith
reads_one_at_most_one o v (Write p w l) = omega arith
reads_one_at_most_one o v (Try p) = omega arith

-- ---- one log

pub prefix_reads_le_length : (o v n : ℕ) (es : List Event) → reads o v (map label_of (take n es)) ≤ length es
prefix_reads_le_length o v zero es = omega arith
prefix_reads_le_length o v (suc n) [] = omega arith
prefix_reads_le_length o v (suc n) (e ∷ es) = omega (arith, reads_one_at_most_one o v e, prefix_reads_le_length o v n es)

pub prefix_reads_le_reads : (o v n : ℕ) (es : List Event) → reads o v (map label_of (take n es)) ≤ reads o v (map label_of es)
prefix_reads_le_reads o v zero es = omega arith
prefix_reads_le_reads o v (suc n) [] = omega arith
prefix_reads_le_reads o v (suc n) (e ∷ es) = omega (arith, prefix_reads_le_reads o v n es)

pub reads_of_prefix_step : (o v n : ℕ) (es : List Event) (e : Event) → slice_get es n ≡ Some e
    → reads o v (map label_of (take (suc n) es)) ≡ reads_one o v (label_of e) + reads o v (map label_of (take n es))
reads_of_prefix_step o v n [] e is = absurd (none-some e is)
reads_of_prefix_step o v zero (x ∷ es) e is = omega (arith, ap (λ (y : Event). reads_one o v (label_of y)) (same_Some x e is))
reads_of_prefix_step o v (suc n) (x ∷ es) e is = omega (arith, reads_of_prefix_step o v n es e is)

reads_positive_if_read : (o v j : ℕ) (es : List Event) → slice_get es j ≡ Some (Read o v) → 0 < reads o v (map label_of es)
reads_positive_if_read o v j [] is = absurd (none-some (Read o v) is)
reads_positive_if_read o v zero (x ∷ es) is = omega (arith, ap (λ (y : Event). reads_one o v (label_of y)) (same_Some x (Read o v) is), reads_one_of_read o v)
reads_positive_if_read o v (suc j) (x ∷ es) is = omega (arith, reads_positive_if_read o v j es is)

-- all are counted where each is among the first n
pub prefix_has_all_reads : (o v n : ℕ) (es : List Event) → ((j : ℕ) → slice_get es j ≡ Some (Read o v) → j < n)
    → reads o v (map label_of (take n es)) ≡ reads o v (map label_of es)
prefix_has_all_reads o v zero [] all = refl
prefix_has_all_reads o v zero (e ∷ es) all =
    omega (
      arith,
      reads_one_of_other e o v (λ same. absurd (omega (arith, all 0 (ap Some same)))),
      prefix_has_all_reads o v zero es (λ j is. absurd (omega (arith, all (suc j) is))),
      zero_reads es,
    )
  where
    zero_reads : (xs : List Event) → reads o v (map label_of (take 0 xs)) ≡ 0
    zero_reads xs = refl
prefix_has_all_reads o v (suc n) [] all = refl
prefix_has_all_reads o v (suc n) (e ∷ es) all = omega (arith, prefix_has_all_reads o v n es (λ j is. omega (arith, all (suc j) is)))

-- each is among the first n where all are counted there
pub all_reads_within_prefix : (o v n j : ℕ) (es : List Event) → reads o v (map label_of (take n es)) ≡ reads o v (map label_of es)
    → slice_get es j ≡ Some (Read o v) → j < n
all_reads_within_prefix o v zero j es same is = absurd (omega (arith, same, reads_positive_if_read o v j es is))
all_reads_within_prefix o v (suc n) j [] same is = absurd (none-some (Read o v) is)
all_reads_within_prefix o v (suc n) zero (e ∷ es) same is = omega arith
all_reads_within_prefix o v (suc n) (suc j) (e ∷ es) same is = omega (arith, all_reads_within_prefix o v n j es (omega (arith, same)) is)

-- ---- all logs

sum_below_term_raised : (n t k : ℕ) (f g : ℕ → ℕ) → t < n → g t ≡ k + f t → ((u : ℕ) → (u ≡ t → ⊥) → g u ≡ f u) → sum_below n g ≡ k + sum_below n f
sum_below_term_raised zero t k f g l h other = absurd (omega (arith, l))
sum_below_term_raised (suc n) t k f g l h other = elim (cases_eq n t) [
  | inl e ↦ omega (arith, ap f e, ap g e, h, sum_below_cong n g f (λ u less. other u (λ same. absurd (omega (arith, less, same, e)))))
  | inr ne ↦ omega (arith, other n ne, sum_below_term_raised n t k f g (omega (arith, l, ne)) h other)
]

sum_below_le_product : (n m : ℕ) (f : ℕ → ℕ) → ((t : ℕ) → t < n → f t ≤ m) → sum_below n f ≤ n * m
sum_below_le_product zero m f h = omega arith
sum_below_le_product (suc n) m f h = grind (arith, h n (omega arith), sum_below_le_product n m f (λ t l. h t (omega arith)))

-- the terms of equal sums, none of which falls, are equal
equal_sums_equal_terms : (n u : ℕ) (f g : ℕ → ℕ) → ((t : ℕ) → f t ≤ g t) → sum_below n f ≡ sum_below n g → u < n → f u ≡ g u
equal_sums_equal_terms n u f g le same l = elim (cases_lt (f u) (g u)) [
  | inl less ↦ absurd (omega (arith, same, sum_below_less n u f g l less le))
  | inr not ↦ omega (arith, not, le u)
]

-- how many read entries of object o at version v a trace has
abbrev pub all_reads : Recorded → ℕ → ℕ → ℕ
all_reads r o v = sum_below (length r.threads) (λ u. reads o v ((trace_of r).logs u))

pub all_placed_reads_equal : (r : Recorded) (c : ℕ → ℕ) (o v : ℕ) → ((u j : ℕ) → IsReadAt r u j o v → j < c u) → placed_reads r c o v ≡ all_reads r o v
all_placed_reads_equal r c o v all = sum_below_cong (length r.threads) (λ u. reads o v (map label_of (take (c u) (recorded_thread r u).events)))
    (λ u. reads o v ((trace_of r).logs u)) (λ u l. prefix_has_all_reads o v (c u) (recorded_thread r u).events (all u))

pub equal_reads_are_placed : (r : Recorded) (c : ℕ → ℕ) (o v u j : ℕ) → placed_reads r c o v ≡ all_reads r o v → IsReadAt r u j o v → j < c u
equal_reads_are_placed r c o v u j same is = all_reads_within_prefix o v (c u) j (recorded_thread r u).events
    (equal_sums_equal_terms (length r.threads) u (λ x. reads o v (map label_of (take (c x) (recorded_thread r x).events))) (λ x. reads o v ((trace_of r).logs x))
    (λ x. prefix_reads_le_reads o v (c x) (recorded_thread r x).events) same (event_thread_exists r u j (Read o v) is)) is

pub placed_reads_step : (r : Recorded) (c d : ℕ → ℕ) (t o v : ℕ) (e : Event) → event_at r t (c t) ≡ Some e → d t ≡ suc (c t)
    → ((u : ℕ) → (u ≡ t → ⊥) → d u ≡ c u) → placed_reads r d o v ≡ reads_one o v (label_of e) + placed_reads r c o v
placed_reads_step r c d t o v e is here other = sum_below_term_raised (length r.threads) t (reads_one o v (label_of e))
    (λ u. reads o v (map label_of (take (c u) (recorded_thread r u).events))) (λ u. reads o v (map label_of (take (d u) (recorded_thread r u).events)))
    (event_thread_exists r t (c t) e is)
    (ap (λ n. reads o v (map label_of (take n (recorded_thread r t).events))) here ∙ reads_of_prefix_step o v (c t) (recorded_thread r t).events e is)
    (λ u ne. ap (λ n. reads o v (map label_of (take n (recorded_thread r u).events))) (other u ne))

pub placed_reads_bound : (r : Recorded) (c : ℕ → ℕ) (o v : ℕ) → IsRecorded r → placed_reads r c o v ≤ length r.threads * most_events
placed_reads_bound r c o v fits = sum_below_le_product (length r.threads) most_events (λ u. reads o v (map label_of (take (c u) (recorded_thread r u).events)))
    (λ u l. omega (arith, prefix_reads_le_length o v (c u) (recorded_thread r u).events, (recorded_thread_fits r fits u l).few_events))

pub placed_reads_at_start : (r : Recorded) (o v : ℕ) → placed_reads r (λ u. 0) o v ≡ 0
placed_reads_at_start r o v = zeros (length r.threads)
  where
    zeros : (n : ℕ) → sum_below n (λ u. reads o v (map label_of (take 0 (recorded_thread r u).events))) ≡ 0
    zeros zero = refl
    zeros (suc n) = omega (arith, zeros n)
