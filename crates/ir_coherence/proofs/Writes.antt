-- Counts of write entries, and the entries themselves.
use Rattle.std.proofs.Common.{◌≡◌, ℕ, suc, zero, ◌+◌, ◌<◌, ◌≤◌, ◌⊎◌, inl, inr, Bool, true, false, cond, eqb, List, [], ◌∷◌, refl, sym, ap, ◌∙◌, subst, arith, eq-eqb, ne_eqb}
use Rattle.std.proofs.lemmas.Bool.{cases_eq, cases_lt}
use Rattle.ir_runs.specs.Machine.{Label, Quiet, Answer, EnteredAt, FailedTry, LeftAt, Trace}
use Rattle.ir_runs.specs.declared.access.Access.TheVariants.{Reading, Writing}
use Rattle.ir_runs.specs.Verdicts.{sum_below}
use Rattle.ir_coherence.specs.Counting.{writes_one, writes_among, writes_in}
use Rattle.ir_runs.specs.Run.{At}

writes_one_of_write : (o v k : ℕ) → writes_one o v (EnteredAt o Writing v k) ≡ 1
writes_one_of_write o v k = ap (λ b. cond b (cond (eqb v v) 1 0) 0) (eq-eqb o o refl) ∙ ap (λ b. cond b 1 0) (eq-eqb v v refl)

-- a label that is counted is a write entry
write_label_is_entry : (o v : ℕ) (m : Label) → 0 < writes_one o v m → (k : ℕ) × (m ≡ EnteredAt o Writing v k)
write_label_is_entry o v Quiet h = absurd (omega arith)
write_label_is_entry o v (Answer k x) h = absurd (omega arith)
write_label_is_entry o v (EnteredAt p Reading w l) h = absurd (omega arith)
write_label_is_entry o v (EnteredAt p Writing w l) h = elim (cases_eq p o) [
  | inl e ↦ elim (cases_eq w v) [
    | inl f ↦ (l, cc)
    | inr ne ↦ absurd (omega (arith, same, ap {B = ℕ} (λ b. cond (eqb p o) (cond b 1 0) 0) (ne_eqb w v ne), none (eqb p o)))
  ]
  | inr ne ↦ absurd (omega (arith, same, ap {B = ℕ} (λ b. cond b (cond (eqb w v) 1 0) 0) (ne_eqb p o ne)))
]
  where
    same : writes_one o v (EnteredAt p Writing w l) ≡ cond (eqb p o) (cond (eqb w v) 1 0) 0
    same = refl

    none : (b : Bool) → ◌≡◌ {A = ℕ} (cond b 0 0) 0
    none true = refl
    none false = refl
write_label_is_entry o v (FailedTry p) h = absurd (omega arith)
write_label_is_entry o v (LeftAt p a w) h = absurd (omega arith)

counted_has_write_entry : (o v : ℕ) (ks : List Label) → 0 < writes_among o v ks → (j k : ℕ) × At ks j (EnteredAt o Writing v k)
counted_has_write_entry o v [] h = absurd (omega arith)
counted_has_write_entry o v (m ∷ ks) h = elim (cases_lt 0 (writes_one o v m)) [
  | inl here ↦ let w = write_label_is_entry o v m here in (zero, w.0, w.1)
  | inr none ↦ let r = counted_has_write_entry o v ks (omega arith) in (suc r.0, r.1, r.2)
]

write_entry_is_counted : (o v k : ℕ) (ks : List Label) (j : ℕ) → At ks j (EnteredAt o Writing v k) → 0 < writes_among o v ks
write_entry_is_counted o v k [] j at = absurd at
write_entry_is_counted o v k (m ∷ ks) zero at = omega (arith, ap (writes_one o v) at, writes_one_of_write o v k)
write_entry_is_counted o v k (m ∷ ks) (suc j) at = omega (arith, write_entry_is_counted o v k ks j at)

two_entries_counted : (o v k l : ℕ) (ks : List Label) (i j : ℕ) → At ks i (EnteredAt o Writing v k) → At ks j (EnteredAt o Writing v l) → (i ≡ j → ⊥)
    → 1 < writes_among o v ks
two_entries_counted o v k l [] i j a b ne = absurd a
two_entries_counted o v k l (m ∷ ks) zero zero a b ne = absurd (ne refl)
two_entries_counted o v k l (m ∷ ks) zero (suc j) a b ne = omega (arith, ap (writes_one o v) a, writes_one_of_write o v k, write_entry_is_counted o v l ks j b)
two_entries_counted o v k l (m ∷ ks) (suc i) zero a b ne = omega (arith, ap (writes_one o v) b, writes_one_of_write o v l, write_entry_is_counted o v k ks i a)
two_entries_counted o v k l (m ∷ ks) (suc i) (suc j) a b ne = omega (arith, two_entries_counted o v k l ks i j a b (λ e. ne (ap suc e)))

other_write_entry_exists : (o v k : ℕ) (ks : List Label) (i : ℕ) → At ks i (EnteredAt o Writing v k) → 1 < writes_among o v ks → (j l : ℕ)
    × At ks j (EnteredAt o Writing v l) × (i ≡ j → ⊥)
other_write_entry_exists o v k [] i a h = absurd a
other_write_entry_exists o v k (m ∷ ks) zero a h =
    let r = counted_has_write_entry o v ks (omega (arith, ap (writes_one o v) a, writes_one_of_write o v k)) in
    (suc r.0, r.1, r.2, λ e. absurd (omega arith))
other_write_entry_exists o v k (m ∷ ks) (suc i) a h = elim (cases_lt 0 (writes_one o v m)) [
  | inl here ↦ let w = write_label_is_entry o v m here in (zero, w.0, w.1, λ e. absurd (omega arith))
  | inr none ↦ let r = other_write_entry_exists o v k ks i a (omega arith) in (suc r.0, r.1, r.2, λ e. r.3 (omega arith))
]

positive_summand_exists : (n : ℕ) (f : ℕ → ℕ) → 0 < sum_below n f → (t : ℕ) × (t < n) × (0 < f t)
positive_summand_exists zero f h = absurd (omega arith)
positive_summand_exists (suc n) f h = elim (cases_lt 0 (f n)) [
  | inl here ↦ (n, omega arith, here)
  | inr none ↦ let r = positive_summand_exists n f (omega arith) in (r.0, omega (arith, r.1), r.2)
]

summand_le_sum : (n t : ℕ) (f : ℕ → ℕ) → t < n → f t ≤ sum_below n f
summand_le_sum zero t f l = absurd (omega arith)
summand_le_sum (suc n) t f l = elim (cases_eq n t) [
  | inl e ↦ omega (arith, ap f e)
  | inr ne ↦ omega (arith, summand_le_sum n t f (omega arith))
]

two_summands_le_sum : (n t u : ℕ) (f : ℕ → ℕ) → t < n → u < n → (t ≡ u → ⊥) → f t + f u ≤ sum_below n f
two_summands_le_sum zero t u f l k ne = absurd (omega arith)
two_summands_le_sum (suc n) t u f l k ne = elim (cases_eq n t) [
  | inl e ↦ omega (arith, ap f e, summand_le_sum n u f (omega arith))
  | inr ne' ↦ elim (cases_eq n u) [
    | inl e ↦ omega (arith, ap f e, summand_le_sum n t f (omega arith))
    | inr ne'' ↦ omega (arith, two_summands_le_sum n t u f (omega arith) (omega arith) ne)
  ]
]

other_summand_exists : (n t : ℕ) (f : ℕ → ℕ) → t < n → 1 < sum_below n f → (1 < f t) ⊎ ((u : ℕ) × (t ≡ u → ⊥) × (0 < f u))
other_summand_exists zero t f l h = absurd (omega arith)
other_summand_exists (suc n) t f l h = elim (cases_eq n t) [
  | inl e ↦ elim (cases_lt 1 (f t)) [
    | inl two ↦ inl two
    | inr one ↦ let r = positive_summand_exists n f (omega (arith, ap f e)) in inr (r.0, λ same. absurd (omega (arith, r.1)), r.2)
  ]
  | inr ne ↦ elim (cases_lt 0 (f n)) [
    | inl here ↦ inr (n, λ same. ne (sym same), here)
    | inr none ↦ other_summand_exists n t f (omega arith) (omega arith)
  ]
]

-- the logs of all threads but the first n are empty
abbrev pub HasLogsOfThreads : ℕ → Trace → Type 0
HasLogsOfThreads n emitted = (t : ℕ) → n ≤ t → emitted.logs t ≡ []

pub label_thread_below : (n : ℕ) (emitted : Trace) → HasLogsOfThreads n emitted → (t i : ℕ) (m : Label) → At (emitted.logs t) i m → t < n
label_thread_below n emitted of t i m at = elim (cases_lt t n) [
  | inl less ↦ less
  | inr past ↦ absurd (subst (λ ks. At ks i m) (of t past) at)
]

pub counted_write_in_trace : (n : ℕ) (emitted : Trace) (o v : ℕ) → 0 < writes_in n emitted o v → (u j k : ℕ) × At (emitted.logs u) j (EnteredAt o Writing v k)
counted_write_in_trace n emitted o v h =
    let s = positive_summand_exists n (λ u. writes_among o v (emitted.logs u)) h in
    let w = counted_has_write_entry o v (emitted.logs s.0) s.2 in
    (s.0, w.0, w.1, w.2)

pub trace_write_is_counted : (n : ℕ) (emitted : Trace) → HasLogsOfThreads n emitted → (o v u j k : ℕ) → At (emitted.logs u) j (EnteredAt o Writing v k)
    → 0 < writes_in n emitted o v
trace_write_is_counted n emitted of o v u j k at =
    omega (
      arith,
      write_entry_is_counted o v k (emitted.logs u) j at,
      summand_le_sum n u (λ u. writes_among o v (emitted.logs u))
          (label_thread_below n emitted of u j (EnteredAt o Writing v k) at),
    )

pub two_writes_counted : (n : ℕ) (emitted : Trace) → HasLogsOfThreads n emitted → (o v t i k u j l : ℕ) → At (emitted.logs t) i (EnteredAt o Writing v k)
    → At (emitted.logs u) j (EnteredAt o Writing v l) → (t ≡ u → i ≡ j → ⊥) → 1 < writes_in n emitted o v
two_writes_counted n emitted of o v t i k u j l a b ne = elim (cases_eq t u) [
  | inl e ↦ omega (
    arith,
    two_entries_counted o v k l (emitted.logs t) i j a (subst (λ z. At (emitted.logs z) j (EnteredAt o Writing v l)) (sym e) b) (ne e),
    summand_le_sum n t (λ u. writes_among o v (emitted.logs u)) (label_thread_below n emitted of t i (EnteredAt o Writing v k) a),
  )
  | inr ne' ↦ omega (
    arith,
    write_entry_is_counted o v k (emitted.logs t) i a,
    write_entry_is_counted o v l (emitted.logs u) j b,
    two_summands_le_sum n t u
        (λ u. writes_among o v (emitted.logs u)) (label_thread_below n emitted of t i (EnteredAt o Writing v k) a) (label_thread_below n emitted of u j (EnteredAt o Writing v l) b) ne',
  )
]

pub other_trace_write_exists : (n : ℕ) (emitted : Trace) → HasLogsOfThreads n emitted → (o v t i k : ℕ) → At (emitted.logs t) i (EnteredAt o Writing v k)
    → 1 < writes_in n emitted o v → (u j l : ℕ) × At (emitted.logs u) j (EnteredAt o Writing v l) × (t ≡ u → i ≡ j → ⊥)
other_trace_write_exists n emitted of o v t i k a h = elim (other_summand_exists n t (λ u. writes_among o v (emitted.logs u)) (label_thread_below n emitted of t i (EnteredAt o Writing v k) a)
    h) [
      | inl two ↦ let r = other_write_entry_exists o v k (emitted.logs t) i a two in (t, r.0, r.1, r.2, λ _. r.3)
      | inr far ↦ let w = counted_has_write_entry o v (emitted.logs far.0) far.2 in (far.0, w.0, w.1, w.2, λ e _. far.1 e)
    ]
