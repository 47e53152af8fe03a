-- Two threads that have the same least or greatest cut, where it isn't the one that they start at, are the same.
use Rattle.std.proofs.Common.{◌≡◌, ℕ, zero, suc, ◌+◌, ◌<◌, ◌≤◌, ◌⊎◌, List, inl, inr, sym, ◌∙◌, arith}
use Rattle.std.proofs.lemmas.Bool.{cases_eq, cases_lt}
use Rattle.ir_runs.specs.Machine.{Machine}
use Rattle.ir_runs.specs.Lawful.{IsLawful}
use Rattle.ir_runs.specs.Admitted.{further}
use Rattle.ir_runs.specs.Verdicts.{sum_below}
use Rattle.ir_runs.specs.Run.{State, Step, IsRun, count, Cut, IsCut, Consistent, IsLeast, IsGreatest}
use Rattle.ir_runs.proofs.CallerLemmas.{StateInvariant, Progress, progress_to_consistent, sum_below_less, further_at_own_thread}
use Rattle.ir_runs.proofs.CallerLemmas.{further_at_other_thread, cut_below_further, further_within, below_target_or_none}

-- ---- one step further

-- the thread that is further is the one that has gone on
moved_is_further : (p : Cut) (w t k : ℕ) → p t < k → k ≤ further p w t → t ≡ w
moved_is_further p w t k lt le = elim (cases_eq t w) [
  | inl e ↦ e
  | inr ne ↦ absurd (omega (arith, further_at_other_thread p w t ne, lt, le))
]

-- ---- two cuts

-- ---- the same least cut

-- at the last step to the cut
least_step_thread_unique : {T : Type 0} (m : Machine T) (s : State T) (run : List Step) (p q c : Cut) (t k w : ℕ) → Consistent m s run c → IsCut m s run c
    → ((x : ℕ) → p x ≤ c x) → IsLeast m s run p t k q → c w < q w → ((x : ℕ) → q x ≤ further c w x) → t ≡ w
least_step_thread_unique m s run p q c t k w con cut above least lt all = moved_is_further c w t k
    (elim (cases_lt (c t) k) [
      | inl l ↦ l
      | inr ge ↦ absurd (omega (arith, least.least c cut con above ge w, lt))
    ])
    (omega (arith, least.reaches, all t))

least_thread_unique_from : {T : Type 0} (m : Machine T) → IsLawful m → (s : State T) → StateInvariant m s → (run : List Step) → IsRun m s run → (n : ℕ)
    → ((x : ℕ) → n ≤ x → count m s run x ≡ 0) → (p q : Cut) (t k u j : ℕ) → IsLeast m s run p t k q → IsLeast m s run p u j q
    → (left : ℕ) (c : Cut) → Consistent m s run c → ((x : ℕ) → p x ≤ c x) → ((x : ℕ) → c x ≤ q x) → (x : ℕ) → c x < q x
    → sum_below n q ≤ left + sum_below n c → t ≡ u
least_thread_unique_from {T} m law s good run ok n idle p q t k u j first second zero c con above within x lt sums =
    absurd (omega (arith, sums, sum_below_less n x c q (below_count x lt) lt within))
  where
    below_count : (y : ℕ) → c y < q y → y < n
    below_count y l = elim (cases_lt y n) [
      | inl less ↦ less
      | inr past ↦ absurd (omega (arith, l, first.cut y, idle y past))
    ]
least_thread_unique_from {T} m law s good run ok n idle p q t k u j first second (suc left) c con above within x lt sums =
    by (below_target_or_none n (further c w) q)
    (λ y less. least_thread_unique_from m law s good run ok n idle p q t k u j first second left (further c w) found.consistent
    (λ z. omega (arith, above z, cut_below_further c w z)) (further_within c q w found.below within) y less (omega (arith, sums, more)))
  where
    found : Progress m s run c q
    found = progress_to_consistent m law s good run ok c q con first.consistent first.cut x lt

    w : ℕ
    w = found.thread

    below_count : (y : ℕ) → c y < q y → y < n
    below_count y l = elim (cases_lt y n) [
      | inl less ↦ less
      | inr past ↦ absurd (omega (arith, l, first.cut y, idle y past))
    ]

    cut : IsCut m s run c
    cut y = omega (arith, within y, first.cut y)

    everywhere : ((y : ℕ) → y < n → q y ≤ further c w y) → (y : ℕ) → q y ≤ further c w y
    everywhere none y = elim (cases_lt y n) [
      | inl less ↦ none y less
      | inr past ↦ omega (arith, first.cut y, idle y past)
    ]

    more : sum_below n c < sum_below n (further c w)
    more = sum_below_less n w c (further c w) (below_count w found.below) (omega (arith, further_at_own_thread c w)) (cut_below_further c w)

    by : ((y : ℕ) × (y < n) × (further c w y < q y)) ⊎ ((y : ℕ) → y < n → q y ≤ further c w y) → ((y : ℕ) → further c w y < q y → t ≡ u) → t ≡ u
    by (inl (y, l, less)) again = again y less
    by (inr none) again = least_step_thread_unique m s run p q c t k w con cut above first found.below (everywhere none)
        ∙ sym (least_step_thread_unique m s run p q c u j w con cut above second found.below (everywhere none))

-- the least cuts of two threads are different, unless they are where the threads are
pub same_least_same_thread : {T : Type 0} (m : Machine T) → IsLawful m → (s : State T) → StateInvariant m s → (run : List Step) → IsRun m s run
    → (n : ℕ) → ((x : ℕ) → n ≤ x → count m s run x ≡ 0) → (p q : Cut) (t k u j : ℕ) → Consistent m s run p → IsLeast m s run p t k q
    → IsLeast m s run p u j q → (x : ℕ) → p x < q x → t ≡ u
same_least_same_thread m law s good run ok n idle p q t k u j con first second x lt =
    least_thread_unique_from m law s good run ok n idle p q t k u j first second (sum_below n q) p con (λ y. omega arith) first.above x lt (omega arith)

-- ---- the same greatest cut

greatest_step_thread_unique : {T : Type 0} (m : Machine T) (s : State T) (run : List Step) (p q : Cut) (t k w : ℕ) → IsCut m s run p
    → Consistent m s run (further q w) → q w < p w → IsGreatest m s run p t k q → t ≡ w
greatest_step_thread_unique m s run p q t k w cut con lt greatest = moved_is_further q w t (suc k) (omega (arith, greatest.reaches))
    (elim (cases_lt k (further q w t)) [
      | inl l ↦ l
      | inr ge ↦ absurd (omega (
        arith,
        greatest.greatest (further q w) (λ x. omega (arith, further_within q p w lt greatest.below x, cut x)) con (further_within q p w lt greatest.below) ge w,
        further_at_own_thread q w,
      ))
    ])

pub same_greatest_thread : {T : Type 0} (m : Machine T) → IsLawful m → (s : State T) → StateInvariant m s → (run : List Step) → IsRun m s run
    → (p q : Cut) (t k u j : ℕ) → IsCut m s run p → Consistent m s run p → IsGreatest m s run p t k q → IsGreatest m s run p u j q
    → (x : ℕ) → q x < p x → t ≡ u
same_greatest_thread m law s good run ok p q t k u j cut con first second x lt =
    let found : Progress m s run q p = progress_to_consistent m law s good run ok q p first.consistent con cut x lt in
    greatest_step_thread_unique m s run p q t k found.thread cut found.consistent found.below first
    ∙ sym (greatest_step_thread_unique m s run p q u j found.thread cut found.consistent found.below second)
