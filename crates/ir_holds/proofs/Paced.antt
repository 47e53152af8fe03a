-- Numbers of steps that rise become numbers that rise by as many as a thread's steps, and no faster than all threads' steps together.
use Rattle.std.proofs.Common.{◌≡◌, ℕ, zero, suc, ◌+◌, ◌-◌, ◌^◌, ◌<◌, ◌≤◌, inl, inr, min, Some, List, [], length, ap, arith}
use Rattle.std.specs.List.{slice_get}
use Rattle.std.proofs.lemmas.Bool.{cases_lt}
use Rattle.std.proofs.lemmas.List.{get_or_past}
use Rattle.ir_runs.specs.Verdicts.{sum_below}
use Rattle.ir_runs.proofs.CallerLemmas.{sum_below_is_monotone, sum_below_less}
use Rattle.ir_thread.specs.declared.end.End.TheVariants.{Breakpoint}
use Rattle.ir_trace.specs.Recorded.{Recorded, RecordedThread, recorded_thread}
use Rattle.ir_picture.specs.declared.event_box.EventBox.{EventBox}
use Rattle.ir_holds.specs.Schedules.{IsSpotSchedule, IsPacing, all_steps}
use Rattle.ir_holds.proofs.Depths.{one_below, one_below_of_less, one_below_of_no_less, one_below_at_most_one, one_below_monotone}
use Rattle.ir_holds.specs.declared.span.Span.{Span}

-- ---- the steps of a thread before a number

-- how many of the first m steps have a number below y
abbrev pub steps_below : (ℕ → ℕ) → ℕ → ℕ → ℕ
steps_below f zero y = 0
steps_below f (suc m) y = one_below (f m) y + steps_below f m y

steps_below_monotone : (f : ℕ → ℕ) (m y z : ℕ) → y ≤ z → steps_below f m y ≤ steps_below f m z
steps_below_monotone f zero y z low = omega arith
steps_below_monotone f (suc m) y z low =
    let a = one_below_monotone (f m) y z low in
    let b = steps_below_monotone f m y z low in
    omega (arith, a, b)

steps_below_at_most_all : (f : ℕ → ℕ) (m y : ℕ) → steps_below f m y ≤ m
steps_below_at_most_all f zero y = omega arith
steps_below_at_most_all f (suc m) y =
    let a = one_below_at_most_one (f m) y in
    let b = steps_below_at_most_all f m y in
    omega (arith, a, b)

-- so many as come before a step
steps_below_of_step : (f : ℕ → ℕ) → ((j k : ℕ) → j < k → f j < f k) → (m k : ℕ) → steps_below f m (f k) ≡ min k m
steps_below_of_step f up zero k = omega arith
steps_below_of_step f up (suc m) k =
    let rest = steps_below_of_step f up m k in
    elim (cases_lt m k) [
      | inl less ↦ let here = one_below_of_less (f m) (f k) (up m k less) in omega (arith, rest, here, less)
      | inr past ↦
          let low : f k ≤ f m = elim (cases_lt k m) [
            | inl more ↦ let rise = up k m more in omega (arith, rise)
            | inr not ↦ let same : k ≡ m = omega (arith, past, not) in let equal = ap f same in omega (arith, equal)
          ] in
          let here = one_below_of_no_less (f m) (f k) low in
          omega (arith, rest, here, past)
    ]

-- a step is below each number past its own
step_below_counts_more : (f : ℕ → ℕ) (m i y : ℕ) → i < m → f i < y → steps_below f m (f i) + 1 ≤ steps_below f m y
step_below_counts_more f zero i y within less = absurd (omega (arith, within))
step_below_counts_more f (suc m) i y within less = elim (cases_lt i m) [
  | inl early ↦
      let a = one_below_monotone (f m) (f i) y (omega (arith, less)) in
      let b = step_below_counts_more f m i y early less in
      omega (arith, a, b)
  | inr late ↦
      let same : i ≡ m = omega (arith, within, late) in
      let equal : f i ≡ f m = ap f same in
      let a = one_below_of_no_less (f m) (f i) (omega (arith, equal)) in
      let b = one_below_of_less (f m) y (omega (arith, equal, less)) in
      let c = steps_below_monotone f m (f i) y (omega (arith, less)) in
      omega (arith, a, b, c)
]

-- ---- the steps of all threads

sum_gains_by_one_term : (n : ℕ) (f g : ℕ → ℕ) (t d : ℕ) → ((u : ℕ) → f u ≤ g u) → t < n → f t + d ≤ g t → sum_below n f + d ≤ sum_below n g
sum_gains_by_one_term zero f g t d all within own = absurd (omega (arith, within))
sum_gains_by_one_term (suc n) f g t d all within own = elim (cases_lt t n) [
  | inl early ↦ let rest = sum_gains_by_one_term n f g t d all early own in let here = all n in omega (arith, rest, here)
  | inr late ↦
      let same : t ≡ n = omega (arith, within, late) in
      let of_f = ap f same in
      let of_g = ap g same in
      let rest = sum_below_is_monotone n f g all in
      omega (arith, rest, own, of_f, of_g)
]

-- how many steps of all threads have a number below y
abbrev pub all_below : Recorded → (ℕ → ℕ → ℕ) → ℕ → ℕ
all_below r at y = sum_below (length r.threads) (λ u. steps_below (at u) (recorded_thread r u).steps y)

-- the new number of step k of thread t; steps past the last of a thread follow
abbrev pub paced : Recorded → (ℕ → ℕ → ℕ) → ℕ → ℕ → ℕ
paced r at t k = (k - (recorded_thread r t).steps) + all_below r at (at t k)

paced_gains_by_steps : (r : Recorded) (at : ℕ → ℕ → ℕ) → ((t j k : ℕ) → j < k → at t j < at t k) → ((t : ℕ) → length r.threads ≤ t → (recorded_thread r t).steps ≡ 0)
    → (t j k : ℕ) → j ≤ k → paced r at t j + (k - j) ≤ paced r at t k
paced_gains_by_steps r at up none t j k low = elim (cases_lt t (length r.threads)) [
  | inl here ↦
      let more = sum_gains_by_one_term (length r.threads) (λ u. steps_below (at u) (recorded_thread r u).steps (at t j))
      (λ u. steps_below (at u) (recorded_thread r u).steps (at t k)) t (min k (recorded_thread r t).steps - min j (recorded_thread r t).steps)
      (λ u. steps_below_monotone (at u) (recorded_thread r u).steps (at t j) (at t k) by) here own in
      omega (arith, low, more)
  | inr past ↦
      let no = none t past in
      let more = sum_below_is_monotone (length r.threads) (λ u. steps_below (at u) (recorded_thread r u).steps (at t j))
      (λ u. steps_below (at u) (recorded_thread r u).steps (at t k)) (λ u. steps_below_monotone (at u) (recorded_thread r u).steps (at t j) (at t k) by) in
      omega (arith, low, no, more)
]
  where
    by : at t j ≤ at t k
    by = elim (cases_lt j k) [
      | inl less ↦ let rise = up t j k less in omega (arith, rise)
      | inr not ↦ let same : j ≡ k = omega (arith, low, not) in let equal = ap (at t) same in omega (arith, equal)
    ]

    own : steps_below (at t) (recorded_thread r t).steps (at t j) + (min k (recorded_thread r t).steps - min j (recorded_thread r t).steps)
        ≤ steps_below (at t) (recorded_thread r t).steps (at t k)
    own =
        let a = steps_below_of_step (at t) (up t) (recorded_thread r t).steps j in
        let b = steps_below_of_step (at t) (up t) (recorded_thread r t).steps k in
        omega (arith, a, b, low)

-- a thread that isn't there took no step
missing_took_none : (r : Recorded) (t : ℕ) → length r.threads ≤ t → (recorded_thread r t).steps ≡ 0
missing_took_none r t past = ap (λ (x : RecordedThread). x.steps) (get_or_past r.threads t (record { steps = 0; end = Breakpoint; events = [] }) past)

stepping_is_there : (r : Recorded) (t k : ℕ) → k < (recorded_thread r t).steps → t < length r.threads
stepping_is_there r t k within = elim (cases_lt t (length r.threads)) [
  | inl here ↦ here
  | inr past ↦ let none = missing_took_none r t past in absurd (omega (arith, within, none))
]

pub schedule_is_paced : (r : Recorded) (events : List EventBox) (spans : List Span) (at : ℕ → ℕ → ℕ) → all_steps r < 2 ^ 53 → IsSpotSchedule r events spans at
    → IsPacing r events spans (paced r at)
schedule_is_paced r events spans at few s = record {
  rises = paced_gains_by_steps r at s.rises (missing_took_none r);
  goes = s.goes;
  needs = λ m n a b z own is_a goes_a is_b goes_b need.
      let less = s.needs m n a b z own is_a goes_a is_b goes_b need in
      let within = s.within m z goes_a in
      let here : z.thread < length r.threads = stepping_is_there r z.thread z.last within in
      let more = sum_below_less (length r.threads) z.thread
      (λ u. steps_below (at u) (recorded_thread r u).steps (at z.thread z.last))
      (λ u. steps_below (at u) (recorded_thread r u).steps (at own.thread own.first)) here
      (let up = step_below_counts_more (at z.thread) (recorded_thread r z.thread).steps z.last (at own.thread own.first) within less in omega (arith, up))
      (λ u. steps_below_monotone (at u) (recorded_thread r u).steps (at z.thread z.last) (at own.thread own.first) (omega (arith, less))) in
      omega (arith, within, more);
  low = λ n own goes.
      let within = s.within n own goes in
      let most = sum_below_is_monotone (length r.threads) (λ u. steps_below (at u) (recorded_thread r u).steps (at own.thread own.last))
      (λ u. (recorded_thread r u).steps) (λ u. steps_below_at_most_all (at u) (recorded_thread r u).steps (at own.thread own.last)) in
      omega (arith, within, most, few);
}

-- no thread took more steps than all together
term_within_sum : (n : ℕ) (f : ℕ → ℕ) (t : ℕ) → t < n → f t ≤ sum_below n f
term_within_sum zero f t within = absurd (omega (arith, within))
term_within_sum (suc n) f t within = elim (cases_lt t n) [
  | inl early ↦ let rest = term_within_sum n f t early in omega (arith, rest)
  | inr late ↦ let same : t ≡ n = omega (arith, within, late) in let equal = ap f same in omega (arith, equal)
]

pub thread_steps_bound : (r : Recorded) → all_steps r < 2 ^ 53 → (t : ℕ) → t < length r.threads → (recorded_thread r t).steps < 2 ^ 53
thread_steps_bound r few t within = let by = term_within_sum (length r.threads) (λ u. (recorded_thread r u).steps) t within in omega (arith, by, few)

-- neither are the steps of boxes many
pub box_steps_bound : (r : Recorded) (events : List EventBox) (spans : List Span) → all_steps r < 2 ^ 53 → (at : ℕ → ℕ → ℕ) → IsSpotSchedule r events spans at
    → (n : ℕ) (own : Span) → slice_get spans n ≡ Some own → (own.first < 2 ^ 54) × (own.last < 2 ^ 54)
box_steps_bound r events spans few at s n own goes =
    let p = schedule_is_paced r events spans at few s in
    let by = p.goes n own goes in
    let up = p.rises own.thread 0 own.last (omega arith) in
    let low = p.low n own goes in
    (omega (arith, by, up, low), omega (arith, up, low))
