-- From a consistent cut of a run to a later cut, by steps of another run of the same threads.
use Rattle.std.proofs.Common.{◌≡◌, ◌≢◌, ℕ, zero, suc, ◌+◌, ◌<◌, ◌≤◌, inl, inr, Bool, true, false, cond, eqb, eq-eqb, ne_eqb, List, [], ◌∷◌}
use Rattle.std.proofs.Common.{◌++◌, Some, length, take, get_or, refl, sym, ap, ◌∙◌, subst, arith, append-nil, length-append, length-take}
use Rattle.std.specs.Prelude.{◌==◌, filter}
use Rattle.std.specs.List.{slice_get}
use Rattle.std.proofs.Math.Seq.{take-length}
use Rattle.std.proofs.lemmas.Bool.{cases_eq, cases_lt}
use Rattle.std.proofs.lemmas.List.{append_assoc, take-append-le}
use Rattle.std.proofs.lemmas.List.Filters.{length-filter_more}
use Rattle.std.proofs.lemmas.Option.{slice_get_within, get_or_from_slice_get}
use Rattle.ir_runs.specs.Machine.{Machine, Label}
use Rattle.ir_runs.specs.Lawful.{IsLawful}
use Rattle.ir_runs.specs.Run.{State, Step, Can, after, label, IsRun, end, join_if, trail, count, thread_in, At, Emits, Cut, IsCut, Consistent, part}
use Rattle.ir_runs.specs.Admitted.{further, Admitted}
use Rattle.ir_runs.specs.Verdicts.{sum_below}
use Rattle.ir_runs.proofs.CallerLemmas.{StateInvariant, trail_append, append_of_runs_is_run, end_append, sum_below_less}
use Rattle.ir_runs.proofs.CallerLemmas.{state_at_consistent_cut, Progress, progress_to_consistent, further_at_own_thread}
use Rattle.ir_runs.proofs.CallerLemmas.{further_at_other_thread, cut_below_further, further_within, zero_cut_part_is_empty}
use Rattle.ir_runs.proofs.CallerLemmas.{below_target_or_none}
use Rattle.ir_run_picture.specs.Laws.{IsStepAt}

-- ---- the steps of a thread among the first of a run

-- how many of these steps are of thread t
abbrev pub number_of : ℕ → List Step → ℕ
number_of t run = length (filter (λ (e : Step). e.0 == t) run)

conditional_cons_monotone : (b : Bool) (e : Step) (xs ys : List Step) → length xs ≤ length ys → length (cond b (e ∷ xs) xs) ≤ length (cond b (e ∷ ys) ys)
conditional_cons_monotone true e xs ys low = let more : suc (length xs) ≤ suc (length ys) = omega arith in more
conditional_cons_monotone false e xs ys low = low

pub number_of_monotone : (t m n : ℕ) (run : List Step) → m ≤ n → number_of t (take m run) ≤ number_of t (take n run)
number_of_monotone t zero n run low = let none : 0 ≤ number_of t (take n run) = omega arith in none
number_of_monotone t (suc m) zero run low = absurd (omega (arith, low))
number_of_monotone t (suc m) (suc n) [] low = omega arith
number_of_monotone t (suc m) (suc n) (e ∷ run) low =
    conditional_cons_monotone (e.0 == t) e (filter (λ (x : Step). x.0 == t) (take m run)) (filter (λ (x : Step). x.0 == t) (take n run))
    (number_of_monotone t m n run (omega (arith, low)))

pub number_of_own_step : (t r n : ℕ) (run : List Step) → slice_get run n ≡ Some (t, r) → number_of t (take (n + 1) run) ≡ number_of t (take n run) + 1
number_of_own_step t r n run there =
    let d : Step = (t, r) in
    let more = length-filter_more (λ (e : Step). e.0 == t) run n d (slice_get_within run n d there) in
    let is : get_or run n d ≡ d = get_or_from_slice_get run n d d there in
    let own : ((get_or run n d).0 == t) ≡ true = ap (λ (e : Step). e.0 == t) is ∙ eq-eqb t t refl in
    let one : cond ((get_or run n d).0 == t) 1 0 ≡ 1 = ap {B = ℕ} (λ (b : Bool). cond b 1 0) own in
    omega (arith, more, one)

-- a thread takes as many steps
pub steps_of_thread_counted : {T : Type 0} (m : Machine T) (s : State T) (run : List Step) (t : ℕ) → count m s run t ≡ number_of t run
steps_of_thread_counted m s [] t = refl
steps_of_thread_counted m s (e ∷ run) t = elim (cases_eq e.0 t) [
  | inl same ↦
      let rest = steps_of_thread_counted m (after m s e) run t in
      let left : count m s (e ∷ run) t ≡ suc (count m (after m s e) run t) =
      ap (λ (b : Bool). length (join_if b (s.now t, label m s e) (trail m (after m s e) run t))) (eq-eqb t e.0 (sym same)) in
      let right : number_of t (e ∷ run) ≡ suc (number_of t run) =
      ap (λ (b : Bool). length (cond b (e ∷ filter (λ (x : Step). x.0 == t) run) (filter (λ (x : Step). x.0 == t) run))) (eq-eqb e.0 t same) in
      omega (arith, rest, left, right)
  | inr other ↦
      let rest = steps_of_thread_counted m (after m s e) run t in
      let left : count m s (e ∷ run) t ≡ count m (after m s e) run t =
      ap (λ (b : Bool). length (join_if b (s.now t, label m s e) (trail m (after m s e) run t))) (ne_eqb t e.0 (λ same. other (sym same))) in
      let right : number_of t (e ∷ run) ≡ number_of t run =
      ap (λ (b : Bool). length (cond b (e ∷ filter (λ (x : Step). x.0 == t) run) (filter (λ (x : Step). x.0 == t) run))) (ne_eqb e.0 t other) in
      omega (arith, rest, left, right)
]

-- ---- runs that pass a cut

-- after so many steps of the run each thread is at its position of the cut
pub record Passes (run : List Step) (c : Cut) : Type 0 where
  pub at : ℕ
  pub within : at ≤ length run
  pub numbers : (t : ℕ) → number_of t (take at run) ≡ c t

pub step_in_cut_is_before : (run : List Step) (c : Cut) (x : Passes run c) (n t k : ℕ) → IsStepAt run n t k → k < c t → n < x.at
step_in_cut_is_before run c x n t k step inside = elim (cases_lt n x.at) [
  | inl less ↦ less
  | inr past ↦ absurd (let more = number_of_monotone t x.at n run past in let all = x.numbers t in let own = step.before in omega (arith, more, all, own, inside))
]

pub outside_cut_is_behind : (run : List Step) (c : Cut) (x : Passes run c) (n t k : ℕ) → IsStepAt run n t k → c t ≤ k → x.at ≤ n
outside_cut_is_behind run c x n t k step outside = elim (cases_lt n x.at) [
  | inl less ↦ absurd (
      let more = number_of_monotone t (n + 1) x.at run (omega (arith, less)) in
      let next = number_of_own_step t step.result n run step.there in
      let all = x.numbers t in
      let own = step.before in omega (arith, more, next, all, own, outside))
  | inr past ↦ past
]

-- a longer run passes it too
pub longer_run_passes : (run more : List Step) (c : Cut) → Passes run c → Passes (run ++ more) c
longer_run_passes run more c x = record {
  at = x.at;
  within = (let size = length-append run more in let low = x.within in omega (arith, size, low));
  numbers = λ t. ap (number_of t) (take-append-le x.at run more x.within) ∙ x.numbers t;
}

-- ---- runs that come to a cut of a run

-- the run of these steps has the threads' steps up to the cut, and comes to the cut's state
pub record ComesTo {T : Type 0} (m : Machine T) (s : State T) (run steps : List Step) (p : Cut) : Type 0 where
  pub runs : IsRun m s steps
  pub trails : (t : ℕ) → trail m s steps t ≡ take (p t) (trail m s run t)
  pub state : end m s steps ≡ end m s (part run p)

pub comes_to_first_cut : {T : Type 0} (m : Machine T) (s : State T) (run : List Step) → ComesTo m s run [] (λ t. 0)
comes_to_first_cut m s run = record {
  runs = tt;
  trails = λ t. refl;
  state = ap (end m s) (sym (zero_cut_part_is_empty run (λ t. 0) (λ t. refl)));
}

-- a run passes the cut to which it comes
pub run_passes_own_cut : {T : Type 0} (m : Machine T) (s : State T) (run steps : List Step) (p : Cut) → IsCut m s run p → ComesTo m s run steps p → Passes steps p
run_passes_own_cut m s run steps p cut x = record {
  at = length steps;
  within = omega arith;
  numbers = λ t.
      let all : number_of t (take (length steps) steps) ≡ number_of t steps = ap (number_of t) (take-length steps) in
      let same = steps_of_thread_counted m s steps t in
      let long = ap length (x.trails t) in
      let short = length-take (p t) (trail m s run t) in
      let within = cut t in omega (arith, all, same, long, short, within);
}

-- ---- a single step

take_suc_by_element : {A : Type 0} (xs : List A) (k : ℕ) (x : A) → At xs k x → take k xs ++ x ∷ [] ≡ take (suc k) xs
take_suc_by_element [] k x at = absurd at
take_suc_by_element (y ∷ xs) zero x at = ap (λ z. z ∷ []) (sym at)
take_suc_by_element (y ∷ xs) (suc k) x at = ap (λ l. y ∷ l) (take_suc_by_element xs k x at)

thread_in_at_step : {T : Type 0} (xs : List (T × Label)) (k : ℕ) (x last : T) (a : Label) → At xs k (x, a) → thread_in xs k last ≡ x
thread_in_at_step [] k x last a at = absurd at
thread_in_at_step (y ∷ xs) zero x last a at = ap (λ z. z.0) at
thread_in_at_step (y ∷ xs) (suc k) x last a at = thread_in_at_step xs k x last a at

-- the steps of a thread, with a step that emits what its next step in the run emits
own_trail_with_step : {T : Type 0} (m : Machine T) (s : State T) (run steps : List Step) (p : Cut) (t r : ℕ) → ComesTo m s run steps p
    → (end m s (part run p)).now t ≡ thread_in (trail m s run t) (p t) ((end m s run).now t)
    → Emits m s run t (p t) (label m (end m s (part run p)) (t, r))
    → trail m s (steps ++ (t, r) ∷ []) t ≡ take (further p t t) (trail m s run t)
own_trail_with_step {T} m s run steps p t r x now emits =
    let e : Step = (t, r) in
    let z : State T = end m s (part run p) in
    let same : z.now t ≡ emits.0 = now ∙ thread_in_at_step (trail m s run t) (p t) emits.0 ((end m s run).now t) (label m z e) emits.1 in
    let at : At (trail m s run t) (p t) (z.now t, label m z e) = subst (λ (y : T). At (trail m s run t) (p t) (y, label m z e)) (sym same) emits.1 in
    trail_append m s steps (e ∷ []) t
    ∙ ap (λ (b : Bool). trail m s steps t ++ join_if b ((end m s steps).now t, label m (end m s steps) e) []) (eq-eqb t t refl)
    ∙ ap (λ (y : State T). trail m s steps t ++ (y.now t, label m y e) ∷ []) x.state
    ∙ ap (λ l. l ++ (z.now t, label m z e) ∷ []) (x.trails t)
    ∙ take_suc_by_element (trail m s run t) (p t) (z.now t, label m z e) at
    ∙ ap (λ n. take n (trail m s run t)) (sym (further_at_own_thread p t))

other_trail_with_step : {T : Type 0} (m : Machine T) (s : State T) (run steps : List Step) (p : Cut) (t r u : ℕ) → ComesTo m s run steps p → u ≢ t
    → trail m s (steps ++ (t, r) ∷ []) u ≡ take (further p t u) (trail m s run u)
other_trail_with_step m s run steps p t r u x ne =
    let e : Step = (t, r) in
    trail_append m s steps (e ∷ []) u
    ∙ ap (λ (b : Bool). trail m s steps u ++ join_if b ((end m s steps).now u, label m (end m s steps) e) []) (ne_eqb u t ne)
    ∙ append-nil (trail m s steps u)
    ∙ x.trails u
    ∙ ap (λ n. take n (trail m s run u)) (sym (further_at_other_thread p t u ne))

step_comes_further : {T : Type 0} (m : Machine T) → IsLawful m → (s : State T) → StateInvariant m s → (run : List Step) → IsRun m s run → (steps : List Step) (p : Cut)
    → IsCut m s run p → Consistent m s run p → ComesTo m s run steps p → (t : ℕ) → Admitted m s run p t
    → (e : Step) × ComesTo m s run (steps ++ e ∷ []) (further p t)
step_comes_further m law s good run ok steps p cut consistent x t admitted =
    let at = state_at_consistent_cut m law s good run ok p cut consistent in
    let next = at.steps t admitted in
    let e : Step = (t, next.0) in (
      e,
      record {
        runs = append_of_runs_is_run m s steps (e ∷ []) x.runs (subst (λ z. Can m z e) (sym x.state) next.1, tt);
        trails = λ u. elim (cases_eq u t) [
          | inl same ↦ subst (λ z. trail m s (steps ++ e ∷ []) z ≡ take (further p t z) (trail m s run z)) (sym same)
              (own_trail_with_step m s run steps p t next.0 x (at.threads t) next.3)
          | inr ne ↦ other_trail_with_step m s run steps p t next.0 u x ne
        ];
        state = end_append m s steps (e ∷ []) ∙ ap (λ z. after m z e) x.state ∙ next.2;
      },
    )

-- ---- all steps

-- a target of n threads
pub record IsTarget {T : Type 0} (m : Machine T) (s : State T) (run : List Step) (n : ℕ) (p q : Cut) : Type 0 where
  pub cut : IsCut m s run q
  pub consistent : Consistent m s run q
  pub above : (t : ℕ) → p t ≤ q t
  pub others : (t : ℕ) → n ≤ t → q t ≡ p t

-- a step further the target is still a target
target_after_further : {T : Type 0} (m : Machine T) (s : State T) (run : List Step) (n : ℕ) (p q : Cut) (t : ℕ) → t < n → p t < q t → IsTarget m s run n p q
    → IsTarget m s run n (further p t) q
target_after_further m s run n p q t there less h = record {
  cut = h.cut;
  consistent = h.consistent;
  above = further_within p q t less h.above;
  others = λ u past. h.others u past ∙ sym (further_at_other_thread p t u (λ same. omega (arith, there, past, same)));
}

comes_to_same_cut : {T : Type 0} (m : Machine T) (s : State T) (run steps : List Step) (p q : Cut) → ((t : ℕ) → p t ≡ q t) → ComesTo m s run steps p
    → ComesTo m s run steps q
comes_to_same_cut m s run steps p q same x =
    let one : p ≡ q = λ i t. same t i in
    subst (ComesTo m s run steps) one x

none_below_arrives : {T : Type 0} (m : Machine T) (s : State T) (run : List Step) (n : ℕ) (steps : List Step) (p q : Cut) → IsTarget m s run n p q
    → ComesTo m s run steps p → ((t : ℕ) → t < n → q t ≤ p t) → (more : List Step) × ComesTo m s run (steps ++ more) q
none_below_arrives m s run n steps p q h x none =
    ([], subst (λ z. ComesTo m s run z q) (sym (append-nil steps)) (comes_to_same_cut m s run steps p q same x))
  where
    same : (t : ℕ) → p t ≡ q t
    same t = elim (cases_lt t n) [
      | inl there ↦ (let low = none t there in let high = h.above t in omega (arith, low, high))
      | inr past ↦ sym (h.others t past)
    ]

below_target_is_there : {T : Type 0} (m : Machine T) (s : State T) (run : List Step) (n : ℕ) (p q : Cut) → IsTarget m s run n p q → (t : ℕ)
    → p t < q t → t < n
below_target_is_there m s run n p q h t less = elim (cases_lt t n) [
  | inl there ↦ there
  | inr past ↦ absurd (let same = h.others t past in omega (arith, same, less))
]

comes_by_step_and_rest : {T : Type 0} (m : Machine T) (s : State T) (run : List Step) (q : Cut) (steps : List Step) (e : Step) (more : List Step)
    → ComesTo m s run ((steps ++ e ∷ []) ++ more) q → ComesTo m s run (steps ++ (e ∷ more)) q
comes_by_step_and_rest m s run q steps e more x = subst (λ z. ComesTo m s run z q) (append_assoc steps (e ∷ []) more) x

pub run_comes_to_target : {T : Type 0} (m : Machine T) → IsLawful m → (s : State T) → StateInvariant m s → (run : List Step) → IsRun m s run → (n fuel : ℕ)
    (steps : List Step) (p q : Cut) → IsCut m s run p → Consistent m s run p → IsTarget m s run n p q → ComesTo m s run steps p
    → sum_below n q ≤ sum_below n p + fuel → (more : List Step) × ComesTo m s run (steps ++ more) q
run_comes_to_target m law s good run ok n zero steps p q cut consistent h x enough = elim (below_target_or_none n p q) [
  | inl found ↦ absurd (let more = sum_below_less n found.0 p q found.1 found.2 h.above in omega (arith, more, enough))
  | inr none ↦ none_below_arrives m s run n steps p q h x none
]
run_comes_to_target m law s good run ok n (suc fuel) steps p q cut consistent h x enough = elim (below_target_or_none n p q) [
  | inl found ↦
      let next : Progress m s run p q = progress_to_consistent m law s good run ok p q consistent h.consistent h.cut found.0 found.2 in
      let t = next.thread in
      let less = next.below in
      let there = below_target_is_there m s run n p q h t less in
      let high = h.cut t in
      let one = step_comes_further m law s good run ok steps p cut consistent x t (omega (arith, less, high), next.consistent) in
      let target = target_after_further m s run n p q t there less h in
      let own = further_at_own_thread p t in
      let more = sum_below_less n t p (further p t) there (omega (arith, own)) (cut_below_further p t) in
      let rest = run_comes_to_target m law s good run ok n fuel (steps ++ one.0 ∷ []) (further p t) q
      (λ u. let low = target.above u in let top = h.cut u in omega (arith, low, top)) next.consistent target one.1 (omega (arith, more, enough)) in
      (one.0 ∷ rest.0, comes_by_step_and_rest m s run q steps one.0 rest.0 rest.1)
  | inr none ↦ none_below_arrives m s run n steps p q h x none
]
