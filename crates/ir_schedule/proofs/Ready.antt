-- Threads that have a step, and runs that are over.
use Rattle.std.proofs.Common.{◌≡◌, ℕ, zero, suc, ◌+◌, ◌<◌, ◌≤◌, Bool, List, [], ◌∷◌, ◌++◌, length, sym, ap, ◌∙◌, subst, arith, inl, inr, length-append}
use Rattle.std.proofs.lemmas.Bool.{cases_eq, cases_lt}
use Rattle.std.proofs.lemmas.List.Elements.{All-append, All-contains}
use Rattle.std.specs.List.{All, Contains}
use Rattle.ir_flat.proofs.CallerLemmas.{guest_run_not_stuck, guest_start_is_idle, length_of_start_threads}
use Rattle.ir_flat.specs.Flat.{Flat, start_flat, tables, machine}
use Rattle.ir_image.specs.Guest.{Guest}
use Rattle.ir_runs.proofs.CallerLemmas.{idle_after_run}
use Rattle.ir_runs.specs.Machine as machine
use Rattle.ir_runs.specs.Machine.{Machine, Admits, target}
use Rattle.ir_runs.specs.Run.{State, Step, asked, Can, after, IsRun, end, IsDone}
use Rattle.ir_thread.specs.State.{thread_machine}
use Rattle.ir_thread.specs.State as thread
use Rattle.ir_thread.specs.declared.profile.Profile.{Profile}
use Rattle.ir_schedule.specs.Moments.{Moment, Ran, RanToEnd, IsAtRest, AllThreadsRest, OthersRest, IsStartOfGuest}
use Rattle.ir_schedule.specs.Schedules.{AreReady, ChoosesSteps}
use Rattle.ir_schedule.specs.declared.chooser.Chooser.{Chooser}
use Rattle.ir_record.proofs.CallerLemmas.{ask_is_done_or_not}

-- each that is ready is a thread that has a step
abbrev pub HasStep : {T : Type 0} → Machine T → State T → ℕ → ℕ → Type 0
HasStep m s n t = (t < n) × Can m s (t, 0)

module _ {T : Type 0} (m : Machine T) (s : State T) where
  more : (n : ℕ) (ready : List ℕ) → All (HasStep m s n) ready → All (HasStep m s (suc n)) ready
  more n ready h k d l = (let less = (h k d l).0 in omega (arith, less), (h k d l).1)

  -- no more are ready than there are threads
  pub few_ready : (n : ℕ) (ready : List ℕ) → AreReady m s n ready → length ready ≤ n
  few_ready zero ready e = let none : length ready ≡ 0 = ap (λ xs. length xs) e in omega (arith, none)
  few_ready (suc n) ready (inl some) =
      let rest = few_ready n some.0 some.1 in
      let size : length ready ≡ length (some.0 ++ n ∷ []) = ap (λ xs. length xs) some.3 in
      let both = length-append some.0 (n ∷ []) in
      omega (arith, rest, size, both)
  few_ready (suc n) ready (inr none) = let rest = few_ready n ready none.0 in omega (arith, rest)

  pub each_ready : (n : ℕ) (ready : List ℕ) → AreReady m s n ready → All (HasStep m s n) ready
  each_ready zero ready e = subst (All (HasStep m s zero)) (sym e) (λ k d l. absurd (omega arith))
  each_ready (suc n) ready (inl some) = subst (All (HasStep m s (suc n))) (sym some.3)
      (All-append (HasStep m s (suc n)) some.0 (n ∷ []) (more n some.0 (each_ready n some.0 some.1)) last)
    where
      last : All (HasStep m s (suc n)) (n ∷ [])
      last zero d l = (omega arith, some.2)
      last (suc k) d l = absurd (omega (arith, l))
  each_ready (suc n) ready (inr none) = more n ready (each_ready n ready none.0)

  -- where none is ready, none of the threads has a step
  pub none_ready : (n : ℕ) (ready : List ℕ) → AreReady m s n ready → ready ≡ [] → (t : ℕ) → t < n → Can m s (t, 0) → ⊥
  none_ready zero ready h e t l can = omega (arith, l)
  none_ready (suc n) ready (inl some) e t l can =
      let size : length ready ≡ length (some.0 ++ n ∷ []) = ap (λ xs. length xs) some.3 in
      let both = length-append some.0 (n ∷ []) in
      let none : length ready ≡ 0 = ap (λ xs. length xs) e in
      omega (arith, size, both, none)
  none_ready (suc n) ready (inr none) e t l can = elim (cases_eq t n) [
    | inl same ↦ none.1 (subst (λ z. Can m s (z, 0)) same can)
    | inr ne ↦ none_ready n ready none.0 e t (omega (arith, l, ne)) can
  ]

  -- who is chosen has a step
  pub chosen_steps : (n : ℕ) (ready : List ℕ) (t : ℕ) → AreReady m s n ready → Contains ready t → HasStep m s n t
  chosen_steps n ready t h c = All-contains (HasStep m s n) ready t (each_ready n ready h) c

  -- one thread more is looked at
  pub ready_more : (n : ℕ) (ready new : List ℕ) → AreReady m s n ready → Can m s (n, 0) → new ≡ ready ++ n ∷ [] → AreReady m s (n + 1) new
  ready_more n ready new h can e = subst (λ k. AreReady m s k new) (let same : suc n ≡ n + 1 = omega arith in same) (inl (ready, h, can, e))

  pub ready_same : (n : ℕ) (ready : List ℕ) → AreReady m s n ready → (Can m s (n, 0) → ⊥) → AreReady m s (n + 1) ready
  ready_same n ready h none = subst (λ k. AreReady m s k ready) (let same : suc n ≡ n + 1 = omega arith in same) (inr (h, none))

-- ---- the end

-- where none of the guest's threads has a step, all threads are done
no_steps_is_done : (guest : Guest) (budget : ℕ) (profile : Profile) (run : List Step)
    → IsRun (thread_machine guest.code) (tables (start_flat guest budget profile)) run
    → ((t : ℕ) → t < length guest.entries → Can (thread_machine guest.code)
    (end (thread_machine guest.code) (tables (start_flat guest budget profile)) run) (t, 0) → ⊥)
    → IsDone (thread_machine guest.code) (end (thread_machine guest.code) (tables (start_flat guest budget profile)) run)
no_steps_is_done guest budget profile run ok none t =
    let s : State thread.ThreadState = end (thread_machine guest.code) (tables (start_flat guest budget profile)) run in
    elim (ask_is_done_or_not (asked (thread_machine guest.code) s t)) [
      | inl e ↦ e
      | inr ne ↦ absurd (stuck (guest_run_not_stuck guest budget profile run ok t ne))
    ]
  where
    stuck : ((u : ℕ) × Can (thread_machine guest.code) (end (thread_machine guest.code) (tables (start_flat guest budget profile)) run) (u, 0)) → ⊥
    stuck step = elim (cases_lt step.0 (length guest.entries)) [
      | inl l ↦ none step.0 l step.1
      | inr past ↦ subst (λ q. Admits (thread_machine guest.code) (machine.act_of q 0)
          ((end (thread_machine guest.code) (tables (start_flat guest budget profile)) run).objects (target (machine.act_of q 0))))
          (idle_after_run (thread_machine guest.code) (tables (start_flat guest budget profile)) (length guest.entries) (guest_start_is_idle guest budget profile) run ok
          step.0 past) step.1
    ]

led_run_is_run : {T : Type 0} (tries : Bool) (m : Machine T) (n : ℕ) (s : State T) (c : Chooser) (run : List Step) (d : Chooser)
    → ChoosesSteps tries m n s c run d → IsRun m s run
led_run_is_run tries m n s c [] d h = tt
led_run_is_run tries m n s c (e ∷ run) d h = (h.1.1, led_run_is_run tries m n (after m s e) h.0 run d h.2)

-- a run by a chooser is over where no thread is ready
pub none_ready_ran_to_end : (tries : Bool) (a b : Moment) (c d : Chooser) (ready : List ℕ) → IsStartOfGuest a.flat → Ran tries a c b d
    → AreReady (machine b.flat) (tables b.flat) (length b.flat.threads) ready → ready ≡ [] → RanToEnd tries a c b
none_ready_ran_to_end tries a b c d ready start r are e = record {
  run = r.run;
  schedule = record { last = d; leads = r.leads; done = done };
  gained = r.gained;
}
  where
    guest : Guest
    guest = start.0

    runs : IsRun (machine a.flat) (tables a.flat) r.run
    runs = led_run_is_run tries (machine a.flat) (length a.flat.threads) (tables a.flat) c r.run d r.leads

    none : (t : ℕ) → t < length a.flat.threads → Can (machine a.flat) (end (machine a.flat) (tables a.flat) r.run) (t, 0) → ⊥
    none t l can = none_ready (machine b.flat) (tables b.flat) (length b.flat.threads) ready are e t
        (let same = r.gained.threads in omega (arith, same, l))
        (subst (λ k. Can (thread_machine k) (tables b.flat) (t, 0)) (sym r.gained.code)
        (subst (λ s. Can (machine a.flat) s (t, 0)) (sym r.gained.ends) can))

    done : IsDone (machine a.flat) (end (machine a.flat) (tables a.flat) r.run)
    done = subst (λ f. IsRun (machine f) (tables f) r.run
        → ((t : ℕ) → t < length f.threads → Can (machine f) (end (machine f) (tables f) r.run) (t, 0) → ⊥)
        → IsDone (machine f) (end (machine f) (tables f) r.run)) (sym start.3)
        (λ ok nobody. no_steps_is_done guest start.1 start.2 r.run ok (λ t l. nobody t
        (let n = length_of_start_threads guest start.1 start.2 0 (length guest.entries) in omega (arith, n, l)))) runs none

-- one thread more rests
pub lower_threads_rest_step : (tries : Bool) (t : ℕ) (f g : Flat) → ((u : ℕ) → u < t → IsAtRest tries f u) → OthersRest tries t f g → IsAtRest tries g t
    → (u : ℕ) → u < t + 1 → IsAtRest tries g u
lower_threads_rest_step tries t f g lower others here u l = elim (cases_eq u t) [
  | inl e ↦ subst (IsAtRest tries g) (sym e) here
  | inr ne ↦ others u ne ∙ lower u (omega (arith, l, ne))
]

-- each thread rests again
pub all_rest_after_rest : (tries : Bool) (t : ℕ) (f g : Flat) → length g.threads ≡ length f.threads → AllThreadsRest tries f → OthersRest tries t f g
    → IsAtRest tries g t → AllThreadsRest tries g
all_rest_after_rest tries t f g same rest others here u l = elim (cases_eq u t) [
  | inl e ↦ subst (IsAtRest tries g) (sym e) here
  | inr ne ↦ others u ne ∙ rest u (omega (arith, l, same))
]

-- whoever is chosen of the threads that are ready has a step
pub chosen_ready_has_step : (f : Flat) (xs ready : List ℕ) (t : ℕ) → xs ≡ ready → AreReady (machine f) (tables f) (length f.threads) ready
    → Contains xs t → HasStep (machine f) (tables f) (length f.threads) t
chosen_ready_has_step f xs ready t e are c = chosen_steps (machine f) (tables f) (length f.threads) xs t
    (subst (AreReady (machine f) (tables f) (length f.threads)) (sym e) are) c
