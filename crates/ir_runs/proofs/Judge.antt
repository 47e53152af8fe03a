-- Each thread has one verdict, which doesn't depend on the run, and all are the same exactly where there is a complete run with the trace.
use Rattle.std.proofs.Common.{◌≡◌, ◌≢◌, ℕ, suc, zero, pred, ◌<◌, true, List, [], ◌∷◌, ◌++◌, length, Option, Some, None, refl, sym, ap, ◌∙◌, subst, arith, inl, inr, ◌⊎◌, append-nil, length-append}
use Rattle.std.proofs.lemmas.Bool.{cases_eq, cases_lt}
use Rattle.ir_runs.specs.Machine.{Ask, Private, Env, Enter, Try, Leave, Get, Put, Done, act_of, Machine, Object, target, Admits, reply}
use Rattle.ir_runs.specs.Machine.{emitted, Label, Quiet, Answer, EnteredAt, FailedTry, LeftAt, logged, Trace}
use Rattle.ir_runs.specs.Lawful.{IsLawful, IsClosing}
use Rattle.ir_runs.specs.declared.access.Access.{Access}
use Rattle.ir_runs.specs.declared.env_kind.EnvKind.{EnvKind}
use Rattle.ir_runs.specs.declared.env_kind.EnvKind.TheVariants.{Clock, Random, Input}
use Rattle.ir_runs.specs.declared.access.Access.TheVariants.{Reading, Writing}
use Rattle.ir_runs.specs.Run.{act, State, Step, Can, after, label, IsRun, end, trail, IsDone, events, log, count, At, IsWhole}
use Rattle.ir_runs.specs.Bounds.{IsStart, IsIdle, NoneTakes}
use Rattle.ir_runs.proofs.Good.{StateInvariant}
use Rattle.ir_runs.proofs.Append.{trail_append, append_of_runs_is_run}
use Rattle.ir_runs.proofs.Confluent.{begins_maximal_run, following_invariant_start, maximal_reach_same_end}
use Rattle.ir_runs.proofs.Ending.{thread_after_own_step, trail_cons_own, trail_cons_other, stepping_is_not_done, AfterThreadEnd}
use Rattle.ir_runs.proofs.Ending.{ended_only_leaves, EndingStep, ending_step_is_quiet, complete_trail_meets_ends, last_step_can_be_taken}
use Rattle.ir_runs.proofs.Follow.{trail_fits_own_log}
use Rattle.ir_runs.proofs.Same.{BeginsRun, thread_after_other}
use Rattle.ir_runs.specs.Alike.{Reaches}
use Rattle.ir_runs.specs.declared.thread_verdict.ThreadVerdict.{ThreadVerdict}
use Rattle.ir_runs.specs.declared.thread_verdict.ThreadVerdict.TheVariants.{Same, Disagrees, Starves}
use Rattle.ir_runs.specs.Verdicts.{Suits, Agrees, Awaits, Judged, IsVerdict, Check, unlogged, Fits, Follows, IsMaximal, left_log, left_steps, ends_at, ends_now, Meets, closing}
use Rattle.ir_runs.specs.Coherent.{IsCoherent}
use Rattle.ir_runs.specs.Events.{IsEvent, HoldsEvents, IsLive}

pub ask_is_done_or_not : (q : Ask) → (q ≡ Done) ⊎ (q ≢ Done)
ask_is_done_or_not Private = inr (λ h. cc h)
ask_is_done_or_not (Env k) = inr (λ h. cc h)
ask_is_done_or_not (Enter o a) = inr (λ h. cc h)
ask_is_done_or_not (Try o) = inr (λ h. cc h)
ask_is_done_or_not (Leave o a) = inr (λ h. cc h)
ask_is_done_or_not (Get o i) = inr (λ h. cc h)
ask_is_done_or_not (Put o i w) = inr (λ h. cc h)
ask_is_done_or_not Done = inl refl

pub access_decidable : (a c : Access) → (a ≡ c) ⊎ (a ≢ c)
access_decidable Reading Reading = inl refl
access_decidable Reading Writing = inr (λ h. cc h)
access_decidable Writing Reading = inr (λ h. cc h)
access_decidable Writing Writing = inl refl

pub both_decidable : {A B : Type 0} → (A ⊎ (A → ⊥)) → (B ⊎ (B → ⊥)) → ((A × B) ⊎ ((A × B) → ⊥))
both_decidable (inl a) (inl b) = inl (a, b)
both_decidable (inl a) (inr f) = inr (λ h. f h.1)
both_decidable (inr f) _ = inr (λ h. f h.0)

pub all_three_decidable : {A B C : Type 0} → (A ⊎ (A → ⊥)) → (B ⊎ (B → ⊥)) → (C ⊎ (C → ⊥)) → ((A × B × C) ⊎ ((A × B × C) → ⊥))
all_three_decidable (inl a) (inl b) (inl c) = inl (a, b, c)
all_three_decidable (inl a) (inl b) (inr f) = inr (λ h. f h.2)
all_three_decidable (inl a) (inr f) _ = inr (λ h. f h.1)
all_three_decidable (inr f) _ _ = inr (λ h. f h.0)

pub env_kind_decidable : (j k : EnvKind) → (j ≡ k) ⊎ (j ≢ k)
env_kind_decidable Clock Clock = inl refl
env_kind_decidable Clock Random = inr (λ h. cc h)
env_kind_decidable Clock Input = inr (λ h. cc h)
env_kind_decidable Random Clock = inr (λ h. cc h)
env_kind_decidable Random Random = inl refl
env_kind_decidable Random Input = inr (λ h. cc h)
env_kind_decidable Input Clock = inr (λ h. cc h)
env_kind_decidable Input Random = inr (λ h. cc h)
env_kind_decidable Input Input = inl refl

suits_is_decidable : (q : Ask) (es : List Label) → Suits q es ⊎ (Suits q es → ⊥)
suits_is_decidable Private es = inl tt
suits_is_decidable (Env k) [] = inr (λ h. h)
suits_is_decidable (Env k) (Quiet ∷ es) = inr (λ h. h)
suits_is_decidable (Env k) (Answer j v ∷ es) = env_kind_decidable j k
suits_is_decidable (Env k) (EnteredAt p c v l ∷ es) = inr (λ h. h)
suits_is_decidable (Env k) (FailedTry p ∷ es) = inr (λ h. h)
suits_is_decidable (Env k) (LeftAt p c v ∷ es) = inr (λ h. h)
suits_is_decidable (Enter o a) [] = inr (λ h. h)
suits_is_decidable (Enter o a) (Quiet ∷ es) = inr (λ h. h)
suits_is_decidable (Enter o a) (Answer j v ∷ es) = inr (λ h. h)
suits_is_decidable (Enter o a) (EnteredAt p c v l ∷ es) = both_decidable (cases_eq p o) (access_decidable c a)
suits_is_decidable (Enter o a) (FailedTry p ∷ es) = inr (λ h. h)
suits_is_decidable (Enter o a) (LeftAt p c v ∷ es) = inr (λ h. h)
suits_is_decidable (Try o) [] = inr (λ h. h)
suits_is_decidable (Try o) (Quiet ∷ es) = inr (λ h. h)
suits_is_decidable (Try o) (Answer j v ∷ es) = inr (λ h. h)
suits_is_decidable (Try o) (EnteredAt p c v l ∷ es) = both_decidable (cases_eq p o) (access_decidable c Writing)
suits_is_decidable (Try o) (FailedTry p ∷ es) = cases_eq p o
suits_is_decidable (Try o) (LeftAt p c v ∷ es) = inr (λ h. h)
suits_is_decidable (Leave o a) es = inl tt
suits_is_decidable (Get o i) es = inl tt
suits_is_decidable (Put o i w) es = inl tt
suits_is_decidable Done es = inl tt

log_is_empty_or_not : (es : List Label) → (es ≡ []) ⊎ (es ≢ [])
log_is_empty_or_not [] = inl refl
log_is_empty_or_not (k ∷ es) = inr (λ h. cc h)

end_decidable : (fin : Option (ℕ × ℕ)) (e : ℕ × ℕ) → (fin ≡ Some e) ⊎ (fin ≢ Some e)
end_decidable None e = inr (λ h. cc h)
end_decidable (Some (a, b)) (c, d) = elim (cases_eq a c) [
  | inl p ↦ elim (cases_eq b d) [ inl q ↦ inl (λ i. Some (p i, q i)) | inr f ↦ inr (λ h. f (ap (λ z. z.1) (pair h))) ]
  | inr f ↦ inr (λ h. f (ap (λ z. z.0) (pair h)))
]
  where
    pair : {e f : ℕ × ℕ} → ◌≡◌ {A = Option (ℕ × ℕ)} (Some e) (Some f) → e ≡ f
    pair h = cc h

pub meets_is_decidable : (q fin : Option (ℕ × ℕ)) (size n : ℕ) (es : List Label) → Meets q fin size n es ⊎ (Meets q fin size n es → ⊥)
meets_is_decidable None fin size n es = inl tt
meets_is_decidable (Some e) fin size n es = all_three_decidable (end_decidable fin e) (cases_eq n (suc size)) (log_is_empty_or_not es)

pub agrees_is_decidable : {T : Type 0} (m : Machine T) (fin : Option (ℕ × ℕ)) (x : T) (n : ℕ) (es : List Label) → Agrees m fin x n es
    ⊎ (Agrees m fin x n es → ⊥)
agrees_is_decidable m fin x n es = all_three_decidable (positive n) (suits_is_decidable (m.ask x) es) (meets_is_decidable (ends_now m x) fin (m.size x) n es)
  where
    positive : (n : ℕ) → (0 < n) ⊎ ((0 < n) → ⊥)
    positive zero = inr (λ h. omega arith)
    positive (suc n) = inl (omega arith)

-- a step after those of a thread
fits_push : {T : Type 0} (E : Check T) (n : ℕ) (es : List Label) (xs : List (T × Label)) (y : T × Label) → Fits E n es xs
    → (0 < left_steps xs n) × (logged y.1 (unlogged y.1 (left_log xs es)) ≡ left_log xs es) × E y.0 (left_steps xs n) (left_log xs es)
    → Fits E n es (xs ++ y ∷ [])
fits_push E n es [] y h g = (g.0, g.1, g.2, tt)
fits_push E n es (x ∷ xs) y h g = (h.0, h.1, h.2, fits_push E (pred n) (unlogged x.1 es) xs y h.3 g)

-- a run that follows, and one more step that does
pub follows_push : {T : Type 0} (m : Machine T) (s : State T) (tr : Trace) (run : List Step) → Follows (closing m tr) m s tr run → (t r : ℕ)
    → Can m (end m s run) (t, r)
    → (0 < left_steps (trail m s run t) (tr.steps t))
    × (logged (label m (end m s run) (t, r)) (unlogged (label m (end m s run) (t, r)) (left_log (trail m s run t) (tr.logs t))) ≡ left_log
    (trail m s run t) (tr.logs t))
    × closing m tr t ((end m s run).now t) (left_steps (trail m s run t) (tr.steps t)) (left_log (trail m s run t) (tr.logs t))
    → Follows (closing m tr) m s tr (run ++ (t, r) ∷ [])
follows_push m s tr run f t r can g = (
  append_of_runs_is_run m s run ((t, r) ∷ []) f.0 (can, tt),
  λ u. elim (cases_eq u t) [
    | inl same ↦ subst (λ w. Fits (closing m tr w) (tr.steps w) (tr.logs w) (trail m s (run ++ (t, r) ∷ []) w)) (sym same)
        (subst (Fits (closing m tr t) (tr.steps t) (tr.logs t))
        (sym (trail_append m s run ((t, r) ∷ []) t ∙ ap (λ z. trail m s run t ++ z) (trail_cons_own m (end m s run) (t, r) [])))
        (fits_push (closing m tr t) (tr.steps t) (tr.logs t) (trail m s run t) ((end m s run).now t, label m (end m s run) (t, r)) (f.1 t)
        g))
    | inr other ↦ subst (Fits (closing m tr u) (tr.steps u) (tr.logs u))
        (sym (trail_append m s run ((t, r) ∷ []) u ∙ ap (λ z. trail m s run u ++ z) (trail_cons_other m (end m s run) (t, r) [] u other)
        ∙ append-nil (trail m s run u))) (f.1 u)
  ],
)

unlogged_element_in_log : (k : Label) (es : List Label) (i : ℕ) (j : Label) → At (unlogged k es) i j → (h : ℕ) × At es h j
unlogged_element_in_log Quiet es i j h = (i, h)
unlogged_element_in_log (Answer a v) [] i j h = absurd h
unlogged_element_in_log (Answer a v) (e ∷ es) i j h = (suc i, h)
unlogged_element_in_log (EnteredAt o a v l) [] i j h = absurd h
unlogged_element_in_log (EnteredAt o a v l) (e ∷ es) i j h = (suc i, h)
unlogged_element_in_log (FailedTry o) [] i j h = absurd h
unlogged_element_in_log (FailedTry o) (e ∷ es) i j h = (suc i, h)
unlogged_element_in_log (LeftAt o a v) es i j h = (i, h)

left_element_in_log : {T : Type 0} (xs : List (T × Label)) (es : List Label) (i : ℕ) (j : Label) → At (left_log xs es) i j → (h : ℕ) × At es h j
left_element_in_log [] es i j h = (i, h)
left_element_in_log (x ∷ xs) es i j h = let g = left_element_in_log xs (unlogged x.1 es) i j h in unlogged_element_in_log x.1 es g.0 j g.1

-- if no step continues the run, an entry is waited for
awaits_without_next : {T : Type 0} (m : Machine T) (q : Ask) (es : List Label) → Suits q es → q ≢ Done → ((i : ℕ) (k : Label) → At es i k → IsEvent m k)
    → ((r : ℕ) → ((b : Object) → Admits m (act_of q r) b)
    → ((b : Object) → logged (emitted (act_of q r) b) (unlogged (emitted (act_of q r) b) es) ≡ es) → ⊥) → Awaits q es
awaits_without_next m Private es suits ne ev stop = absurd (stop 0 (λ b. tt) (λ b. refl))
awaits_without_next m (Env k) (Answer j v ∷ es) suits ne ev stop =
    absurd (stop v (λ b. subst (λ z. m.fits z v ≡ true) suits (ev 0 (Answer j v) refl)) (λ b. ap (λ z. Answer z v ∷ es) (sym suits)))
awaits_without_next m (Env k) [] suits ne ev stop = absurd suits
awaits_without_next m (Env k) (Quiet ∷ es) suits ne ev stop = absurd suits
awaits_without_next m (Env k) (EnteredAt p c v l ∷ es) suits ne ev stop = absurd suits
awaits_without_next m (Env k) (FailedTry p ∷ es) suits ne ev stop = absurd suits
awaits_without_next m (Env k) (LeftAt p c v ∷ es) suits ne ev stop = absurd suits
awaits_without_next m (Enter o a) es suits ne ev stop = tt
awaits_without_next m (Try o) (EnteredAt p c v l ∷ es) suits ne ev stop = tt
awaits_without_next m (Try o) (FailedTry p ∷ es) suits ne ev stop = absurd (stop 0 (λ b. tt) (λ b. ap (λ z. FailedTry z ∷ es) (sym suits)))
awaits_without_next m (Try o) [] suits ne ev stop = absurd suits
awaits_without_next m (Try o) (Quiet ∷ es) suits ne ev stop = absurd suits
awaits_without_next m (Try o) (Answer j v ∷ es) suits ne ev stop = absurd suits
awaits_without_next m (Try o) (LeftAt p c v ∷ es) suits ne ev stop = absurd suits
awaits_without_next m (Leave o a) es suits ne ev stop = absurd (stop 0 (λ b. tt) (λ b. refl))
awaits_without_next m (Get o i) es suits ne ev stop = absurd (stop 0 (λ b. tt) (λ b. refl))
awaits_without_next m (Put o i w) es suits ne ev stop = absurd (stop 0 (λ b. tt) (λ b. refl))
awaits_without_next m Done es suits ne ev stop = absurd (ne refl)

-- a maximal run takes each thread as far as any does
maximal_takes_furthest : {T : Type 0} (n : ℕ) (m : Machine T) → IsLawful m → (tr : Trace) → IsCoherent n tr → (s : State T) → StateInvariant m s → IsStart m s
    → IsIdle m s n → (run : List Step) → Follows (closing m tr) m s tr run → IsMaximal (closing m tr) m s tr run → (t : ℕ)
    → NoneTakes m s tr t (count m s run t)
maximal_takes_furthest n m law tr co s good st im run f top t other g =
    let k : BeginsRun m s other run = begins_maximal_run (closing m tr) n m law tr co s tr.steps tr.logs (following_invariant_start n m tr s good st im) other run g f
    top in
    omega (arith, ap length (k.same_trail t), length-append (trail m s other t) (trail m (end m s other) k.rest t))

pub verdict_exists : {T : Type 0} (n : ℕ) (m : Machine T) → IsLawful m → (tr : Trace) → IsCoherent n tr → HoldsEvents m tr → (s : State T)
    → StateInvariant m s → IsStart m s → IsIdle m s n → (run : List Step) → Follows (closing m tr) m s tr run → IsMaximal (closing m tr) m s tr run
    → (t : ℕ) → (v : ThreadVerdict) × IsVerdict m s tr run t v
verdict_exists n m law tr co ev s good st im run f top t =
    let x = (end m s run).now t in
    let k : ℕ = left_steps (trail m s run t) (tr.steps t) in
    let es : List Label = left_log (trail m s run t) (tr.logs t) in
    elim (ask_is_done_or_not (m.ask x)) [
      | inl d ↦ (Same, d)
      | inr ne ↦ elim (agrees_is_decidable m (tr.ends t) x k es) [
        | inr no_more ↦ (Disagrees (length (log m s run t)) (count m s run t), (ne, no_more, refl, refl))
        | inl yes_more ↦ (
          Starves (length (log m s run t)),
          (
            ne,
            yes_more,
            awaits_without_next m (m.ask x) es yes_more.1 ne (λ i j h. let g = left_element_in_log (trail m s run t) (tr.logs t) i j h in ev t g.0 j g.1)
                (λ r can logs. top (t, r) (follows_push m s tr run f t r (can _) (yes_more.0, logs _, yes_more.2))),
            maximal_takes_furthest n m law tr co s good st im run f top t,
            refl,
          ),
        )
      ]
    ]

pub verdict_unique : {T : Type 0} (m : Machine T) (fin : Option (ℕ × ℕ)) (none : Type 0) (x : T) (n : ℕ) (es : List Label) (i k : ℕ)
    (v w : ThreadVerdict) → Judged m fin none x n es i k v → Judged m fin none x n es i k w → w ≡ v
verdict_unique m fin none x n es i k Same Same h g = refl
verdict_unique m fin none x n es i k Same (Disagrees a b) h g = absurd (g.0 h)
verdict_unique m fin none x n es i k Same (Starves a) h g = absurd (g.0 h)
verdict_unique m fin none x n es i k (Disagrees a b) Same h g = absurd (h.0 g)
verdict_unique m fin none x n es i k (Disagrees a b) (Disagrees c d) h g = λ z. Disagrees ((g.2 ∙ sym h.2) z) ((g.3 ∙ sym h.3) z)
verdict_unique m fin none x n es i k (Disagrees a b) (Starves c) h g = absurd (h.1 g.1)
verdict_unique m fin none x n es i k (Starves a) Same h g = absurd (h.0 g)
verdict_unique m fin none x n es i k (Starves a) (Disagrees c d) h g = absurd (g.1 h.1)
verdict_unique m fin none x n es i k (Starves a) (Starves c) h g = λ z. Starves ((g.4 ∙ sym h.4) z)

pub same_reach_same_verdict : {T : Type 0} (m : Machine T) (s : State T) (tr : Trace) (run run' : List Step) → Reaches m s run run'
    → (t : ℕ) (v : ThreadVerdict) → IsVerdict m s tr run t v → IsVerdict m s tr run' t v
same_reach_same_verdict m s tr run run' k t v h =
    subst (λ z. Judged m (tr.ends t) (NoneTakes m s tr t (length z)) ((end m s run').now t) (left_steps z (tr.steps t))
    (left_log z (tr.logs t)) (length (events z)) (length z) v) (k.trails t)
    (subst (λ y. Judged m (tr.ends t) (NoneTakes m s tr t (count m s run t)) (y.now t) (left_steps (trail m s run t) (tr.steps t))
    (left_log (trail m s run t) (tr.logs t)) (length (log m s run t)) (count m s run t) v) k.states h)

-- a thread that hasn't ended, and is done at the run's end, has used what the trace gives it
pub record TraceUsedUp {T : Type 0} (m : Machine T) (s : State T) (run : List Step) (t : ℕ) (fin : Option (ℕ × ℕ)) (n : ℕ) (es : List Label) : Type
    0 where
  pub steps : length (trail m s run t) ≡ n
  pub silent : events (trail m s run t) ≡ es
  pub ended : m.ended ((end m s run).now t) ≡ fin

live_unless_step_ends : {T : Type 0} (m : Machine T) → IsClosing m → (s : State T) (d : Step) → m.ended (s.now d.0) ≡ None
    → ends_now m (s.now d.0) ≡ None → m.ended ((after m s d).now d.0) ≡ None
live_unless_step_ends m c s d live h =
    let x = s.now d.0 in
    ap m.ended (thread_after_own_step m s d) ∙ by_case (m.ended (m.take x (reply (act m s d) (s.objects (target (act m s d)))))) refl
  where
    by_case : (w : Option (ℕ × ℕ)) → m.ended (m.take (s.now d.0) (reply (act m s d) (s.objects (target (act m s d))))) ≡ w → w ≡ None
    by_case None p = refl
    by_case (Some e) p =
        let z = c.ends (s.now d.0) (reply (act m s d) (s.objects (target (act m s d)))) e live p in
        let q : m.ended (m.take (s.now d.0) 0) ≡ Some e =
        ap (λ w. m.ended (m.take (s.now d.0) (reply (act_of w d.1) (s.objects (target (act_of w d.1)))))) (sym z.0) ∙ p in
        absurd (cc (h, ap (λ w. ends_at w (m.ended (m.take (s.now d.0) 0))) live ∙ q))

used_up_own_step : {T : Type 0} (m : Machine T) → IsClosing m → (s : State T) (d : Step) (run : List Step) → IsRun m (after m s d) run
    → IsDone m (end m (after m s d) run) → (fin : Option (ℕ × ℕ)) (n : ℕ) (es : List Label) → m.ended (s.now d.0) ≡ None
    → (w : Option (ℕ × ℕ)) → ends_now m (s.now d.0) ≡ w → 0 < n → logged (label m s d) (unlogged (label m s d) es) ≡ es
    → Meets w fin (m.size (s.now d.0)) n es
    → (m.ended ((after m s d).now d.0) ≡ None → TraceUsedUp m (after m s d) run d.0 fin (pred n) (unlogged (label m s d) es))
    → TraceUsedUp m s (d ∷ run) d.0 fin n es
used_up_own_step m c s d run ok done fin n es live None h l is meets ih =
    let k : TraceUsedUp m (after m s d) run d.0 fin (pred n) (unlogged (label m s d) es) = ih (live_unless_step_ends m c s d live h) in
    record {
      steps = ap length (trail_cons_own m s d run)
          ∙ (let g : suc (length (trail m (after m s d) run d.0)) ≡ n = omega (arith, k.steps, l) in g);
      silent = ap events (trail_cons_own m s d run) ∙ ap (logged (label m s d)) k.silent ∙ is;
      ended = k.ended;
    }
used_up_own_step m c s d run ok done fin n es live (Some e) h l is meets ih =
    let g : EndingStep m s d e = ending_step_is_quiet m c s d e h in
    let k : AfterThreadEnd m (after m s d) run d.0 e = ended_only_leaves m c (after m s d) run ok done d.0 e g.ended in
    record {
      steps = ap length (trail_cons_own m s d run) ∙ ap suc (k.steps ∙ g.size) ∙ sym meets.1;
      silent = ap events (trail_cons_own m s d run) ∙ ap (λ z. logged z (events (trail m (after m s d) run d.0))) g.quiet ∙ k.silent
          ∙ sym meets.2;
      ended = k.ended ∙ sym meets.0;
    }

pub done_uses_trace_up : {T : Type 0} (m : Machine T) → IsClosing m → (s : State T) (run : List Step) → IsRun m s run → IsDone m (end m s run)
    → (t : ℕ) (fin : Option (ℕ × ℕ)) (n : ℕ) (es : List Label) → m.ended (s.now t) ≡ None
    → Fits (λ x n es. Meets (ends_now m x) fin (m.size x) n es) n es (trail m s run t) → TraceUsedUp m s run t fin n es
done_uses_trace_up m c s [] ok done t fin n es live h = absurd (cc (live, (c.done (s.now t) (done t)).1))
done_uses_trace_up m c s (d ∷ run) ok done t fin n es live h = elim (cases_eq t d.0) [
  | inl same ↦
      let h' : Fits (λ x n es. Meets (ends_now m x) fin (m.size x) n es) n es ((s.now d.0, label m s d) ∷ trail m (after m s d) run d.0) =
      subst (Fits (λ x n es. Meets (ends_now m x) fin (m.size x) n es) n es) (trail_cons_own m s d run)
      (subst (λ z. Fits (λ x n es. Meets (ends_now m x) fin (m.size x) n es) n es (trail m s (d ∷ run) z)) same h) in
      subst (λ z. TraceUsedUp m s (d ∷ run) z fin n es) (sym same)
      (used_up_own_step m c s d run ok.1 done fin n es (ap (λ z. m.ended (s.now z)) (sym same) ∙ live) (ends_now m (s.now d.0)) refl h'.0 h'.1 h'.2
      (λ live'. done_uses_trace_up m c (after m s d) run ok.1 done d.0 fin (pred n) (unlogged (label m s d) es) live' h'.3))
  | inr other ↦
      let k : TraceUsedUp m (after m s d) run t fin n es =
      done_uses_trace_up m c (after m s d) run ok.1 done t fin n es (ap m.ended (thread_after_other m s d t other) ∙ live)
      (subst (Fits (λ x n es. Meets (ends_now m x) fin (m.size x) n es) n es) (trail_cons_other m s d run t other) h) in
      record {
        steps = ap length (trail_cons_other m s d run t other) ∙ k.steps;
        silent = ap events (trail_cons_other m s d run t other)
            ∙ k.silent;
        ended = k.ended;
      }
]

-- a follower in which all are done is a complete run with the trace
pub done_follower_is_whole : {T : Type 0} (n : ℕ) (m : Machine T) → IsClosing m → (tr : Trace) (s : State T) → IsLive m s n → (run : List Step)
    → Follows (closing m tr) m s tr run → IsDone m (end m s run) → IsWhole m s n tr run
done_follower_is_whole n m c tr s live run f done = record {
  runs = f.0;
  done = done;
  steps = λ t l. (whole t l).steps;
  logs = λ t l. (whole t l).silent;
  ends = λ t l. (whole t l).ended;
}
  where
    whole : (t : ℕ) → t < n → TraceUsedUp m s run t (tr.ends t) (tr.steps t) (tr.logs t)
    whole t l = done_uses_trace_up m c s run f.0 done t (tr.ends t) (tr.steps t) (tr.logs t) (live t l) (f.1 t)

empty_steps_fit : {T : Type 0} (E : Check T) (n : ℕ) (es : List Label) (xs : List (T × Label)) → length xs ≡ 0 → Fits E n es xs
empty_steps_fit E n es [] h = tt
empty_steps_fit E n es (x ∷ xs) h = absurd (omega (arith, h))

-- a complete run with the trace follows it
pub whole_run_follows_trace : {T : Type 0} (n : ℕ) (m : Machine T) → IsClosing m → (tr : Trace) (s : State T) → IsIdle m s n → (run : List Step)
    → IsWhole m s n tr run → Follows (closing m tr) m s tr run × IsMaximal (closing m tr) m s tr run
whole_run_follows_trace n m c tr s im run w = (
  (
    w.runs,
    λ t. elim (cases_lt t n) [
      | inl l ↦ subst (λ z. Fits (closing m tr t) z (tr.logs t) (trail m s run t)) (w.steps t l)
          (subst (λ z. Fits (closing m tr t) (count m s run t) z (trail m s run t)) (w.logs t l)
          (trail_fits_own_log (closing m tr t) (trail m s run t) (complete_trail_meets_ends m c s run w.runs w.done t (tr.ends t) (sym (w.ends t l)))))
      | inr g ↦
          let d = c.done (s.now t) (im t g) in
          let k : AfterThreadEnd m s run t d.0 = ended_only_leaves m c s run w.runs w.done t d.0 d.1 in
          empty_steps_fit (closing m tr t) (tr.steps t) (tr.logs t) (trail m s run t) (k.steps ∙ d.2)
    ],
  ),
  λ e h. stepping_is_not_done m (end m s run) e (last_step_can_be_taken m s run e h.0) (w.done e.0),
)

-- then any maximal follower is complete
pub whole_run_follower_done : {T : Type 0} (n : ℕ) (m : Machine T) → IsLawful m → IsClosing m → (tr : Trace) → IsCoherent n tr → (s : State T) → StateInvariant m s
    → IsStart m s → IsIdle m s n → (run : List Step) → Follows (closing m tr) m s tr run → IsMaximal (closing m tr) m s tr run
    → (whole : List Step) → IsWhole m s n tr whole → IsDone m (end m s run)
whole_run_follower_done n m law c tr co s good st im run f top whole w =
    let g = whole_run_follows_trace n m c tr s im whole w in
    let k : Reaches m s whole run = maximal_reach_same_end (closing m tr) n m law tr co s good st im whole run g.0 g.1 f top in
    subst (IsDone m) k.states w.done
