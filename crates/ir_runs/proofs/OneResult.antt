-- One step of each thread is enough to see that a run is maximal.
-- the act of a step that follows is that of the one result
use Rattle.std.proofs.Common.{◌≡◌, ℕ, suc, zero, pred, ◌<◌, List, [], ◌∷◌, ◌++◌, refl, ap, ◌∙◌, subst}
use Rattle.ir_runs.specs.Machine.{Ask, Private, Env, Enter, Try, Leave, Get, Put, Done, act_of, Machine, Object, target, Admits, emitted}
use Rattle.ir_runs.specs.Machine.{Label, Quiet, Answer, EnteredAt, FailedTry, LeftAt, logged, Trace}
use Rattle.ir_runs.specs.Run.{act, State, Step, asked, Can, after, label, IsRun, end, trail}
use Rattle.ir_runs.proofs.Append.{trail_append}
use Rattle.ir_runs.proofs.Ending.{trail_cons_own, last_step_can_be_taken}
use Rattle.ir_runs.proofs.Follow.{fitting_prefix_fits}
use Rattle.ir_runs.proofs.Judge.{follows_push}
use Rattle.ir_runs.specs.Verdicts.{Check, unlogged, Fits, Follows, IsMaximal, left_log, left_steps, closing}
use Rattle.ir_runs.specs.Events.{result_of}

pub act_of_result_in_log : {T : Type 0} (m : Machine T) (q : Ask) (r : ℕ) (b : Object) (es : List Label) → Admits m (act_of q r) b
    → logged (emitted (act_of q r) b) (unlogged (emitted (act_of q r) b) es) ≡ es → act_of q r ≡ act_of q (result_of q es)
act_of_result_in_log m Private r b es can h = refl
act_of_result_in_log m (Env k) r b [] can h = absurd (cc h)
act_of_result_in_log m (Env k) r b (Quiet ∷ es) can h = absurd (cc h)
act_of_result_in_log m (Env k) r b (Answer j v ∷ es) can h = cc h
act_of_result_in_log m (Env k) r b (EnteredAt p c v l ∷ es) can h = absurd (cc h)
act_of_result_in_log m (Env k) r b (FailedTry p ∷ es) can h = absurd (cc h)
act_of_result_in_log m (Env k) r b (LeftAt p c v ∷ es) can h = absurd (cc h)
act_of_result_in_log m (Enter o a) r b es can h = refl
act_of_result_in_log m (Try o) zero b [] can h = absurd (cc h)
act_of_result_in_log m (Try o) zero b (Quiet ∷ es) can h = absurd (cc h)
act_of_result_in_log m (Try o) zero b (Answer j v ∷ es) can h = absurd (cc h)
act_of_result_in_log m (Try o) zero b (EnteredAt p c v l ∷ es) can h = absurd (cc h)
act_of_result_in_log m (Try o) zero b (FailedTry p ∷ es) can h = refl
act_of_result_in_log m (Try o) zero b (LeftAt p c v ∷ es) can h = absurd (cc h)
act_of_result_in_log m (Try o) (suc zero) b [] can h = absurd (cc h)
act_of_result_in_log m (Try o) (suc zero) b (Quiet ∷ es) can h = absurd (cc h)
act_of_result_in_log m (Try o) (suc zero) b (Answer j v ∷ es) can h = absurd (cc h)
act_of_result_in_log m (Try o) (suc zero) b (EnteredAt p c v l ∷ es) can h = refl
act_of_result_in_log m (Try o) (suc zero) b (FailedTry p ∷ es) can h = absurd (cc h)
act_of_result_in_log m (Try o) (suc zero) b (LeftAt p c v ∷ es) can h = absurd (cc h)
act_of_result_in_log m (Try o) (suc (suc r)) b es can h = absurd can
act_of_result_in_log m (Leave o a) r b es can h = refl
act_of_result_in_log m (Get o i) r b es can h = refl
act_of_result_in_log m (Put o i w) r b es can h = refl
act_of_result_in_log m Done r b es can h = refl

-- what a thread's last step met
pub last_step_fits : {T : Type 0} (E : Check T) (n : ℕ) (es : List Label) (xs : List (T × Label)) (y : T × Label) → Fits E n es (xs ++ y ∷ [])
    → (0 < left_steps xs n) × (logged y.1 (unlogged y.1 (left_log xs es)) ≡ left_log xs es) × E y.0 (left_steps xs n) (left_log xs es)
last_step_fits E n es [] y h = (h.0, h.1, h.2)
last_step_fits E n es (x ∷ xs) y h = last_step_fits E (pred n) (unlogged x.1 es) xs y h.3

pub prefix_of_run_is_run : {T : Type 0} (m : Machine T) (s : State T) (run more : List Step) → IsRun m s (run ++ more) → IsRun m s run
prefix_of_run_is_run m s [] more h = tt
prefix_of_run_is_run m s (e ∷ run) more h = (h.0, prefix_of_run_is_run m (after m s e) run more h.1)

-- what the last step of a run that follows met
pub record LastStepFollows {T : Type 0} (m : Machine T) (s : State T) (tr : Trace) (run : List Step) (e : Step) : Type 0 where
  pub can : Can m (end m s run) e
  pub left : 0 < left_steps (trail m s run e.0) (tr.steps e.0)
  pub logs : logged (label m (end m s run) e) (unlogged (label m (end m s run) e) (left_log (trail m s run e.0) (tr.logs e.0))) ≡ left_log
      (trail m s run e.0) (tr.logs e.0)
  pub closes : closing m tr e.0 ((end m s run).now e.0) (left_steps (trail m s run e.0) (tr.steps e.0))
      (left_log (trail m s run e.0) (tr.logs e.0))

pub last_step_follows_trace : {T : Type 0} (m : Machine T) (tr : Trace) (s : State T) (run : List Step) (e : Step)
    → Follows (closing m tr) m s tr (run ++ e ∷ []) → LastStepFollows m s tr run e
last_step_follows_trace m tr s run e f =
    let t : ℕ = e.0 in
    let last = last_step_fits (closing m tr t) (tr.steps t) (tr.logs t) (trail m s run t) ((end m s run).now t, label m (end m s run) e)
    (subst (Fits (closing m tr t) (tr.steps t) (tr.logs t))
    (trail_append m s run (e ∷ []) t ∙ ap (λ z. trail m s run t ++ z) (trail_cons_own m (end m s run) e [])) (f.1 t)) in
    record { can = last_step_can_be_taken m s run e f.0; left = last.0; logs = last.1; closes = last.2 }

-- a run that follows does so without its last step
pub follows_without_last : {T : Type 0} (m : Machine T) (tr : Trace) (s : State T) (run : List Step) (e : Step)
    → Follows (closing m tr) m s tr (run ++ e ∷ []) → Follows (closing m tr) m s tr run
follows_without_last m tr s run e f = (
  prefix_of_run_is_run m s run (e ∷ []) f.0,
  λ u. fitting_prefix_fits (closing m tr u) (tr.steps u) (tr.logs u) (trail m s run u) (trail m (end m s run) (e ∷ []) u)
      (subst (Fits (closing m tr u) (tr.steps u) (tr.logs u)) (trail_append m s run (e ∷ []) u) (f.1 u)),
)

pub maximal_if_none_go_on : {T : Type 0} (m : Machine T) (tr : Trace) (s : State T) (run : List Step)
    → ((t : ℕ) → Follows (closing m tr) m s tr
    (run ++ (t, result_of (asked m (end m s run) t) (left_log (trail m s run t) (tr.logs t))) ∷ []) → ⊥)
    → IsMaximal (closing m tr) m s tr run
maximal_if_none_go_on m tr s run none e f =
    let s1 = end m s run in
    let t : ℕ = e.0 in
    let es : List Label = left_log (trail m s run t) (tr.logs t) in
    let r : ℕ = result_of (asked m s1 t) es in
    let last : LastStepFollows m s tr run e = last_step_follows_trace m tr s run e f in
    let p : act m s1 e ≡ act m s1 (t, r) = act_of_result_in_log m (asked m s1 t) e.1 (s1.objects (target (act m s1 e))) es last.can last.logs in
    none t (follows_push m s tr run (follows_without_last m tr s run e f) t r (subst (λ z. Admits m z (s1.objects (target z))) p last.can) (
      last.left,
      subst (λ z. logged (emitted z (s1.objects (target z))) (unlogged (emitted z (s1.objects (target z))) es) ≡ es) p last.logs,
      last.closes,
    ))
