-- A complete run follows its own trace, its ends too.
use Rattle.std.proofs.Common.{◌≡◌, ◌≢◌, ℕ, suc, List, [], ◌∷◌, ◌++◌, length, Option, Some, None, refl, sym, ap, ◌∙◌, subst, inl, inr, eq-eqb, ne_eqb}
use Rattle.std.proofs.lemmas.Bool.{cases_eq}
use Rattle.ir_runs.specs.Machine.{Private, Done, act_of, Machine, target, Admits, reply, emitted, Quiet, LeftAt, logged}
use Rattle.ir_runs.specs.Lawful.{IsClosing, Ends}
use Rattle.ir_runs.proofs.Tables.{upd_at_own_place}
use Rattle.ir_runs.specs.Run.{act, State, Step, asked, Can, after, label, IsRun, end, join_if, trail, IsDone, events}
use Rattle.ir_runs.specs.Bounds.{trace}
use Rattle.ir_runs.proofs.Follow.{trail_fits_own_log}
use Rattle.ir_runs.proofs.Same.{thread_after_other}
use Rattle.ir_runs.specs.Verdicts.{Follows, IsMaximal, ends_at, ends_now, Meets, closing}

pub thread_after_own_step : {T : Type 0} (m : Machine T) (s : State T) (e : Step)
    → (after m s e).now e.0 ≡ m.take (s.now e.0) (reply (act m s e) (s.objects (target (act m s e))))
unfolding after
thread_after_own_step m s e = upd_at_own_place s.now e.0 _

pub trail_cons_own : {T : Type 0} (m : Machine T) (s : State T) (e : Step) (run : List Step)
    → trail m s (e ∷ run) e.0 ≡ (s.now e.0, label m s e) ∷ trail m (after m s e) run e.0
trail_cons_own m s e run = ap (λ b. join_if b (s.now e.0, label m s e) (trail m (after m s e) run e.0)) (eq-eqb e.0 e.0 refl)

pub trail_cons_other : {T : Type 0} (m : Machine T) (s : State T) (e : Step) (run : List Step) (t : ℕ) → t ≢ e.0
    → trail m s (e ∷ run) t ≡ trail m (after m s e) run t
trail_cons_other m s e run t ne = ap (λ b. join_if b (s.now t, label m s e) (trail m (after m s e) run t)) (ne_eqb t e.0 ne)

pub stepping_is_not_done : {T : Type 0} (m : Machine T) (s : State T) (e : Step) → Can m s e → asked m s e.0 ≢ Done
stepping_is_not_done m s e can p = subst (λ q. Admits m (act_of q e.1) (s.objects (target (act_of q e.1)))) p can

-- from its end on, a thread takes a step for each object that it holds, and logs nothing
pub record AfterThreadEnd {T : Type 0} (m : Machine T) (s : State T) (run : List Step) (t : ℕ) (e : ℕ × ℕ) : Type 0 where
  pub steps : length (trail m s run t) ≡ m.size (s.now t)
  pub silent : events (trail m s run t) ≡ []
  pub ended : m.ended ((end m s run).now t) ≡ Some e

after_end_cons_own : {T : Type 0} (m : Machine T) → IsClosing m → (s : State T) (d : Step) (run : List Step) → Can m s d → (e : ℕ × ℕ)
    → m.ended (s.now d.0) ≡ Some e → AfterThreadEnd m (after m s d) run d.0 e → AfterThreadEnd m s (d ∷ run) d.0 e
after_end_cons_own m c s d run can e h k =
    let v : ℕ = reply (act m s d) (s.objects (target (act m s d))) in
    let g = c.leaves (s.now d.0) v e h (stepping_is_not_done m s d can) in
    let emitted_out : label m s d ≡ LeftAt g.0 g.1 (s.objects g.0).version =
    ap (λ q. emitted (act_of q d.1) (s.objects (target (act_of q d.1)))) g.2 in
    record {
      steps = ap length (trail_cons_own m s d run) ∙ ap suc (k.steps ∙ ap m.size (thread_after_own_step m s d)) ∙ sym g.3;
      silent = ap events (trail_cons_own m s d run) ∙ ap (λ z. logged z (events (trail m (after m s d) run d.0))) emitted_out ∙ k.silent;
      ended = k.ended;
    }

pub ended_only_leaves : {T : Type 0} (m : Machine T) → IsClosing m → (s : State T) (run : List Step) → IsRun m s run → IsDone m (end m s run)
    → (t : ℕ) (e : ℕ × ℕ) → m.ended (s.now t) ≡ Some e → AfterThreadEnd m s run t e
ended_only_leaves m c s [] ok done t e h = record { steps = sym (c.done (s.now t) (done t)).2; silent = refl; ended = h }
ended_only_leaves m c s (d ∷ run) ok done t e h = elim (cases_eq t d.0) [
  | inl same ↦
      let h' : m.ended (s.now d.0) ≡ Some e = ap (λ z. m.ended (s.now z)) (sym same) ∙ h in
      subst (λ z. AfterThreadEnd m s (d ∷ run) z e) (sym same) (after_end_cons_own m c s d run ok.0 e h'
      (ended_only_leaves m c (after m s d) run ok.1 done d.0 e
      (ap m.ended (thread_after_own_step m s d) ∙ c.stays (s.now d.0) (reply (act m s d) (s.objects (target (act m s d)))) e h')))
  | inr other ↦
      let k : AfterThreadEnd m (after m s d) run t e = ended_only_leaves m c (after m s d) run ok.1 done t e (ap m.ended (thread_after_other m s d t other) ∙ h) in
      record {
        steps = ap length (trail_cons_other m s d run t other) ∙ k.steps ∙ ap m.size (thread_after_other m s d t other);
        silent = ap events (trail_cons_other m s d run t other) ∙ k.silent;
        ended = k.ended;
      }
]

pub end_comes_only_once : (a b : Option (ℕ × ℕ)) (e : ℕ × ℕ) → ends_at a b ≡ Some e → (a ≡ None) × (b ≡ Some e)
end_comes_only_once None b e h = (refl, h)
end_comes_only_once (Some x) b e h = absurd (cc h)

-- a thread's end, as a step of a run
pub record EndingStep {T : Type 0} (m : Machine T) (s : State T) (d : Step) (e : ℕ × ℕ) : Type 0 where
  pub quiet : label m s d ≡ Quiet
  pub ended : m.ended ((after m s d).now d.0) ≡ Some e
  pub size : m.size ((after m s d).now d.0) ≡ m.size (s.now d.0)

pub ending_step_is_quiet : {T : Type 0} (m : Machine T) → IsClosing m → (s : State T) (d : Step) (e : ℕ × ℕ) → ends_now m (s.now d.0) ≡ Some e
    → EndingStep m s d e
ending_step_is_quiet m c s d e h =
    let x = s.now d.0 in
    let g : (m.ended x ≡ None) × (m.ended (m.take x 0) ≡ Some e) = end_comes_only_once (m.ended x) (m.ended (m.take x 0)) e h in
    let z : (m.ask x ≡ Private) × (m.size (m.take x 0) ≡ m.size x) = c.ends x 0 e g.0 g.1 in
    let p : (after m s d).now d.0 ≡ m.take x 0 = thread_after_own_step m s d
    ∙ ap (λ q. m.take x (reply (act_of q d.1) (s.objects (target (act_of q d.1))))) z.0 in
    record {
      quiet = ap (λ q. emitted (act_of q d.1) (s.objects (target (act_of q d.1)))) z.0;
      ended = ap m.ended p ∙ g.1;
      size = ap m.size p ∙ z.1;
    }

meets_end_own_step : {T : Type 0} (m : Machine T) → IsClosing m → (s : State T) (d : Step) (run : List Step) → IsRun m (after m s d) run
    → IsDone m (end m (after m s d) run) → (fin : Option (ℕ × ℕ)) → fin ≡ m.ended ((end m (after m s d) run).now d.0) → (q : Option (ℕ × ℕ))
    → ends_now m (s.now d.0) ≡ q
    → Meets q fin (m.size (s.now d.0)) (suc (length (trail m (after m s d) run d.0)))
    (logged (label m s d) (events (trail m (after m s d) run d.0)))
meets_end_own_step m c s d run ok done fin is None h = tt
meets_end_own_step m c s d run ok done fin is (Some e) h =
    let g : EndingStep m s d e = ending_step_is_quiet m c s d e h in
    let k : AfterThreadEnd m (after m s d) run d.0 e = ended_only_leaves m c (after m s d) run ok done d.0 e g.ended in
    (is ∙ k.ended, ap suc (k.steps ∙ g.size), ap (λ z. logged z (events (trail m (after m s d) run d.0))) g.quiet ∙ k.silent)

pub complete_trail_meets_ends : {T : Type 0} (m : Machine T) → IsClosing m → (s : State T) (run : List Step) → IsRun m s run → IsDone m (end m s run)
    → (t : ℕ) (fin : Option (ℕ × ℕ)) → fin ≡ m.ended ((end m s run).now t)
    → Ends (λ x n es. Meets (ends_now m x) fin (m.size x) n es) (trail m s run t)
complete_trail_meets_ends m c s [] ok done t fin is = tt
complete_trail_meets_ends m c s (d ∷ run) ok done t fin is = elim (cases_eq t d.0) [
  | inl same ↦
      let is' : fin ≡ m.ended ((end m (after m s d) run).now d.0) = is ∙ ap (λ z. m.ended ((end m (after m s d) run).now z)) same in
      subst (λ z. Ends (λ x n es. Meets (ends_now m x) fin (m.size x) n es) (trail m s (d ∷ run) z)) (sym same)
      (subst (Ends (λ x n es. Meets (ends_now m x) fin (m.size x) n es)) (sym (trail_cons_own m s d run))
      (meets_end_own_step m c s d run ok.1 done fin is' (ends_now m (s.now d.0)) refl, complete_trail_meets_ends m c (after m s d) run ok.1 done d.0 fin is'))
  | inr other ↦ subst (Ends (λ x n es. Meets (ends_now m x) fin (m.size x) n es)) (sym (trail_cons_other m s d run t other))
      (complete_trail_meets_ends m c (after m s d) run ok.1 done t fin is)
]

pub last_step_can_be_taken : {T : Type 0} (m : Machine T) (s : State T) (run : List Step) (x : Step) → IsRun m s (run ++ x ∷ []) → Can m (end m s run) x
last_step_can_be_taken m s [] x h = h.0
last_step_can_be_taken m s (e ∷ run) x h = last_step_can_be_taken m (after m s e) run x h.1

pub complete_run_follows : {T : Type 0} (m : Machine T) → IsClosing m → (s : State T) (run : List Step) → IsRun m s run → IsDone m (end m s run)
    → Follows (closing m (trace m s run)) m s (trace m s run) run × IsMaximal (closing m (trace m s run)) m s (trace m s run) run
complete_run_follows m c s run ok done = (
  (ok, λ t. trail_fits_own_log (closing m (trace m s run) t) (trail m s run t) (complete_trail_meets_ends m c s run ok done t (m.ended ((end m s run).now t)) refl)),
  λ e h. stepping_is_not_done m (end m s run) e (last_step_can_be_taken m s run e h.0) (done e.0),
)
