-- Runs that are the same, step by step.
use Rattle.std.proofs.Common.{◌≡◌, ℕ, eqb, List, ◌∷◌, length, ap, ◌∙◌}
use Rattle.std.proofs.Math.Path.{fun_ext}
use Rattle.ir_runs.specs.Machine.{Act, Machine, target, emitted, Label, Trace}
use Rattle.ir_runs.specs.Run.{State, Step, act, after, after_act, end, join_if, trail, events}
use Rattle.ir_order.specs.OneRun.{acts, AreSameRuns}

-- what a run's first steps fix
pub record Alike {T : Type 0} (m : Machine T) (s : State T) (a b : List Step) : Type 0 where
  pub steps : acts m s a ≡ acts m s b
  pub trails : (t : ℕ) → trail m s a t ≡ trail m s b t
  pub ends : end m s a ≡ end m s b

-- the state after this act of thread t
abbrev pub acted_by : {T : Type 0} → Machine T → State T → ℕ → Act → State T
acted_by m s t q = after_act m s t (s.now t) q

pub alike_if_equal : {T : Type 0} (m : Machine T) (s : State T) (a b : List Step) → a ≡ b → Alike m s a b
alike_if_equal m s a b e = record { steps = ap (acts m s) e; trails = λ t. ap (λ z. trail m s z t) e; ends = ap (end m s) e }

-- a step with the same act before both
pub alike_step : {T : Type 0} (m : Machine T) (s : State T) (t r w : ℕ) (a b : List Step) → act m s (t, r) ≡ act m s (t, w)
    → Alike m (acted_by m s t (act m s (t, r))) a b → Alike m s ((t, r) ∷ a) ((t, w) ∷ b)
unfolding after
alike_step {T} m s t r w a b p h = record {
  steps = ap (λ (z : List (ℕ × Act)). (t, act m s (t, r)) ∷ z) h.steps ∙ ap (λ (q : Act). (t, q) ∷ acts m (acted_by m s t q) b) p;
  trails = λ u. ap (join_if (eqb u t) (s.now u, emitted (act m s (t, r)) (s.objects (target (act m s (t, r)))))) (h.trails u)
      ∙ ap (λ (q : Act). join_if (eqb u t) (s.now u, emitted q (s.objects (target q))) (trail m (acted_by m s t q) b u)) p;
  ends = h.ends ∙ ap (λ (q : Act). end m (acted_by m s t q) b) p;
}

-- the trace of a run by what its threads did and where it ends
abbrev pub trace_by : {T : Type 0} → Machine T → (ℕ → List (T × Label)) → State T → Trace
trace_by m trails last = record { steps = λ t. length (trails t); logs = λ t. events (trails t); ends = λ t. m.ended (last.now t) }

pub same_runs_if_alike : {T : Type 0} (m : Machine T) (s : State T) (a b : List Step) → Alike m s a b → AreSameRuns m s a b
same_runs_if_alike {T} m s a b h = record {
  steps = h.steps;
  trails = h.trails;
  traces = ap (λ (z : ℕ → List (T × Label)). trace_by m z (end m s a)) (fun_ext h.trails) ∙ ap (trace_by m (trail m s b)) h.ends;
  ends = h.ends;
}
