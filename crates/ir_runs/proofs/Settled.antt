-- What follows from where the threads are at the end of a run.
use Rattle.std.proofs.Common.{◌≡◌, ◌≢◌, ℕ, suc, zero, ◌<◌, List, [], ◌∷◌, refl, inl, inr}
use Rattle.std.proofs.lemmas.Bool.{cases_lt}
use Rattle.ir_runs.specs.Machine.{Ask, Private, Env, Enter, Try, Leave, Get, Put, Done, act_of, Machine, Object, target, Admits, emitted}
use Rattle.ir_runs.specs.Machine.{Label, Quiet, Answer, EnteredAt, FailedTry, LeftAt, logged, Trace}
use Rattle.ir_runs.specs.Lawful.{IsLawful}
use Rattle.ir_runs.specs.declared.access.Access.TheVariants.{Reading, Writing}
use Rattle.ir_runs.specs.Run.{State, Step, asked, end, IsDone}
use Rattle.ir_runs.specs.Bounds.{IsStart, IsIdle}
use Rattle.ir_runs.proofs.Good.{StateInvariant}
use Rattle.ir_runs.proofs.Stuck.{idle_after_run}
use Rattle.ir_runs.proofs.Ending.{stepping_is_not_done}
use Rattle.ir_runs.proofs.Judge.{verdict_exists}
use Rattle.ir_runs.proofs.OneResult.{LastStepFollows, last_step_follows_trace, maximal_if_none_go_on}
use Rattle.ir_runs.specs.Standing.{GoesOn, AgreesNow, StandsAs}
use Rattle.ir_runs.specs.Verdicts.{Suits, IsVerdict, unlogged, Follows, IsMaximal, closing}
use Rattle.ir_runs.specs.Coherent.{IsCoherent}
use Rattle.ir_runs.specs.Events.{HoldsEvents}
use Rattle.ir_runs.specs.declared.thread_verdict.ThreadVerdict.{ThreadVerdict}
use Rattle.ir_runs.specs.declared.thread_verdict.ThreadVerdict.TheVariants.{Same, Disagrees, Starves}

-- what is logged of a step that follows suits what was asked
ask_suits_next_log : {T : Type 0} (m : Machine T) (q : Ask) (r : ℕ) (b : Object) (es : List Label) → Admits m (act_of q r) b
    → logged (emitted (act_of q r) b) (unlogged (emitted (act_of q r) b) es) ≡ es → Suits q es
ask_suits_next_log m Private r b es can h = tt
ask_suits_next_log m (Env k) r b [] can h = absurd (cc h)
ask_suits_next_log m (Env k) r b (Quiet ∷ es) can h = absurd (cc h)
ask_suits_next_log m (Env k) r b (Answer j v ∷ es) can h = cc h
ask_suits_next_log m (Env k) r b (EnteredAt p c v l ∷ es) can h = absurd (cc h)
ask_suits_next_log m (Env k) r b (FailedTry p ∷ es) can h = absurd (cc h)
ask_suits_next_log m (Env k) r b (LeftAt p c v ∷ es) can h = absurd (cc h)
ask_suits_next_log m (Enter o Reading) r b [] can h = absurd (cc h)
ask_suits_next_log m (Enter o Reading) r b (Quiet ∷ es) can h = absurd (cc h)
ask_suits_next_log m (Enter o Reading) r b (Answer j v ∷ es) can h = absurd (cc h)
ask_suits_next_log m (Enter o Reading) r b (EnteredAt p c v l ∷ es) can h = (cc h, cc h)
ask_suits_next_log m (Enter o Reading) r b (FailedTry p ∷ es) can h = absurd (cc h)
ask_suits_next_log m (Enter o Reading) r b (LeftAt p c v ∷ es) can h = absurd (cc h)
ask_suits_next_log m (Enter o Writing) r b [] can h = absurd (cc h)
ask_suits_next_log m (Enter o Writing) r b (Quiet ∷ es) can h = absurd (cc h)
ask_suits_next_log m (Enter o Writing) r b (Answer j v ∷ es) can h = absurd (cc h)
ask_suits_next_log m (Enter o Writing) r b (EnteredAt p c v l ∷ es) can h = (cc h, cc h)
ask_suits_next_log m (Enter o Writing) r b (FailedTry p ∷ es) can h = absurd (cc h)
ask_suits_next_log m (Enter o Writing) r b (LeftAt p c v ∷ es) can h = absurd (cc h)
ask_suits_next_log m (Try o) zero b [] can h = absurd (cc h)
ask_suits_next_log m (Try o) zero b (Quiet ∷ es) can h = absurd (cc h)
ask_suits_next_log m (Try o) zero b (Answer j v ∷ es) can h = absurd (cc h)
ask_suits_next_log m (Try o) zero b (EnteredAt p c v l ∷ es) can h = absurd (cc h)
ask_suits_next_log m (Try o) zero b (FailedTry p ∷ es) can h = cc h
ask_suits_next_log m (Try o) zero b (LeftAt p c v ∷ es) can h = absurd (cc h)
ask_suits_next_log m (Try o) (suc zero) b [] can h = absurd (cc h)
ask_suits_next_log m (Try o) (suc zero) b (Quiet ∷ es) can h = absurd (cc h)
ask_suits_next_log m (Try o) (suc zero) b (Answer j v ∷ es) can h = absurd (cc h)
ask_suits_next_log m (Try o) (suc zero) b (EnteredAt p c v l ∷ es) can h = (cc h, cc h)
ask_suits_next_log m (Try o) (suc zero) b (FailedTry p ∷ es) can h = absurd (cc h)
ask_suits_next_log m (Try o) (suc zero) b (LeftAt p c v ∷ es) can h = absurd (cc h)
ask_suits_next_log m (Try o) (suc (suc r)) b es can h = absurd can
ask_suits_next_log m (Leave o a) r b es can h = tt
ask_suits_next_log m (Get o i) r b es can h = tt
ask_suits_next_log m (Put o i w) r b es can h = tt
ask_suits_next_log m Done r b es can h = tt

-- a step that follows is the trace's
pub last_step_agrees_now : {T : Type 0} (m : Machine T) (s : State T) (tr : Trace) (run : List Step) (e : Step) → LastStepFollows m s tr run e
    → AgreesNow m s tr run e.0
last_step_agrees_now m s tr run e last = (
  last.left,
  ask_suits_next_log m (asked m (end m s run) e.0) e.1
      ((end m s run).objects (target (act_of (asked m (end m s run) e.0) e.1))) _ last.can last.logs,
  last.closes,
)

standing_does_not_go_on : {T : Type 0} (m : Machine T) (s : State T) (tr : Trace) (run : List Step) (t : ℕ) (v : ThreadVerdict) → StandsAs m s tr run t v
    → GoesOn m s tr run t → ⊥
standing_does_not_go_on m s tr run t Same h g = stepping_is_not_done m (end m s run) _ (last_step_follows_trace m tr s run _ g).can h
standing_does_not_go_on m s tr run t (Disagrees j k) h g = h.1 (last_step_agrees_now m s tr run _ (last_step_follows_trace m tr s run _ g))
standing_does_not_go_on m s tr run t (Starves j) h g = h.2 g

-- a run has gone as far as any can if each thread is as its verdict says
pub all_standing_is_maximal : {T : Type 0} (n : ℕ) (m : Machine T) (s : State T) → IsIdle m s n → (tr : Trace) (run : List Step)
    → Follows (closing m tr) m s tr run → ((t : ℕ) → t < n → (v : ThreadVerdict) × StandsAs m s tr run t v)
    → IsMaximal (closing m tr) m s tr run
all_standing_is_maximal n m s im tr run f stands = maximal_if_none_go_on m tr s run (λ t g. elim (cases_lt t n) [
  | inl l ↦ standing_does_not_go_on m s tr run t (stands t l).0 (stands t l).1 g
  | inr le ↦ stepping_is_not_done m (end m s run) _ (last_step_follows_trace m tr s run _ g).can (idle_after_run m s n im run f.0 t le)
])

-- at the end of a run that has gone as far as any can, how a thread is gives its verdict
pub verdict_from_standing : {T : Type 0} (n : ℕ) (m : Machine T) → IsLawful m → (tr : Trace) → IsCoherent n tr → HoldsEvents m tr → (s : State T)
    → StateInvariant m s → IsStart m s → IsIdle m s n → (run : List Step) → Follows (closing m tr) m s tr run → IsMaximal (closing m tr) m s tr run
    → (t : ℕ) (v : ThreadVerdict) → StandsAs m s tr run t v → IsVerdict m s tr run t v
verdict_from_standing n m law tr co ev s good st im run f top t Same h = h
verdict_from_standing n m law tr co ev s good st im run f top t (Disagrees j k) h = h
verdict_from_standing n m law tr co ev s good st im run f top t (Starves j) h =
    starving (verdict_exists n m law tr co ev s good st im run f top t).0 (verdict_exists n m law tr co ev s good st im run f top t).1
  where
    starving : (v : ThreadVerdict) → IsVerdict m s tr run t v → IsVerdict m s tr run t (Starves j)
    starving Same g = absurd (h.0 g)
    starving (Disagrees i k) g = absurd (g.1 h.1)
    starving (Starves i) g = (h.0, h.1, g.2, g.3, h.3)

-- a thread that isn't the same has a step left
pub not_same_is_not_done : {T : Type 0} (m : Machine T) (s : State T) (tr : Trace) (run : List Step) (t : ℕ) (v : ThreadVerdict)
    → StandsAs m s tr run t v → v ≢ Same → asked m (end m s run) t ≢ Done
not_same_is_not_done m s tr run t Same h ne = absurd (ne refl)
not_same_is_not_done m s tr run t (Disagrees j k) h ne = h.0
not_same_is_not_done m s tr run t (Starves j) h ne = h.0

-- where each of the n threads is the same, all are done
pub all_same_is_done : {T : Type 0} (n : ℕ) (m : Machine T) (s : State T) → IsIdle m s n → (tr : Trace) (run : List Step)
    → Follows (closing m tr) m s tr run → ((t : ℕ) → t < n → StandsAs m s tr run t Same) → IsDone m (end m s run)
all_same_is_done n m s im tr run f same t = elim (cases_lt t n) [ inl l ↦ same t l | inr le ↦ idle_after_run m s n im run f.0 t le ]
