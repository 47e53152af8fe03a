-- Where the threads are at the end of a run that follows a trace.
use Rattle.std.specs.Prelude.{◌≡◌, ◌≢◌, ℕ, List, [], ◌∷◌, ◌++◌, length}
use Rattle.ir_runs.specs.Machine.{Machine, Done, Label, Trace}
use Rattle.ir_runs.specs.Run.{State, Step, asked, end, trail, log, count}
use Rattle.ir_runs.specs.Verdicts.{Agrees, Follows, left_log, left_steps, closing}
use Rattle.ir_runs.specs.Events.{result_of}
use Rattle.ir_runs.specs.declared.thread_verdict.ThreadVerdict.{ThreadVerdict}
use Rattle.ir_runs.specs.declared.thread_verdict.ThreadVerdict.TheVariants.{Same, Disagrees, Starves}

-- how many steps the trace leaves to thread t after the run
abbrev pub steps_over : {T : Type 0} → Machine T → State T → Trace → List Step → ℕ → ℕ
steps_over m s tr run t = left_steps (trail m s run t) (tr.steps t)

-- the log that the trace leaves to thread t after the run
abbrev pub log_over : {T : Type 0} → Machine T → State T → Trace → List Step → ℕ → List Label
log_over m s tr run t = left_log (trail m s run t) (tr.logs t)

-- after the run, thread t has a further step that follows: with the result that its log gives
abbrev pub GoesOn : {T : Type 0} → Machine T → State T → Trace → List Step → ℕ → Type 0
GoesOn m s tr run t = Follows (closing m tr) m s tr (run ++ (t, result_of (asked m (end m s run) t) (log_over m s tr run t)) ∷ [])

-- the next step of thread t isn't the trace's, or is
abbrev pub AgreesNow : {T : Type 0} → Machine T → State T → Trace → List Step → ℕ → Type 0
AgreesNow m s tr run t = Agrees m (tr.ends t) ((end m s run).now t) (steps_over m s tr run t) (log_over m s tr run t)

-- thread t has no further step that follows: it is done, its next step isn't the trace's, or it is and can't be taken now
abbrev pub StandsAs : {T : Type 0} → Machine T → State T → Trace → List Step → ℕ → ThreadVerdict → Type 0
StandsAs m s tr run t Same = asked m (end m s run) t ≡ Done
StandsAs m s tr run t (Disagrees j h) = (asked m (end m s run) t ≢ Done) × (AgreesNow m s tr run t → ⊥) × (j ≡ length (log m s run t))
    × (h ≡ count m s run t)
StandsAs m s tr run t (Starves j) = (asked m (end m s run) t ≢ Done) × AgreesNow m s tr run t × (GoesOn m s tr run t → ⊥)
    × (j ≡ length (log m s run t))
