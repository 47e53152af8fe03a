-- What is said of the threads of a trace that no run has: which traces are accepted doesn't rest on it. Also the read entries of a log.
use Rattle.std.specs.Prelude.{◌≡◌, ◌≢◌, ℕ, ◌<◌, ◌≤◌, List, ◌∷◌, Option, length, Some, None, suc, pred, [], ◌++◌, zero, ◌+◌, cond, eqb}
use Rattle.ir_runs.specs.Machine.{Ask, Env, Enter, Try, Done, Machine, Label, Answer, EnteredAt, FailedTry, Trace, Quiet, LeftAt, logged}
use Rattle.ir_runs.specs.declared.access.Access.TheVariants.{Writing, Reading}
use Rattle.ir_runs.specs.Run.{State, Step, IsRun, end, trail, log, count}
use Rattle.ir_runs.specs.declared.thread_verdict.ThreadVerdict.{ThreadVerdict}
use Rattle.ir_runs.specs.declared.thread_verdict.ThreadVerdict.TheVariants.{Same, Disagrees, Starves}

-- 1 for a read entry of object o at version v, else 0
abbrev pub reads_one : ℕ → ℕ → Label → ℕ
reads_one o v (EnteredAt p Reading w l) = cond (eqb p o) (cond (eqb w v) 1 0) 0
reads_one o v event = 0

-- how many of these are read entries of object o at version v
abbrev pub reads : ℕ → ℕ → List Label → ℕ
reads o v [] = 0
reads o v (k ∷ ks) = reads_one o v k + reads o v ks

-- the sum of f over the numbers below
abbrev pub sum_below : ℕ → (ℕ → ℕ) → ℕ
sum_below zero f = 0
sum_below (suc n) f = f n + sum_below n f

-- a rule on a thread's next step by the steps and the log that are left to it; in each contract it is `closing`
abbrev pub Check : Type 0 → Type 1
Check T = T → ℕ → List Label → Type 0

-- the log that is left after the label
abbrev pub unlogged : Label → List Label → List Label
unlogged Quiet es = es
unlogged (LeftAt o a v) es = es
unlogged event [] = []
unlogged event (e ∷ es) = es

-- what is left of a log after these steps
abbrev pub left_log : {T : Type 0} → List (T × Label) → List Label → List Label
left_log [] es = es
left_log (x ∷ xs) es = left_log xs (unlogged x.1 es)

-- how many steps are left of a number after these steps
abbrev pub left_steps : {T : Type 0} → List (T × Label) → ℕ → ℕ
left_steps [] n = n
left_steps (x ∷ xs) n = left_steps xs (pred n)

-- these steps of one thread follow what is left to it, n steps and a log: a label that is logged is the first of the log that is left
abbrev pub Fits : {T : Type 0} → Check T → ℕ → List Label → List (T × Label) → Type 0
Fits E n es [] = Unit {0}
Fits E n es (x ∷ xs) = (0 < n) × (logged x.1 (unlogged x.1 es) ≡ es) × E x.0 n es × Fits E (pred n) (unlogged x.1 es) xs

-- each thread's steps in the run follow the trace
abbrev pub Follows : {T : Type 0} → (ℕ → Check T) → Machine T → State T → Trace → List Step → Type 0
Follows E m s tr run = IsRun m s run × ((t : ℕ) → Fits (E t) (tr.steps t) (tr.logs t) (trail m s run t))

-- no thread has a further step that follows
abbrev pub IsMaximal : {T : Type 0} → (ℕ → Check T) → Machine T → State T → Trace → List Step → Type 0
IsMaximal E m s tr run = (e : Step) → Follows E m s tr (run ++ e ∷ []) → ⊥

-- the end and code of a thread after a step, if it had none before
abbrev pub ends_at : Option (ℕ × ℕ) → Option (ℕ × ℕ) → Option (ℕ × ℕ)
ends_at None after = after
ends_at (Some e) after = None

-- the end and code that the thread gets by its next step, if that ends it; a step that ends a thread looks at no reply
abbrev pub ends_now : {T : Type 0} → Machine T → T → Option (ℕ × ℕ)
ends_now m x = ends_at (m.ended x) (m.ended (m.take x 0))

-- an end is the trace's, with no event left, and with this step and a leave of each object that is held the steps are the trace's
abbrev pub Meets : Option (ℕ × ℕ) → Option (ℕ × ℕ) → ℕ → ℕ → List Label → Type 0
Meets None fin size n es = Unit {0}
Meets (Some e) fin size n es = (fin ≡ Some e) × (n ≡ suc size) × (es ≡ [])

-- the rule on ends
abbrev pub closing : {T : Type 0} → Machine T → Trace → ℕ → Check T
closing m tr t x n es = Meets (ends_now m x) (tr.ends t) (m.size x) n es

-- where an event is asked for, the next one is of that kind and object
abbrev pub Suits : Ask → List Label → Type 0
Suits (Env k) (Answer j v ∷ es) = j ≡ k
Suits (Env k) _ = ⊥
Suits (Enter o a) (EnteredAt p c v l ∷ es) = (p ≡ o) × (c ≡ a)
Suits (Enter o a) _ = ⊥
Suits (Try o) (EnteredAt p c v l ∷ es) = (p ≡ o) × (c ≡ Writing)
Suits (Try o) (FailedTry p ∷ es) = p ≡ o
Suits (Try o) _ = ⊥
Suits q es = Unit {0}

-- the next step of a thread that isn't done doesn't disagree, where n steps and the log es are left: its position is below the trace's
-- steps, its event suits, and if it ends, then as the trace says
abbrev pub Agrees : {T : Type 0} → Machine T → Option (ℕ × ℕ) → T → ℕ → List Label → Type 0
Agrees m fin x n es = (0 < n) × Suits (m.ask x) es × Meets (ends_now m x) fin (m.size x) n es

-- an entry, or a try that the trace says got in
abbrev pub Awaits : Ask → List Label → Type 0
Awaits (Enter o a) es = Unit {0}
Awaits (Try o) (EnteredAt p c v l ∷ es) = Unit {0}
Awaits _ _ = ⊥

-- the verdict on a thread whose state is x, with n steps and the log es left, after i events and k steps; stuck says that no run takes it further
abbrev pub Judged : {T : Type 0} → Machine T → Option (ℕ × ℕ) → Type 0 → T → ℕ → List Label → ℕ → ℕ → ThreadVerdict → Type 0
Judged m fin stuck x n es i k Same = m.ask x ≡ Done
Judged m fin stuck x n es i k (Disagrees j h) = (m.ask x ≢ Done) × (Agrees m fin x n es → ⊥) × (j ≡ i) × (h ≡ k)
Judged m fin stuck x n es i k (Starves j) = (m.ask x ≢ Done) × Agrees m fin x n es × Awaits (m.ask x) es × stuck × (j ≡ i)

-- the verdict on thread t at the end of this run; where it starves, no run that follows the trace takes it further
abbrev pub IsVerdict : {T : Type 0} → Machine T → State T → Trace → List Step → ℕ → ThreadVerdict → Type 0
IsVerdict m s tr run t v = Judged m (tr.ends t)
    ((further : List Step) → Follows (closing m tr) m s tr further → count m s further t ≤ count m s run t) ((end m s run).now t)
    (left_steps (trail m s run t) (tr.steps t)) (left_log (trail m s run t) (tr.logs t)) (length (log m s run t)) (count m s run t) v
