-- A run made of the runs of threads alone and of one order of their object steps.
use Rattle.std.specs.Prelude.{◌≡◌, ℕ, suc, zero, ◌≤◌, cond, List, [], ◌∷◌, ◌++◌, map, length, Some}
use Rattle.ir_thread.specs.Alone.{lone_run, values_of}
use Rattle.ir_thread.specs.State.{ask_of, reply_of, thread_machine}
use Rattle.ir_thread.specs.State as thread
use Rattle.ir_thread.specs.declared.ask.Reply.{Reply}
use Rattle.ir_runs.specs.Machine.{act_of, Done, Machine, upd}
use Rattle.ir_runs.specs.Shared.{is_shared}
use Rattle.ir_object.specs.Order.{Shared, of_thread, IsAllowedStep, objects_after, order_labels}
use Rattle.ir_runs.specs.Run.{State, Step, IsRun, IsDone, end, trail, join_if}
use Rattle.ir_flat.specs.Flat.{MayRun, alone_after}
use Rattle.ir_flat.specs.Trails.{alone_trail}

-- the object steps of a thread alone
abbrev pub shared_steps : {T : Type 0} → Machine T → T → List ℕ → List Shared
shared_steps m x [] = []
shared_steps m x (v ∷ vs) = join_if (is_shared (act_of (m.ask x) v)) (act_of (m.ask x) v, v) (shared_steps m (m.take x v) vs)

-- the replies before the next object step; the thread there; the replies from there on
abbrev pub lead : {T : Type 0} → Machine T → T → List ℕ → List ℕ
lead m x [] = []
lead m x (v ∷ vs) = cond (is_shared (act_of (m.ask x) v)) [] (v ∷ lead m (m.take x v) vs)

abbrev pub led : {T : Type 0} → Machine T → T → List ℕ → T
led m x [] = x
led m x (v ∷ vs) = cond (is_shared (act_of (m.ask x) v)) x (led m (m.take x v) vs)

abbrev pub remain : {T : Type 0} → Machine T → T → List ℕ → List ℕ
remain m x [] = []
remain m x (v ∷ vs) = cond (is_shared (act_of (m.ask x) v)) (v ∷ vs) (remain m (m.take x v) vs)

abbrev pub tail_of : List ℕ → List ℕ
tail_of [] = []
tail_of (v ∷ vs) = vs

-- each thread's last private steps
abbrev pub last_steps : (ℕ → List ℕ) → ℕ → List Step
last_steps rs zero = []
last_steps rs (suc n) = map (λ r. (n, r)) (rs n) ++ last_steps rs n

-- each thread's private steps before its next object step, and its last ones at the end
abbrev pub splice : {T : Type 0} → Machine T → (ℕ → T) → (ℕ → List ℕ) → ℕ → List (ℕ × Shared) → List Step
splice m now rs n [] = last_steps rs n
splice m now rs n (x ∷ xs) = map (λ r. (x.0, r)) (lead m (now x.0) (rs x.0)) ++ (x.0, x.1.1)
    ∷ splice m (upd now x.0 (m.take (led m (now x.0) (rs x.0)) x.1.1)) (upd rs x.0 (tail_of (remain m (now x.0) (rs x.0)))) n xs

-- a run in which each thread takes the steps that it takes alone, answered so, and the objects are stepped on in this order
pub record IsSplice {T : Type 0} (m : Machine T) (s : State T) (replies : ℕ → List ℕ) (order : List (ℕ × Shared)) (run : List Step) : Type
    0 where
  pub runs : IsRun m s run
  pub trails : (t : ℕ) → trail m s run t ≡ alone_trail m (s.now t) (replies t) (of_thread t (order_labels s.objects order))
  pub threads : (t : ℕ) → (end m s run).now t ≡ alone_after m (s.now t) (replies t)
  pub objects : (end m s run).objects ≡ objects_after s.objects order
  -- it is complete where each thread is done
  pub complete : ((t : ℕ) → m.ask (alone_after m (s.now t) (replies t)) ≡ Done) → IsDone m (end m s run)

-- if each of n threads, alone, has its object steps of the order, and no other thread has steps, there is such a run: each thread's
-- private steps before its next object step, and its last at the end
abbrev pub Splices : Type 0 → Type 0
Splices T = (m : Machine T) (s : State T) (replies : ℕ → List ℕ) (n : ℕ) (order : List (ℕ × Shared)) → ((t : ℕ) → n ≤ t → replies t ≡ [])
    → ((t : ℕ) → MayRun m (s.now t) (replies t))
    → ((t : ℕ) → shared_steps m (s.now t) (replies t) ≡ of_thread t order) → IsAllowedStep m s.objects order
    → IsSplice m s replies order (splice m s.now replies n order)

-- the replies to a thread that runs alone, as it takes them
abbrev pub replies_to : List ℕ → thread.ThreadState → List ℕ → List Reply
replies_to code x [] = []
replies_to code x (v ∷ vs) = reply_of (ask_of code x) v ∷ replies_to code ((thread_machine code).take x v) vs

-- a thread of a guest that may be given these replies is, after them, the thread run alone with the values among them
abbrev pub AloneIsLone : Type 0
AloneIsLone = (code : List ℕ) (x : thread.ThreadState) (vs : List ℕ) → MayRun (thread_machine code) x vs
    → lone_run code (length (replies_to code x vs)) (record { thread = x; values = values_of (replies_to code x vs) }) ≡ Some
    (record { thread = alone_after (thread_machine code) x vs; values = [] })
