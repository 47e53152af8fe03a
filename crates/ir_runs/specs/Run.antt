-- Threads and objects, one step at a time: runs, cuts of a run, and rounds over the threads.
use Rattle.std.specs.Prelude.{◌≡◌, ℕ, zero, suc, Bool, true, false, eqb, List, [], ◌∷◌, length, pred, ◌<◌, ◌≤◌, cond, ltb, ◌++◌}
use Rattle.ir_runs.specs.Machine.{Ask, Done, Act, act_of, Machine, upd, Object, target, Admits, acted, reply, emitted, Label, logged, EnteredAt, LeftAt, Try, Trace}
use Rattle.ir_runs.specs.declared.access.Access.TheVariants.{Reading, Writing}
use Rattle.std.specs.List.{range_with_len}

-- all threads, of any kind, and all objects at one moment
pub record State (T : Type 0) : Type 0 where
  pub now : ℕ → T
  pub objects : ℕ → Object

-- a step is a thread, and the result of its call of the environment or try, if it makes one; else any number, at which nothing looks
abbrev pub Step : Type 0
Step = ℕ × ℕ

-- what thread t asks
abbrev pub asked : {T : Type 0} → Machine T → State T → ℕ → Ask
asked m s t = m.ask (s.now t)

-- what the step does
abbrev pub act : {T : Type 0} → Machine T → State T → Step → Act
act m s e = act_of (asked m s e.0) e.1

-- the step can be taken
abbrev pub Can : {T : Type 0} → Machine T → State T → Step → Type 0
Can m s e = Admits m (act m s e) (s.objects (target (act m s e)))

-- the state after thread t, whose state is x, did this
abbrev pub after_act : {T : Type 0} → Machine T → State T → ℕ → T → Act → State T
after_act m s t x q = record {
  now = upd s.now t (m.take x (reply q (s.objects (target q))));
  objects = upd s.objects (target q) (acted q t (s.objects (target q)));
}

-- the state after the step
unfoldable pub after : {T : Type 0} → Machine T → State T → Step → State T
after m s e = after_act m s e.0 (s.now e.0) (act m s e)

-- what the step emits
abbrev pub label : {T : Type 0} → Machine T → State T → Step → Label
label m s e = emitted (act m s e) (s.objects (target (act m s e)))

-- each step of the run can be taken after those before it
abbrev pub IsRun : {T : Type 0} → Machine T → State T → List Step → Type 0
IsRun m s [] = Unit {0}
IsRun m s (e ∷ run) = Can m s e × IsRun m (after m s e) run

-- the state at a run's end
abbrev pub end : {T : Type 0} → Machine T → State T → List Step → State T
end m s [] = s
end m s (e ∷ run) = end m (after m s e) run

-- xs, with x before it if b
abbrev pub join_if : {A : Type 0} → Bool → A → List A → List A
join_if true x xs = x ∷ xs
join_if false x xs = xs

-- the steps of thread t in the run, each with the thread before it and what it emits
abbrev pub trail : {T : Type 0} → Machine T → State T → List Step → ℕ → List (T × Label)
trail m s [] t = []
trail m s (e ∷ run) t = join_if (eqb t e.0) (s.now t, label m s e) (trail m (after m s e) run t)

-- what is logged of a thread's steps
abbrev pub events : {T : Type 0} → List (T × Label) → List Label
events [] = []
events (x ∷ xs) = logged x.1 (events xs)

-- the log of thread t
abbrev pub log : {T : Type 0} → Machine T → State T → List Step → ℕ → List Label
log m s run t = events (trail m s run t)

-- how many steps thread t takes
abbrev pub count : {T : Type 0} → Machine T → State T → List Step → ℕ → ℕ
count m s run t = length (trail m s run t)

-- the thread before step k, or after the last step
abbrev pub thread_in : {T : Type 0} → List (T × Label) → ℕ → T → T
thread_in [] k last = last
thread_in (x ∷ xs) zero last = x.0
thread_in (x ∷ xs) (suc k) last = thread_in xs k last

-- thread t after k of its steps
abbrev pub th : {T : Type 0} → Machine T → State T → List Step → ℕ → ℕ → T
th m s run t k = thread_in (trail m s run t) k ((end m s run).now t)

-- every thread is done
abbrev pub IsDone : {T : Type 0} → Machine T → State T → Type 0
IsDone m s = (t : ℕ) → asked m s t ≡ Done

-- a complete run of n threads with this trace
pub record IsWhole {T : Type 0} (m : Machine T) (s : State T) (n : ℕ) (tr : Trace) (run : List Step) : Type 0 where
  pub runs : IsRun m s run
  pub done : IsDone m (end m s run)
  pub steps : (t : ℕ) → t < n → count m s run t ≡ tr.steps t
  pub logs : (t : ℕ) → t < n → log m s run t ≡ tr.logs t
  pub ends : (t : ℕ) → t < n → m.ended ((end m s run).now t) ≡ tr.ends t

-- x is at place k of the list
abbrev pub At : {A : Type 0} → List A → ℕ → A → Type 0
At [] k x = ⊥
At (y ∷ ys) zero x = y ≡ x
At (y ∷ ys) (suc k) x = At ys k x

-- step k of thread t emits this
abbrev pub Emits : {T : Type 0} → Machine T → State T → List Step → ℕ → ℕ → Label → Type 0
Emits {T} m s run t k l = (x : T) × At (trail m s run t) k (x, l)

-- what emits the second needs what emits the first: an entry the writer's leave that made its version, one for writing each reader's leave too
abbrev pub IsNeededBy : Label → Label → Type 0
IsNeededBy (LeftAt o Writing w) (EnteredAt p a v l) = (o ≡ p) × (v ≡ suc w)
IsNeededBy (LeftAt o Reading w) (EnteredAt p Writing v l) = (o ≡ p) × (v ≡ w)
IsNeededBy (LeftAt o Reading w) _ = ⊥
IsNeededBy _ _ = ⊥

-- a position for each thread
abbrev pub Cut : Type 0
Cut = ℕ → ℕ

-- no position is past the thread's last
abbrev pub IsCut : {T : Type 0} → Machine T → State T → List Step → Cut → Type 0
IsCut m s run p = (t : ℕ) → p t ≤ count m s run t

-- what a step of the cut needs is in the cut
abbrev pub Consistent : {T : Type 0} → Machine T → State T → List Step → Cut → Type 0
Consistent m s run p = (t k u j : ℕ) (a b : Label) → Emits m s run t k a → Emits m s run u j b → IsNeededBy b a → k < p t → j < p u

-- the steps of the run that are in the cut, in the run's order
abbrev pub part : List Step → Cut → List Step
part [] p = []
part (e ∷ run) p = join_if (ltb 0 (p e.0)) e (part run (λ u. cond (eqb u e.0) (pred (p u)) (p u)))

-- the object at the cut
abbrev pub object_at : {T : Type 0} → Machine T → State T → List Step → Cut → ℕ → Object
object_at m s run p o = (end m s (part run p)).objects o

-- the consistent cut at or above p with t at k or more that lies below every other such (t is then exactly there: `least_exact` of ir_cut)
pub record IsLeast {T : Type 0} (m : Machine T) (s : State T) (run : List Step) (p : Cut) (t k : ℕ) (q : Cut) : Type 0 where
  pub cut : IsCut m s run q
  pub consistent : Consistent m s run q
  pub above : (u : ℕ) → p u ≤ q u
  pub reaches : k ≤ q t
  pub least : (c : Cut) → IsCut m s run c → Consistent m s run c → ((u : ℕ) → p u ≤ c u) → k ≤ c t → (u : ℕ) → q u ≤ c u

-- the consistent cut at or below p with t at k or less that lies above every other such
pub record IsGreatest {T : Type 0} (m : Machine T) (s : State T) (run : List Step) (p : Cut) (t k : ℕ) (q : Cut) : Type 0 where
  pub cut : IsCut m s run q
  pub consistent : Consistent m s run q
  pub below : (u : ℕ) → q u ≤ p u
  pub reaches : q t ≤ k
  pub greatest : (c : Cut) → IsCut m s run c → Consistent m s run c → ((u : ℕ) → c u ≤ p u) → c t ≤ k → (u : ℕ) → c u ≤ q u

-- thread t has no step now: it is done, or it must wait
abbrev pub HasNone : {T : Type 0} → Machine T → State T → ℕ → Type 0
HasNone m s t = (r : ℕ) → Can m s (t, r) → ⊥

-- a try enters if no thread is inside
abbrev pub EntersIfFree : {T : Type 0} → Machine T → State T → Step → Type 0
EntersIfFree m s e = (o : ℕ) → asked m s e.0 ≡ Try o → Can m s (e.0, 1) → e.1 ≡ 1

-- `count` rounds over the first n threads, from 0 upwards
abbrev pub rounds : ℕ → ℕ → List ℕ
rounds n zero = []
rounds n (suc count) = range_with_len 0 n ++ rounds n count
