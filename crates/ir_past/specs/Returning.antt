-- What a stale read and write are in the runs with a trace: how often others write between.
use Rattle.std.specs.Prelude.{◌≡◌, ℕ, ◌+◌, ◌<◌, cond, eqb, List, [], ◌∷◌, ◌++◌, map, length, Some}
use Rattle.std.specs.List.{slice_get}
use Rattle.ir_runs.specs.Machine.{Machine, Label, Quiet, Answer, EnteredAt, FailedTry, LeftAt}
use Rattle.ir_runs.specs.declared.access.Access.TheVariants.{Reading, Writing}
use Rattle.ir_runs.specs.Run.{State, Step, after, label, IsRun, end, log}
use Rattle.ir_runs.specs.Bounds.{IsStart}
use Rattle.ir_thread.specs.State.{thread_machine}
use Rattle.ir_thread.specs.State as thread
use Rattle.ir_log.specs.Logging.{label_of}
use Rattle.ir_log.specs.declared.event.Event.{Event}
use Rattle.ir_log.specs.declared.event.Event.TheVariants.{Read, Write}
use Rattle.ir_past.specs.Past.{entered}

-- 1 for a step of another thread than t, here u, that leaves object o after writing, else 0
abbrev pub leaves_one : ℕ → ℕ → ℕ → Label → ℕ
leaves_one t o u Quiet = 0
leaves_one t o u (Answer k x) = 0
leaves_one t o u (EnteredAt p a v l) = 0
leaves_one t o u (FailedTry p) = 0
leaves_one t o u (LeftAt p Reading v) = 0
leaves_one t o u (LeftAt p Writing v) = cond (eqb u t) 0 (cond (eqb p o) 1 0)

-- how often other threads than t leave object o after writing
abbrev pub left_by_others : {T : Type 0} → Machine T → State T → ℕ → ℕ → List Step → ℕ
left_by_others m s t o [] = 0
left_by_others m s t o (e ∷ run) = leaves_one t o e.0 (label m s e) + left_by_others m (after m s e) t o run

-- thread t enters object o for writing at version w by the next entry of it, its event number j from the state s on; between, others leave it
-- after writing as often as its version grew
pub record ComesBack {T : Type 0} (m : Machine T) (s : State T) (run : List Step) (t j o w : ℕ) : Type 0 where
  pub between : List Step
  pub write : Step
  pub rest : List Step
  pub split : run ≡ between ++ write ∷ rest
  pub own : write.0 ≡ t
  pub readers : ℕ
  pub writes : label m (end m s between) write ≡ EnteredAt o Writing w readers
  pub number : length (log m s between t) ≡ j
  pub counted : (s.objects o).version + left_by_others m s t o between ≡ w

-- thread t leaves object o, which it read at version v, and comes back for writing at version w by its event number j from the state s on
pub record LeavesAndComesBack {T : Type 0} (m : Machine T) (s : State T) (run : List Step) (t j o v w : ℕ) : Type 0 where
  pub before : List Step
  pub leave : Step
  pub after_leave : List Step
  pub split : run ≡ before ++ leave ∷ after_leave
  pub own : leave.0 ≡ t
  pub leaves : label m (end m s before) leave ≡ LeftAt o Reading v
  pub back : ℕ
  pub number : length (log m s before t) + back ≡ j
  pub comes : ComesBack m (after m (end m s before) leave) after_leave t back o w
  pub version : ((after m (end m s before) leave).objects o).version ≡ v

-- the same from the state before the read, which is event i of thread t from there on
pub record ReadsAndComesBack {T : Type 0} (m : Machine T) (s : State T) (run : List Step) (t i j o v w : ℕ) : Type 0 where
  pub before : List Step
  pub read : Step
  pub after_read : List Step
  pub split : run ≡ before ++ read ∷ after_read
  pub own : read.0 ≡ t
  pub reads : label m (end m s before) read ≡ EnteredAt o Reading v 0
  pub number : length (log m s before t) ≡ i
  pub later : ℕ
  pub place : i + 1 + later ≡ j
  pub comes : LeavesAndComesBack m (after m (end m s before) read) after_read t later o v w

-- event i of a log reads object o at version v, and its event j is the next that enters o, for writing at version w
pub record IsReturn (es : List Event) (i j o v w : ℕ) : Type 0 where
  pub readers : ℕ
  pub read : slice_get es i ≡ Some (Read o v)
  pub write : slice_get es j ≡ Some (Write o w readers)
  pub later : i < j
  pub next : (k : ℕ) (e : Event) → i < k → k < j → slice_get es k ≡ Some e → entered e ≡ Some o → ⊥

-- the law: in each run of threads of any code, in which thread t has this log, it leaves o after the read and comes back, and between others leave o after writing as often
-- as its version grew, so w - v times. So the two are a stale read and write exactly where some other did
abbrev pub ReturnsCounted : Type 0
ReturnsCounted = (code : List ℕ) (s : State thread.ThreadState) → IsStart (thread_machine code) s → (run : List Step) → IsRun (thread_machine code) s run
    → (t i j o v w : ℕ) (es : List Event) → log (thread_machine code) s run t ≡ map label_of es → IsReturn es i j o v w
    → ReadsAndComesBack (thread_machine code) s run t i j o v w
