-- The recorder in order, by what its worlds have answered and whether they have failed.
use Rattle.std.specs.Prelude.{ℕ, List, map, Bool, OnOk, IfErr}
use Rattle.std.specs.declared.result.Result.{Result}
use Rattle.ir_runs.specs.Run.{State}
use Rattle.ir_thread.specs.State as thread
use Rattle.ir_record.specs.Failures.{IsUnanswered, StoppedAt, StoppedTurns}
use Rattle.ir_record.specs.Progress.{Progress, progress, IsReadyToRecord}
use Rattle.ir_record.specs.Refusing.{Turn}
use Rattle.ir_record.specs.Worlds.{AnsweredCall, IsFirstFailed, AreSameWorlds}
use Rattle.ir_record.specs.declared.in_order.recorder.Recorder.{Recorder}
use Rattle.ir_record.specs.declared.in_order.turn.Failed.{Failed}

-- the guest that it records, the threads' logs, and the answers of their worlds
abbrev pub progress_of : {W : Type 0} → (W → List AnsweredCall) → Recorder W → Progress
progress_of answers r = progress r.guest (map answers r.worlds.items)

-- it may take a turn
abbrev pub CanContinue : {W : Type 0} → (W → List AnsweredCall) → (W → Bool) → Recorder W → Type 0
CanContinue answers broken r = IsReadyToRecord (progress_of answers r) (map broken r.worlds.items)

-- the world of the thread that is named has failed, and none of a lower thread
abbrev pub NamesFirst : {W : Type 0} → (W → Bool) → List W → Failed → Type 0
NamesFirst broken worlds f = IsFirstFailed (map broken worlds) f.thread

-- what each call that takes turns keeps: it may take another turn, or the first world that has failed is named; and its worlds are the same
pub record StaysReady {W O A : Type 0} (answers : W → List AnsweredCall) (broken : W → Bool) (origin : W → O) (old new : Recorder W)
    (result : Result A Failed) : Type 0 where
  pub ready : OnOk result (CanContinue answers broken new)
  pub failed : IfErr result (NamesFirst broken new.worlds.items)
  pub same_worlds : AreSameWorlds origin old.worlds.items new.worlds.items

-- thread t asks its world, which is the one that failed; these are the worlds afterwards
abbrev pub StopsAtOnce : {W : Type 0} → (W → List AnsweredCall) → ℕ → Recorder W → List W → Failed → Type 0
StopsAtOnce answers t r worlds f = IsUnanswered t (progress_of answers r) f.thread (map answers worlds)

-- from s on the turns of the order were taken until the one of the thread whose world failed
abbrev pub StopsIn : {W : Type 0} → (W → List AnsweredCall) → List ℕ → State thread.ThreadState → Recorder W → List W → Failed → Type 0
StopsIn answers order s r worlds f = StoppedAt order s (progress_of answers r) f.thread (map answers worlds)

-- the turns, in which tries may be refused, were taken until the one of the thread whose world failed
abbrev pub StopsInTurns : {W : Type 0} → (W → List AnsweredCall) → List Turn → Recorder W → List W → Failed → Type 0
StopsInTurns answers turns r worlds f = StoppedTurns turns (progress_of answers r) f.thread (map answers worlds)
