-- The boxes of a picture: each has one event, or some that see nothing new.
use Rattle.std.specs.Prelude.{◌≡◌, ◌≢◌, ℕ, suc, ◌+◌, ◌<◌, ◌≤◌, ◌⊎◌, List, length, Some}
use Rattle.std.specs.List.{slice_get}
use Rattle.ir_log.specs.declared.event.Event.{Event}
use Rattle.ir_log.specs.declared.event.Event.TheVariants.{Read, Try}
use Rattle.ir_trace.specs.Recorded.{Recorded, recorded_thread}
use Rattle.ir_coherence.specs.Before.{IsBefore}
use Rattle.ir_past.specs.Past.{entered}
use Rattle.ir_picture.specs.declared.event_box.EventBox.{EventBox}

-- event i of a log reads an object at the version at which the log's entry of it before was a read too
pub record ReadsAgain (es : List Event) (i : ℕ) : Type 0 where
  pub object : ℕ
  pub version : ℕ
  pub before : ℕ
  pub read : slice_get es i ≡ Some (Read object version)
  pub earlier : before < i
  pub same : slice_get es before ≡ Some (Read object version)
  pub alone : (k : ℕ) (e : Event) → before < k → k < i → slice_get es k ≡ Some e → entered e ≢ Some object

-- event i of a log is a refused try, and the event before it is one of the same object
pub record TriesAgain (es : List Event) (i : ℕ) : Type 0 where
  pub object : ℕ
  pub before : ℕ
  pub next : i ≡ suc before
  pub «try» : slice_get es i ≡ Some (Try object)
  pub same : slice_get es before ≡ Some (Try object)

-- these two events belong into one box: they follow each other, and are repeats of one kind
pub record AreFolded (es : List Event) (i j : ℕ) : Type 0 where
  pub next : j ≡ suc i
  pub repeats : (ReadsAgain es i × ReadsAgain es j) ⊎ (TriesAgain es i × TriesAgain es j)

-- event i of thread t is in a box
pub record IsInBox (b : EventBox) (t i : ℕ) : Type 0 where
  pub thread : b.thread ≡ t
  pub from : b.event ≤ i
  pub below : i < b.event + b.count

-- event i of thread t is in one of these boxes
pub record HasBox (boxes : List EventBox) (t i : ℕ) : Type 0 where
  pub number : ℕ
  pub box : EventBox
  pub there : slice_get boxes number ≡ Some box
  pub has : IsInBox box t i

-- a box of a trace: it has events, which are folded
pub record IsBox (r : Recorded) (b : EventBox) : Type 0 where
  pub thread : b.thread < length r.threads
  pub some : 1 ≤ b.count
  pub within : b.event + b.count ≤ length (recorded_thread r b.thread).events
  pub folds : (i : ℕ) → b.event ≤ i → suc i < b.event + b.count → AreFolded (recorded_thread r b.thread).events i (suc i)

-- the boxes of a trace: each event is in exactly one, two events that are folded are in the same one, and the boxes come by rising thread and event
pub record AreBoxes (r : Recorded) (boxes : List EventBox) : Type 0 where
  pub each : (k : ℕ) (b : EventBox) → slice_get boxes k ≡ Some b → IsBox r b
  pub all : (t i : ℕ) → i < length (recorded_thread r t).events → HasBox boxes t i
  pub one : (k m t i : ℕ) (a b : EventBox) → slice_get boxes k ≡ Some a → slice_get boxes m ≡ Some b → IsInBox a t i → IsInBox b t i → k ≡ m
  pub joined : (k t i : ℕ) (b : EventBox) → slice_get boxes k ≡ Some b → IsInBox b t i → AreFolded (recorded_thread r t).events i (suc i)
      → IsInBox b t (suc i)
  pub rising : (k m : ℕ) (a b : EventBox) → k < m → slice_get boxes k ≡ Some a → slice_get boxes m ≡ Some b
      → IsBefore a.thread a.event b.thread b.event
