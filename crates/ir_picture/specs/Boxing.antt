-- How far the boxes of a trace are made.
use Rattle.std.specs.Prelude.{◌≡◌, ℕ, zero, suc, ◌+◌, ◌*◌, ◌<◌, ◌≤◌, ◌⊎◌, ⊤, Bool, true, false, List, Option, Some, None, length}
use Rattle.std.specs.List.{slice_get, slice_index_or}
use Rattle.ir_thread.specs.State.{most_events}
use Rattle.ir_log.specs.declared.event.Event.{Event}
use Rattle.ir_log.specs.declared.event.Event.TheVariants.{Try}
use Rattle.ir_trace.specs.Recorded.{Recorded, recorded_thread}
use Rattle.ir_coherence.specs.Before.{IsBefore}
use Rattle.ir_past.specs.Progress.{IsOpenRead}
use Rattle.ir_picture.specs.Boxes.{ReadsAgain, TriesAgain, AreFolded, IsInBox, HasBox, IsBox}
use Rattle.ir_picture.specs.declared.event_box.EventBox.{EventBox}
use Rattle.ir_picture.specs.declared.repeats.Habits.{Habits}
use Rattle.ir_picture.specs.declared.repeats.Repeat.{Repeat}
use Rattle.ir_picture.specs.declared.repeats.Repeat.TheVariants as repeat

-- event i of a log does this again
abbrev pub IsRepeat : List Event → ℕ → Repeat → Type 0
IsRepeat es i repeat.Nothing = (ReadsAgain es i → ⊥) × (TriesAgain es i → ⊥)
IsRepeat es i repeat.Read = ReadsAgain es i
IsRepeat es i repeat.Try = TriesAgain es i

-- whether two events that follow each other and repeat this belong into one box
abbrev pub are_alike : Repeat → Repeat → Bool
are_alike repeat.Nothing b = false
are_alike repeat.Read repeat.Nothing = false
are_alike repeat.Read repeat.Read = true
are_alike repeat.Read repeat.Try = false
are_alike repeat.Try repeat.Nothing = false
are_alike repeat.Try repeat.Read = false
are_alike repeat.Try repeat.Try = true

-- the event before event n of a log did this again; nothing, if there is none
abbrev pub IsRepeatBefore : List Event → ℕ → Repeat → Type 0
IsRepeatBefore es zero x = x ≡ repeat.Nothing
IsRepeatBefore es (suc i) x = IsRepeat es i x

-- whether event n of a log is folded with the event before it
abbrev pub IsFold : List Event → ℕ → Bool → Type 0
IsFold es n true = (i : ℕ) × (n ≡ suc i) × AreFolded es i n
IsFold es n false = (i : ℕ) → n ≡ suc i → AreFolded es i n → ⊥

-- the version that is noted of an object
abbrev pub version_noted : List (Option ℕ) → ℕ → Option ℕ
version_noted table o = slice_index_or table o None

-- of each object the version is noted at which its last entry among the first n events read it, if it is a read entry
pub record HoldsReads (es : List Event) (n : ℕ) (table : List (Option ℕ)) : Type 0 where
  pub found : (o v : ℕ) → version_noted table o ≡ Some v → (i : ℕ) × IsOpenRead es n o i v
  pub all : (o i v : ℕ) → IsOpenRead es n o i v → version_noted table o ≡ Some v

-- the event before event n of a log is a refused try of object o
abbrev pub HasTriedBox : List Event → ℕ → ℕ → Type 0
HasTriedBox es n o = (i : ℕ) × (n ≡ suc i) × (slice_get es i ≡ Some (Try o))

-- the object is noted that the event before event n tries in vain, if it does
pub record HoldsTry (es : List Event) (n : ℕ) (tried : Option ℕ) : Type 0 where
  pub found : (o : ℕ) → tried ≡ Some o → HasTriedBox es n o
  pub all : (o : ℕ) → HasTriedBox es n o → tried ≡ Some o

-- the first n events of a log are noted
pub record Notes (es : List Event) (n : ℕ) (h : Habits) : Type 0 where
  pub reads : HoldsReads es n h.read.items
  pub tries : HoldsTry es n h.tried

-- a box ends before event n of thread t
abbrev pub EndsBy : EventBox → ℕ → ℕ → Type 0
EndsBy b t n = (b.thread < t) ⊎ ((b.thread ≡ t) × (b.event + b.count ≤ n))

-- each box ends before the later ones begin
abbrev pub AreBoxesApart : List EventBox → Type 0
AreBoxesApart boxes = (k m : ℕ) (a b : EventBox) → k < m → slice_get boxes k ≡ Some a → slice_get boxes m ≡ Some b → EndsBy a b.thread b.event

-- boxes of a trace, in their order, but perhaps not all
pub record AreSomeBoxes (r : Recorded) (boxes : List EventBox) : Type 0 where
  pub each : (k : ℕ) (b : EventBox) → slice_get boxes k ≡ Some b → IsBox r b
  pub apart : AreBoxesApart boxes

-- the last box has the event before event n of thread t, if there is one
abbrev pub HasLastBox : List EventBox → ℕ → ℕ → Type 0
HasLastBox boxes t zero = ⊤
HasLastBox boxes t (suc i) = (k : ℕ) × (b : EventBox) × (length boxes ≡ suc k) × (slice_get boxes k ≡ Some b) × IsInBox b t i

-- the boxes are those of the events before event n of thread t
pub record BoxedBefore (r : Recorded) (t n : ℕ) (boxes : List EventBox) : Type 0 where
  pub each : (k : ℕ) (b : EventBox) → slice_get boxes k ≡ Some b → IsBox r b
  pub before : (k : ℕ) (b : EventBox) → slice_get boxes k ≡ Some b → EndsBy b t n
  pub all : (u i : ℕ) → i < length (recorded_thread r u).events → IsBefore u i t n → HasBox boxes u i
  pub apart : AreBoxesApart boxes
  pub joined : (k u i : ℕ) (b : EventBox) → slice_get boxes k ≡ Some b → IsInBox b u i → AreFolded (recorded_thread r u).events i (suc i)
      → IsBefore u (suc i) t n → IsInBox b u (suc i)
  pub last : HasLastBox boxes t n
  pub few : length boxes ≤ t * most_events + n
