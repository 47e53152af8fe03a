-- How far what boxes see is found.
use Rattle.std.specs.Prelude.{◌≡◌, ℕ, ◌<◌, ◌⊎◌, List, Option, Some, None}
use Rattle.std.specs.List.{slice_get, slice_index_or}
use Rattle.ir_log.specs.declared.event.Event.{Event}
use Rattle.ir_log.specs.declared.event.Event.TheVariants.{Read, Write}
use Rattle.ir_trace.specs.Recorded.{Recorded}
use Rattle.ir_coherence.specs.Before.{IsBefore}
use Rattle.ir_past.specs.Past.{event_at, entered}
use Rattle.ir_picture.specs.Needs.{IsEntryOf}
use Rattle.ir_picture.specs.Chrome.{IsChromeSight}
use Rattle.ir_picture.specs.declared.placed_box.PlacedBox.{PlacedBox}
use Rattle.ir_picture.specs.declared.sights.Sight.{Sight}

-- an event enters object o at version v
abbrev pub Enters : Event → ℕ → ℕ → Type 0
Enters e o v = (e ≡ Read o v) ⊎ ((l : ℕ) × (e ≡ Write o v l))

-- event i of thread t enters object o at version v, and none of the thread's first n events enters o after it
pub record IsLastEntry (r : Recorded) (t n o i v : ℕ) : Type 0 where
  pub before : i < n
  pub entry : IsEntryOf r t i o v
  pub alone : (k : ℕ) (e : Event) → i < k → k < n → event_at r t k ≡ Some e → entered e ≡ Some o → ⊥

-- the version that is noted of an object
abbrev pub entry_noted : List (Option ℕ) → ℕ → Option ℕ
entry_noted table o = slice_index_or table o None

-- of each object the version is noted that the last entry among the first n events of thread t found
pub record HoldsEntries (r : Recorded) (t n : ℕ) (table : List (Option ℕ)) : Type 0 where
  pub found : (o v : ℕ) → entry_noted table o ≡ Some v → (i : ℕ) × IsLastEntry r t n o i v
  pub all : (o i v : ℕ) → IsLastEntry r t n o i v → entry_noted table o ≡ Some v

-- a box that begins with event i of thread t sees something
pub record SeesAt (r : Recorded) (boxes : List PlacedBox) (t i : ℕ) (s : Sight) : Type 0 where
  pub sight : IsChromeSight r boxes s
  pub thread : s.seer.events.thread ≡ t
  pub event : s.seer.events.event ≡ i

-- these are what boxes see that begin before event n of thread t
pub record SightsBefore (r : Recorded) (boxes : List PlacedBox) (t n : ℕ) (sights : List Sight) : Type 0 where
  pub each : (k : ℕ) (s : Sight) → slice_get sights k ≡ Some s → IsChromeSight r boxes s
  pub before : (k : ℕ) (s : Sight) → slice_get sights k ≡ Some s → IsBefore s.seer.events.thread s.seer.events.event t n
  pub all : (s : Sight) → IsChromeSight r boxes s → IsBefore s.seer.events.thread s.seer.events.event t n → (k : ℕ) × (slice_get sights k ≡ Some s)
  pub rising : (k m : ℕ) (s z : Sight) → k < m → slice_get sights k ≡ Some s → slice_get sights m ≡ Some z
      → IsBefore s.seer.events.thread s.seer.events.event z.seer.events.thread z.seer.events.event
