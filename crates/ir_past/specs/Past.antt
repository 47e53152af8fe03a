-- What was written over before the thread that had read it wrote.
use Rattle.std.specs.Prelude.{◌≡◌, ℕ, suc, ◌<◌, List, Option, Some, None}
use Rattle.std.specs.List.{slice_get, sum_by}
use Rattle.ir_log.specs.declared.event.Event.{Event}
use Rattle.ir_log.specs.declared.event.Event.TheVariants.{Answer, Read, Write, Try}
use Rattle.ir_trace.specs.Recorded.{Recorded, RecordedThread, recorded_thread}
use Rattle.ir_coherence.specs.Before.{IsBefore}
use Rattle.ir_past.specs.declared.place.Place.{Place}
use Rattle.ir_past.specs.declared.stale_write.StaleWrite.{StaleWrite}

-- event i of thread t, if there is one
abbrev pub event_at : Recorded → ℕ → ℕ → Option Event
event_at r t i = slice_get (recorded_thread r t).events i

-- the object that an event enters, if it is an entry
abbrev pub entered : Event → Option ℕ
entered (Answer kind value) = None
entered (Read object version) = Some object
entered (Write object version readers) = Some object
entered (Try object) = None

-- event i of thread t enters object o for reading at version v
abbrev pub IsReadAt : Recorded → ℕ → ℕ → ℕ → ℕ → Type 0
IsReadAt r t i o v = event_at r t i ≡ Some (Read o v)

-- event i of thread t enters object o for writing at version v, after l readers of it
abbrev pub IsWriteAt : Recorded → ℕ → ℕ → ℕ → ℕ → ℕ → Type 0
IsWriteAt r t i o v l = event_at r t i ≡ Some (Write o v l)

-- event i of a log reads object o at version v, and its event j is the next that enters o, for writing at a later version
pub record IsStaleIn (es : List Event) (i j o v w : ℕ) : Type 0 where
  pub readers : ℕ
  pub read : slice_get es i ≡ Some (Read o v)
  pub write : slice_get es j ≡ Some (Write o w readers)
  pub later : i < j
  pub next : (k : ℕ) (e : Event) → i < k → k < j → slice_get es k ≡ Some e → entered e ≡ Some o → ⊥
  pub over : v < w

-- events i and j of thread t are a stale read and write: t read object o at version v, and o is at a later version w when t enters
-- it next, which is for writing
abbrev pub IsStale : Recorded → ℕ → ℕ → ℕ → ℕ → ℕ → ℕ → Type 0
IsStale r t i j o v w = IsStaleIn (recorded_thread r t).events i j o v w

-- a row of the answer: its events are a stale read and write, and the event that it names wrote over what was read
pub record IsRow (r : Recorded) (x : StaleWrite) : Type 0 where
  pub stale : IsStale r x.thread x.read x.event x.object x.version x.written
  pub readers : ℕ
  pub overwriter : IsWriteAt r x.overwritten_by.thread x.overwritten_by.event x.object x.version readers

-- the row of a stale read and write is among these
pub record HasRow (rows : List StaleWrite) (t i j : ℕ) : Type 0 where
  pub place : ℕ
  pub row : StaleWrite
  pub there : slice_get rows place ≡ Some row
  pub thread : row.thread ≡ t
  pub read : row.read ≡ i
  pub event : row.event ≡ j

-- each row comes before the later ones, by its thread and then by its write
abbrev pub IsRising : List StaleWrite → Type 0
IsRising rows = (a b : ℕ) (x y : StaleWrite) → a < b → slice_get rows a ≡ Some x → slice_get rows b ≡ Some y
    → IsBefore x.thread x.event y.thread y.event

-- the answer: rows alone, of each stale read and write one, by rising thread and event
pub record AreStaleWrites (r : Recorded) (rows : List StaleWrite) : Type 0 where
  pub sound : (k : ℕ) (x : StaleWrite) → slice_get rows k ≡ Some x → IsRow r x
  pub complete : (t i j o v w : ℕ) → IsStale r t i j o v w → HasRow rows t i j
  pub rising : IsRising rows

-- a read entry among these
pub record HasPlace (places : List Place) (t i : ℕ) : Type 0 where
  pub number : ℕ
  pub place : Place
  pub there : slice_get places number ≡ Some place
  pub thread : place.thread ≡ t
  pub event : place.event ≡ i

-- version v of object o was made by this event, the write entry at the version before; by none, if it is the first
abbrev pub IsMadeBy : Recorded → ℕ → ℕ → Option Place → Type 0
IsMadeBy r o v None = v ≡ 0
IsMadeBy r o v (Some p) = (before readers : ℕ) × (v ≡ suc before) × IsWriteAt r p.thread p.event o before readers

-- what wrote over version v of object o: the write entry at that version; none, if there is none
abbrev pub IsOverwriter : Recorded → ℕ → ℕ → Option Place → Type 0
IsOverwriter r o v None = (t i l : ℕ) → IsWriteAt r t i o v l → ⊥
IsOverwriter r o v (Some p) = (readers : ℕ) × IsWriteAt r p.thread p.event o v readers

-- each comes before the later ones, by its thread and then by its event
abbrev pub AreRowsRising : List Place → Type 0
AreRowsRising places = (a b : ℕ) (p q : Place) → a < b → slice_get places a ≡ Some p → slice_get places b ≡ Some q
    → IsBefore p.thread p.event q.thread q.event

-- the read entries of object o at version v, by rising thread and event
pub record AreReaders (r : Recorded) (o v : ℕ) (places : List Place) : Type 0 where
  pub sound : (k : ℕ) (p : Place) → slice_get places k ≡ Some p → IsReadAt r p.thread p.event o v
  pub complete : (t i : ℕ) → IsReadAt r t i o v → HasPlace places t i
  pub rising : AreRowsRising places

-- 1 for a write entry, else 0
abbrev pub write_one : Event → ℕ
write_one (Answer kind value) = 0
write_one (Read object version) = 0
write_one (Write object version readers) = 1
write_one (Try object) = 0

-- how many write entries a log has
abbrev pub write_entries : List Event → ℕ
write_entries es = sum_by write_one es

-- how many write entries a trace has
abbrev pub write_count : Recorded → ℕ
write_count r = sum_by (λ (t : RecordedThread). write_entries t.events) r.threads
