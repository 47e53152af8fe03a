-- How far a pass over a trace has come.
use Rattle.std.specs.Prelude.{◌≡◌, ℕ, ◌<◌, List, Option, Some, None, vec_len}
use Rattle.std.specs.List.{slice_get}
use Rattle.ir_log.specs.declared.event.Event.{Event}
use Rattle.ir_log.specs.declared.event.Event.TheVariants.{Read}
use Rattle.ir_trace.specs.Recorded.{Recorded}
use Rattle.ir_coherence.specs.Before.{IsBefore}
use Rattle.ir_past.specs.Past.{IsReadAt, IsWriteAt, IsStale, IsStaleIn, IsRow, HasRow, IsRising, HasPlace, AreRowsRising, entered}
use Rattle.ir_past.specs.Tables.{maker_in, read_in, last_read}
use Rattle.ir_past.specs.declared.stale_write.StaleWrite.{StaleWrite}
use Rattle.ir_past.specs.declared.place.Place.{Place}
use Rattle.ir_past.specs.declared.makers.Makers.{Makers}
use Rattle.ir_past.specs.declared.reads.Reads.{Reads}
use Rattle.ir_past.specs.declared.last_reads.ReadEntry.{ReadEntry}
use Rattle.ir_past.specs.declared.last_reads.StalePair.{StalePair}

-- event i reads object o at version v, and none of the first n events enters o after it
pub record IsOpenRead (es : List Event) (n o i v : ℕ) : Type 0 where
  pub before : i < n
  pub read : slice_get es i ≡ Some (Read o v)
  pub alone : (k : ℕ) (e : Event) → i < k → k < n → slice_get es k ≡ Some e → entered e ≡ Some o → ⊥

-- the table holds of each object the read entry that is its last entry among the first n events
pub record HoldsOpen (es : List Event) (n : ℕ) (table : List (Option ReadEntry)) : Type 0 where
  pub found : (o : ℕ) (e : ReadEntry) → last_read table o ≡ Some e → IsOpenRead es n o e.event e.version
  pub all : (o i v : ℕ) → IsOpenRead es n o i v → last_read table o ≡ None → ⊥

-- the table has a place for each object that an event enters
abbrev pub FitsSoFar : List Event → ℕ → Type 0
FitsSoFar es objects = (k o : ℕ) (e : Event) → slice_get es k ≡ Some e → entered e ≡ Some o → o < objects

-- what was found at event n
abbrev pub IsPairAt : List Event → ℕ → StalePair → Type 0
IsPairAt es n p = IsStaleIn es p.read n p.object p.version p.written

-- the write entries before event n of thread t are noted
pub record Makes (r : Recorded) (t n : ℕ) (m : Makers) : Type 0 where
  pub objects : vec_len m.objects ≡ r.objects
  pub sound : (o v : ℕ) (p : Place) → maker_in m o v ≡ Some p → (l : ℕ) × IsWriteAt r p.thread p.event o v l
  pub noted : (u j o v l : ℕ) → IsWriteAt r u j o v l → IsBefore u j t n → maker_in m o v ≡ None → ⊥

-- the rows are those of the writes before event n of thread t
pub record HasRows (r : Recorded) (t n : ℕ) (rows : List StaleWrite) : Type 0 where
  pub sound : (k : ℕ) (x : StaleWrite) → slice_get rows k ≡ Some x → IsRow r x
  pub before : (k : ℕ) (x : StaleWrite) → slice_get rows k ≡ Some x → IsBefore x.thread x.event t n
  pub complete : (u i j o v w : ℕ) → IsStale r u i j o v w → IsBefore u j t n → HasRow rows u i j
  pub rising : IsRising rows

-- the read entries of object o at version v that come before event n of thread t, by rising thread and event
pub record ReadBefore (r : Recorded) (o v t n : ℕ) (places : List Place) : Type 0 where
  pub sound : (k : ℕ) (p : Place) → slice_get places k ≡ Some p → IsReadAt r p.thread p.event o v
  pub before : (k : ℕ) (p : Place) → slice_get places k ≡ Some p → IsBefore p.thread p.event t n
  pub complete : (u i : ℕ) → IsReadAt r u i o v → IsBefore u i t n → HasPlace places u i
  pub rising : AreRowsRising places

-- the read entries before event n of thread t are noted
pub record HasReads (r : Recorded) (t n : ℕ) (m : Reads) : Type 0 where
  pub objects : vec_len m.objects ≡ r.objects
  pub each : (o v : ℕ) → ReadBefore r o v t n (read_in m o v)
