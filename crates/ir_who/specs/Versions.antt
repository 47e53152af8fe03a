-- The versions of an object: what made each, and who read it.
use Rattle.std.specs.Prelude.{◌≡◌, ℕ, suc, ◌<◌, ◌≤◌, List, Some, length}
use Rattle.std.specs.List.{slice_get}
use Rattle.ir_trace.specs.Recorded.{Recorded, trace_of}
use Rattle.ir_coherence.specs.Counting.{reads_in}
use Rattle.ir_past.specs.Past.{IsReadAt, IsWriteAt, IsMadeBy}
use Rattle.ir_who.specs.declared.version.Version.{Version}

-- how many read entries of object o there are at version v
abbrev pub readers_at : Recorded → ℕ → ℕ → ℕ
readers_at r o v = reads_in (length r.threads) (trace_of r) o v

-- what is said of version v of object o
pub record IsVersion (r : Recorded) (o v : ℕ) (x : Version) : Type 0 where
  pub made : IsMadeBy r o v x.made_by
  pub readers : x.readers ≡ readers_at r o v

-- all versions of object o: each that an event reads, and each that one makes
pub record AreVersions (r : Recorded) (o : ℕ) (rows : List Version) : Type 0 where
  pub first : 1 ≤ length rows
  pub each : (v : ℕ) (x : Version) → slice_get rows v ≡ Some x → IsVersion r o v x
  pub read : (t i v : ℕ) → IsReadAt r t i o v → v < length rows
  pub written : (t i v l : ℕ) → IsWriteAt r t i o v l → suc v < length rows
