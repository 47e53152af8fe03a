-- How many entries of a trace there are of each object at each version, and what these numbers say of an event.
use Rattle.std.specs.Prelude.{◌≡◌, ℕ, ◌+◌, ◌-◌, ◌^◌, ◌<◌, ◌≤◌, Bool, cond, eqb, nat_lt, ◌==◌, ◌&&◌, if◌then◌else◌, List, [], ◌∷◌, Option, Some, None, slice_index, slice_get, vec_len, length}
use Rattle.std.specs.Option.{option_map_or}
use Rattle.std.specs.List.{sum_by}
use Rattle.std.specs.List.Sorted.{IsNonDecreasing}
use Rattle.ir_runs.specs.Machine.{Label, Quiet, Answer, EnteredAt, FailedTry, LeftAt, Trace}
use Rattle.ir_runs.specs.declared.access.Access.TheVariants.{Reading, Writing}
use Rattle.ir_log.specs.Logging.{label_of}
use Rattle.ir_log.specs.declared.event.Event.{Event}
use Rattle.ir_thread.specs.declared.profile.Profile.{Profile}
use Rattle.ir_trace.specs.Bounds.{IsEvent}
use Rattle.ir_runs.specs.Verdicts.{reads, sum_below}
use Rattle.ir_coherence.specs.declared.cause.Cause.{Cause}
use Rattle.ir_coherence.specs.declared.cause.Cause.TheVariants.{Unmade, Twice, Readers}
use Rattle.ir_coherence.specs.declared.version_counts.VersionCounts.{VersionCounts}
use Rattle.ir_coherence.specs.declared.entry_counts.ObjectCounts.{ObjectCounts}
use Rattle.ir_coherence.specs.declared.entry_counts.EntryCounts.{EntryCounts}

-- an event that may be in a trace of `objects` objects, of whichever profile
abbrev pub MayStand : ℕ → Event → Type 0
MayStand objects event = (profile : Profile) × IsEvent profile objects event

-- 1 for a write entry of object o at version v, else 0
abbrev pub writes_one : ℕ → ℕ → Label → ℕ
writes_one o v Quiet = 0
writes_one o v (Answer k x) = 0
writes_one o v (EnteredAt p Reading w l) = 0
writes_one o v (EnteredAt p Writing w l) = cond (eqb p o) (cond (eqb w v) 1 0) 0
writes_one o v (FailedTry p) = 0
writes_one o v (LeftAt p a w) = 0

-- how many of these are write entries of object o at version v
abbrev pub writes_among : ℕ → ℕ → List Label → ℕ
writes_among o v [] = 0
writes_among o v (k ∷ ks) = writes_one o v k + writes_among o v ks

-- how many read entries of object o at version v are in the logs of the n threads
abbrev pub reads_in : ℕ → Trace → ℕ → ℕ → ℕ
reads_in n tr o v = sum_below n (λ u. reads o v (tr.logs u))

-- how many write entries
abbrev pub writes_in : ℕ → Trace → ℕ → ℕ → ℕ
writes_in n tr o v = sum_below n (λ u. writes_among o v (tr.logs u))

-- version v of object o is not the first, and the version before has no write entry
abbrev pub nobody_made : (ℕ → ℕ → ℕ) → ℕ → ℕ → Bool
nobody_made w o v = nat_lt 0 v && (w o (v - 1) == 0)

-- the first cause for which an event breaks coherence, where r counts the read entries and w the write entries of the trace at each version
-- of each object
abbrev pub cause_by : (ℕ → ℕ → ℕ) → (ℕ → ℕ → ℕ) → Label → Option Cause
cause_by r w Quiet = None
cause_by r w (Answer k x) = None
cause_by r w (EnteredAt o Reading v l) = if nobody_made w o v then Some Unmade else None
cause_by r w (EnteredAt o Writing v l) =
    if nobody_made w o v then Some Unmade else
    if nat_lt 1 (w o v) then Some Twice else
    if l == r o v then None else Some Readers
cause_by r w (FailedTry o) = None
cause_by r w (LeftAt o a v) = None

-- how often v occurs among these
abbrev pub occurrences : ℕ → List ℕ → ℕ
occurrences v xs = sum_by (λ w. cond (eqb w v) 1 0) xs

-- the first n of these are below k
pub record IsBelow (xs : List ℕ) (k n : ℕ) : Type 0 where
  pub within : n ≤ length xs
  pub each : (i : ℕ) → i < n → slice_index xs i < k

-- from place n on none of these is below k
pub record IsFrom (xs : List ℕ) (k n : ℕ) : Type 0 where
  pub within : n ≤ length xs
  pub each : (i : ℕ) → n ≤ i → i < length xs → k ≤ slice_index xs i

-- what a table of one object counts at version v
abbrev pub count_at : VersionCounts → ℕ → ℕ
count_at c v = if nat_lt v (vec_len c.near) then slice_index c.near.items v else occurrences v c.far.versions.items

-- the table can be asked
abbrev pub IsSettled : VersionCounts → Type 0
IsSettled c = IsNonDecreasing c.far.versions.items

-- nothing is counted
abbrev pub IsEmpty : VersionCounts → Type 0
IsEmpty c = (v : ℕ) → count_at c v ≡ 0

-- one more is counted at version v, and as many as before at the others
abbrev pub OneMore : VersionCounts → VersionCounts → ℕ → Type 0
OneMore old new v = (w : ℕ) → count_at new w ≡ count_at old w + cond (eqb v w) 1 0

-- what the tables of all objects count of read entries of object o at version v
abbrev pub reads_of : EntryCounts → ℕ → ℕ → ℕ
reads_of c o v = option_map_or (λ (x : ObjectCounts). count_at x.reads v) (slice_get c.objects.items o) 0

-- and of write entries
abbrev pub writes_of : EntryCounts → ℕ → ℕ → ℕ
writes_of c o v = option_map_or (λ (x : ObjectCounts). count_at x.writes v) (slice_get c.objects.items o) 0

-- the tables of all objects can be asked
abbrev pub AreSettled : EntryCounts → Type 0
AreSettled c = (o : ℕ) (x : ObjectCounts) → slice_get c.objects.items o ≡ Some x → IsSettled x.reads × IsSettled x.writes

-- as many are counted as before, of each object at each version
pub record SameCounts (old new : EntryCounts) : Type 0 where
  pub objects : vec_len new.objects ≡ vec_len old.objects
  pub reads : (o v : ℕ) → reads_of new o v ≡ reads_of old o v
  pub writes : (o v : ℕ) → writes_of new o v ≡ writes_of old o v

-- n objects, and nothing is counted of any
pub record CountsNone (n : ℕ) (c : EntryCounts) : Type 0 where
  pub objects : vec_len c.objects ≡ n
  pub reads : (o v : ℕ) → reads_of c o v ≡ 0
  pub writes : (o v : ℕ) → writes_of c o v ≡ 0

-- these labels are counted beside what was
pub record CountsMore (old new : EntryCounts) (ks : List Label) : Type 0 where
  pub objects : vec_len new.objects ≡ vec_len old.objects
  pub reads : (o v : ℕ) → reads_of new o v ≡ reads_of old o v + reads o v ks
  pub writes : (o v : ℕ) → writes_of new o v ≡ writes_of old o v + writes_among o v ks

-- each count may grow by `more`
pub record HasRoom (c : EntryCounts) (more : ℕ) : Type 0 where
  pub reads : (o v : ℕ) → reads_of c o v + more < 2 ^ 32
  pub writes : (o v : ℕ) → writes_of c o v + more < 2 ^ 32

-- the entries of the n threads' logs are counted
pub record CountsAll (n : ℕ) (tr : Trace) (c : EntryCounts) : Type 0 where
  pub reads : (o v : ℕ) → reads_of c o v ≡ reads_in n tr o v
  pub writes : (o v : ℕ) → writes_of c o v ≡ writes_in n tr o v

-- event i of the log has this first cause, and none before it has any
pub record FirstCause (r w : ℕ → ℕ → ℕ) (es : List Event) (i : ℕ) (c : Cause) : Type 0 where
  pub event : Event
  pub stands : slice_get es i ≡ Some event
  pub cause : cause_by r w (label_of event) ≡ Some c
  pub first : (j : ℕ) (e : Event) → j < i → slice_get es j ≡ Some e → cause_by r w (label_of e) ≡ None

-- no event of the log has a cause
abbrev pub NoCause : (r w : ℕ → ℕ → ℕ) → List Event → Type 0
NoCause r w es = (j : ℕ) (e : Event) → slice_get es j ≡ Some e → cause_by r w (label_of e) ≡ None
