-- What is kept of a thread on a walk over the run.
use Rattle.std.specs.Prelude.{⊤, ◌≡◌, ◌≢◌, ◌⊎◌, ℕ, ◌+◌, ◌-◌, ◌<◌, ◌≤◌, List, [], ◌++◌, length, slice_get, Bool, true, false, not, Option, Some, None}
use Rattle.std.specs.List.{slice_index_or}
use Rattle.std.specs.List.Sorted.{IsPermutation, IsNonDecreasingBy}
use Rattle.ir_mach.specs.Marks.{Marked}
use Rattle.ir_thread.specs.State.{ThreadState}
use Rattle.ir_trace.specs.Recorded.{recorded_thread}
use Rattle.ir_fit.specs.Fit.{FittedTrace}
use Rattle.ir_cut.specs.Positions.{EachRun, thread_at}
use Rattle.ir_weave.specs.Standing.{Standing, flat_in, positions}
use Rattle.ir_past.specs.Past.{IsRow, AreStaleWrites}
use Rattle.ir_past.specs.declared.stale_write.StaleWrite.{StaleWrite}
use Rattle.ir_event_walk.specs.Route.{IsRoute}
use Rattle.ir_event_walk.specs.Words.{AreWordsAt}
use Rattle.ir_event_walk.specs.Calls.{calls_in, AllSuit}
use Rattle.ir_opened.specs.Positions.{LeavesAfter, IsLeaveOf}
use Rattle.ir_stale_run.specs.Rests.{behind_read, behind_write, IsRestOf}
use Rattle.ir_event_walk.specs.declared.exchange.Exchange.{Exchange}
use Rattle.ir_stale_run.specs.declared.found.Found.{Found}
use Rattle.ir_stale_run.specs.declared.found.Found.TheVariants.{Unknown, Known}
use Rattle.ir_stale_run.specs.declared.span.Span.{Span}
use Rattle.ir_stale_run.specs.declared.kept.Kept.{Kept}
use Rattle.ir_stale_run.specs.declared.kept.Open.{Open}
use Rattle.ir_stale_run.specs.declared.watch.Watch.{Watch}

-- the rows are the stale writes of the trace, and the run is this one
pub record IsGuide (f : FittedTrace) (rows : List StaleWrite) (ends : List ℕ) (code : Marked) : Type 0 where
  pub stale : AreStaleWrites f.recorded rows
  pub route : IsRoute f ends code

-- the positions of a row: behind its entries, and behind the leave after the write entry
pub record IsSpan (f : FittedTrace) (x : StaleWrite) (s : Span) : Type 0 where
  pub object : s.object ≡ x.object
  pub read : s.read ≡ behind_read f x
  pub write : s.write ≡ behind_write f x
  pub rises : s.read < s.write
  pub last : ℕ
  pub leave : IsLeaveOf f x.thread x.event last
  pub end : s.end ≡ last + 1
  pub within : s.end ≤ (recorded_thread f.recorded x.thread).steps

-- the positions of a row of thread t
pub record IsSpanOf (f : FittedTrace) (rows : List StaleWrite) (t : ℕ) (s : Span) : Type 0 where
  pub row : StaleWrite
  pub there : slice_get rows s.row ≡ Some row
  pub thread : row.thread ≡ t
  pub stale : IsRow f.recorded row
  pub span : IsSpan f row s

-- the copy of a thread, if there is one, is this one
abbrev pub IsCopyOf : Option ThreadState → ThreadState → Type 0
IsCopyOf None x = ⊤
IsCopyOf (Some copy) x = copy ≡ x

-- what is kept of a row whose thread is at position k, past its read entry
pub record IsKeptAt (copies : Bool) (f : FittedTrace) (x : StaleWrite) (k : ℕ) (kept : Kept) : Type 0 where
  pub object : kept.object ≡ x.object
  pub thread : EachRun f (λ run. IsCopyOf kept.thread (thread_at f run x.thread (behind_read f x)))
  pub copied : copies ≡ true → kept.thread ≡ None → ⊥
  pub was : AreWordsAt f x.thread (behind_read f x) x.object kept.was.items
  pub now : behind_write f x ≤ k → AreWordsAt f x.thread (behind_write f x) x.object kept.now.items
  pub calls : EachRun f (λ run. kept.calls.items ≡ calls_in f.guest.code (thread_at f run x.thread) (behind_read f x) (k - behind_read f x))
  pub suit : AllSuit kept.calls.items

-- a row of thread t, which is at position k, between its read entry and the leave after its write entry
pub record IsOpenAt (copies : Bool) (f : FittedTrace) (rows : List StaleWrite) (t k : ℕ) (o : Open) : Type 0 where
  pub of : IsSpanOf f rows t o.span
  pub kept : IsKeptAt copies f of.row k o.kept
  pub past : o.span.read ≤ k
  pub before : k ≤ o.span.end

-- these calls are added to an open row, and all else is as it was
pub record IsCallMore (old new : Open) (more : List Exchange) : Type 0 where
  pub span : new.span ≡ old.span
  pub object : new.kept.object ≡ old.kept.object
  pub thread : new.kept.thread ≡ old.kept.thread
  pub was : new.kept.was.items ≡ old.kept.was.items
  pub now : new.kept.now.items ≡ old.kept.now.items
  pub calls : new.kept.calls.items ≡ old.kept.calls.items ++ more

-- row r is one of those that come
abbrev pub IsPending : Watch → ℕ → Type 0
IsPending w r = (i : ℕ) × (w.next ≤ i) × (i < length w.spans.items) × ((d : Span) → (slice_index_or w.spans.items i d).row ≡ r)

-- row r is one of those that are open
abbrev pub IsOpenWatch : Watch → ℕ → Type 0
IsOpenWatch w r = (i : ℕ) × (i < length w.opened.items) × ((d : Open) → (slice_index_or w.opened.items i d).span.row ≡ r)

-- row r is one of these
abbrev pub IsWatchedWrite : Watch → ℕ → Type 0
IsWatchedWrite w r = IsPending w r ⊎ IsOpenWatch w r

-- what is kept of thread t at position k: the rows that come, and those that are open
pub record IsWatch (copies : Bool) (f : FittedTrace) (rows : List StaleWrite) (t k : ℕ) (w : Watch) : Type 0 where
  pub sorted : IsNonDecreasingBy (λ (s : Span). s.read) w.spans.items
  pub spans : (i : ℕ) (d : Span) → i < length w.spans.items → IsSpanOf f rows t (slice_index_or w.spans.items i d)
  pub next : w.next ≤ length w.spans.items
  pub pending : (i : ℕ) (d : Span) → w.next ≤ i → i < length w.spans.items → k ≤ (slice_index_or w.spans.items i d).read
  pub opened : (i : ℕ) (d : Open) → i < length w.opened.items → IsOpenAt copies f rows t k (slice_index_or w.opened.items i d)

-- what is found of a row: how it rests on its read, unless no thread is copied; then it may be unknown, if its write entry is left
abbrev pub IsFoundAs : Bool → FittedTrace → StaleWrite → Found → Type 0
IsFoundAs copies f x Unknown = (copies ≡ false) × ((k : ℕ) × LeavesAfter f x.thread x.event k)
IsFoundAs copies f x (Known rest) = IsRestOf f x rest

-- so of each row
abbrev pub AreFound : Bool → FittedTrace → List StaleWrite → List Found → Type 0
AreFound copies f rows rests = (r : ℕ) (x : StaleWrite) → slice_get rows r ≡ Some x → IsFoundAs copies f x (slice_index_or rests r Unknown)

-- whether a row is looked at on a walk: each, where no thread is copied, and else those that are unknown
abbrev pub is_looked_at : Bool → Found → Bool
is_looked_at copies Unknown = true
is_looked_at copies (Known rest) = not copies

-- what was found of a row before a walk: nothing before the one with no copies, and what that one found before the one with copies
abbrev pub IsWatchBegun : Bool → FittedTrace → StaleWrite → Found → Type 0
IsWatchBegun false f x found = found ≡ Known None
IsWatchBegun true f x found = IsFoundAs false f x found

-- so of each row
abbrev pub AreBegun : Bool → FittedTrace → List StaleWrite → List Found → Type 0
AreBegun copies f rows rests = (r : ℕ) (x : StaleWrite) → slice_get rows r ≡ Some x → IsWatchBegun copies f x (slice_index_or rests r Unknown)

-- of each row of thread t that isn't one of these it is found how it rests
abbrev pub IsWatchFound : Bool → FittedTrace → List StaleWrite → List Found → ℕ → Watch → Type 0
IsWatchFound copies f rows rests t w = (r : ℕ) (x : StaleWrite) → slice_get rows r ≡ Some x → x.thread ≡ t
    → IsWatchedWrite w r ⊎ IsFoundAs copies f x (slice_index_or rests r Unknown)

-- no row that comes has its read entry at k or below
abbrev pub NoneDue : ℕ → Watch → Type 0
NoneDue k w = (i : ℕ) (d : Span) → w.next ≤ i → i < length w.spans.items → k < (slice_index_or w.spans.items i d).read

-- no row that is open ends at k or below
abbrev pub NoneEnds : ℕ → List Open → Type 0
NoneEnds k opened = (i : ℕ) (d : Open) → i < length opened → k < (slice_index_or opened i d).span.end

-- position k is no further than the next one at which a row that comes or is open is looked at
pub record IsBeforeStops (old k : ℕ) (w : Watch) : Type 0 where
  pub pending : (i : ℕ) (d : Span) → w.next ≤ i → i < length w.spans.items → k ≤ (slice_index_or w.spans.items i d).read
  pub ends : (i : ℕ) (d : Open) → i < length w.opened.items → k ≤ (slice_index_or w.opened.items i d).span.end
  pub writes : (i : ℕ) (d : Open) → i < length w.opened.items → old < (slice_index_or w.opened.items i d).span.write
      → k ≤ (slice_index_or w.opened.items i d).span.write

-- what is found of a row is as it was, or what there is to find
pub record AddsRests (copies : Bool) (f : FittedTrace) (rows : List StaleWrite) (old new : List Found) : Type 0 where
  pub size : length new ≡ length old
  pub each : (r : ℕ) (x : StaleWrite) → slice_get rows r ≡ Some x → (slice_index_or new r Unknown ≡ slice_index_or old r Unknown)
      ⊎ IsFoundAs copies f x (slice_index_or new r Unknown)

-- a list without its element at i, whose place the last one takes
pub record IsWithout {X : Type 0} (xs ys : List X) (i : ℕ) : Type 0 where
  pub size : length ys + 1 ≡ length xs
  pub moved : (d : X) → i + 1 < length xs → slice_index_or ys i d ≡ slice_index_or xs (length xs - 1) d
  pub others : (j : ℕ) (d : X) → j ≢ i → j + 1 < length xs → slice_index_or ys j d ≡ slice_index_or xs j d

-- what is kept of each thread of the guest, and what is found of the other rows
abbrev pub AreWatched : Bool → FittedTrace → List StaleWrite → Standing → List Watch → List Found → Type 0
AreWatched copies f rows s watches rests = (t : ℕ) (d : Watch) → t < length watches
    → IsWatch copies f rows t (positions (flat_in f s) t) (slice_index_or watches t d) × IsWatchFound copies f rows rests t (slice_index_or watches t d)

-- what is kept of thread t before the first step, its rows among the first n of all: none is open, and one that isn't among them is found
pub record IsBuilt (copies : Bool) (f : FittedTrace) (rows : List StaleWrite) (found : List Found) (n t : ℕ) (w : Watch) : Type 0 where
  pub next : w.next ≡ 0
  pub opened : w.opened.items ≡ []
  pub spans : (i : ℕ) (d : Span) → i < length w.spans.items → IsSpanOf f rows t (slice_index_or w.spans.items i d)
  pub covered : (r : ℕ) (x : StaleWrite) → r < n → slice_get rows r ≡ Some x → x.thread ≡ t
      → IsPending w r ⊎ IsFoundAs copies f x (slice_index_or found r Unknown)

-- so of each thread
abbrev pub AreBuilt : Bool → FittedTrace → List StaleWrite → List Found → ℕ → List Watch → Type 0
AreBuilt copies f rows found n watches = (t : ℕ) (d : Watch) → t < length watches → IsBuilt copies f rows found n t (slice_index_or watches t d)

-- the rows that were, in the order of their read entries
pub record IsSorted (old new : Watch) : Type 0 where
  pub next : new.next ≡ old.next
  pub opened : new.opened.items ≡ old.opened.items
  pub same : IsPermutation old.spans.items new.spans.items
  pub sorted : IsNonDecreasingBy (λ (s : Span). s.read) new.spans.items

-- so of each thread
abbrev pub AreWatchesSorted : List Watch → List Watch → Type 0
AreWatchesSorted old new = (t : ℕ) (d : Watch) → t < length old → IsSorted (slice_index_or old t d) (slice_index_or new t d)
