-- What the tables of a trace say of an event's needs, and how far its past and its chain are gathered.
use Rattle.std.specs.Prelude.{◌≡◌, ◌<◌, ◌≤◌, ◌⊎◌, ◌-◌, ◌==◌, ℕ, zero, suc, Bool, List, [], ◌∷◌, ◌++◌, not, filter, length, Option, Some, None}
use Rattle.std.specs.List.{slice_get, slice_index_or}
use Rattle.ir_log.specs.declared.event.Event.{Event}
use Rattle.ir_log.specs.declared.event.Event.TheVariants.{Answer, Read, Write, Try}
use Rattle.ir_runs.specs.Verdicts.{sum_below}
use Rattle.ir_thread.specs.State.{most_events}
use Rattle.ir_trace.specs.Recorded.{Recorded, recorded_thread}
use Rattle.ir_past.specs.Past.{AreReaders}
use Rattle.ir_past.specs.Progress.{Makes}
use Rattle.ir_past.specs.Tables.{maker_in, read_in}
use Rattle.ir_past.specs.declared.place.Place.{Place}
use Rattle.ir_picture.specs.Boxes.{HasBox}
use Rattle.ir_picture.specs.Placing.{events_of_all}
use Rattle.ir_picture.specs.declared.placed_box.PlacedBox.{PlacedBox}
use Rattle.ir_why.specs.Needed.{NeedsOther}
use Rattle.ir_why.specs.Chain.{IsPlacedBefore}
use Rattle.ir_why.specs.declared.tables.Tables.{Tables}

-- the write entries and the read entries of a trace are in the tables
pub record HasTables (r : Recorded) (tables : Tables) : Type 0 where
  pub makers : Makes r (length r.threads) 0 tables.makers
  pub reads : (o v : ℕ) → AreReaders r o v (read_in tables.reads o v)

-- whether an event is of another thread than t
abbrev pub is_other : ℕ → Place → Bool
is_other t p = not (p.thread == t)

-- those that are of other threads than t
abbrev pub others : ℕ → List Place → List Place
others t places = filter (is_other t) places

-- an event as a list, if there is one
abbrev pub listed : Option Place → List Place
listed None = []
listed (Some p) = p ∷ []

-- what made a version, by the tables
abbrev pub maker_at : Tables → ℕ → ℕ → Option Place
maker_at tables o zero = None
maker_at tables o (suc v) = maker_in tables.makers o v

-- what an event of thread t needs of other threads, by the tables
abbrev pub needs_in : Tables → ℕ → Event → List Place
needs_in tables t (Answer kind value) = []
needs_in tables t (Read object version) = others t (listed (maker_at tables object version))
needs_in tables t (Write object version readers) = others t (listed (maker_at tables object version)) ++ others t (read_in tables.reads object version)
needs_in tables t (Try object) = []

-- these events are in the trace, and can be counted
abbrev pub AreThere : Recorded → List Place → Type 0
AreThere r places = (k : ℕ) (p : Place) → slice_get places k ≡ Some p → (p.thread < length r.threads)
    × (p.event < length (recorded_thread r p.thread).events) × (p.event < most_events)

-- counts have risen so far that they have the first n of these events, and no further
pub record AreRaised (old new : List ℕ) (places : List Place) (n : ℕ) : Type 0 where
  pub size : length new ≡ length old
  pub above : (u : ℕ) → slice_index_or old u 0 ≤ slice_index_or new u 0
  pub has : (k : ℕ) (p : Place) → k < n → slice_get places k ≡ Some p → p.event < slice_index_or new p.thread 0
  pub least : (d : ℕ → ℕ) → ((u : ℕ) → slice_index_or old u 0 ≤ d u)
      → ((k : ℕ) (p : Place) → k < n → slice_get places k ≡ Some p → p.event < d p.thread) → (u : ℕ) → slice_index_or new u 0 ≤ d u

-- these counts have event i of thread t's own past and what it needs, and are within each past; of their first `scanned` events they have what these need
pub record IsGathered (r : Recorded) (t i : ℕ) (counts scanned : List ℕ) : Type 0 where
  pub size : length counts ≡ length r.threads
  pub sizes : length scanned ≡ length r.threads
  pub own : i ≤ slice_index_or counts t 0
  pub needs : (u j : ℕ) → NeedsOther r t i u j → j < slice_index_or counts u 0
  pub closed : (u k v j : ℕ) → k < slice_index_or scanned u 0 → NeedsOther r u k v j → j < slice_index_or counts v 0
  pub behind : (u : ℕ) → slice_index_or scanned u 0 ≤ slice_index_or counts u 0
  pub within : (u : ℕ) → slice_index_or counts u 0 ≤ length (recorded_thread r u).events
  pub least : (d : ℕ → ℕ) → i ≤ d t → ((u j : ℕ) → NeedsOther r t i u j → j < d u)
      → ((u k v j : ℕ) → k < d u → NeedsOther r u k v j → j < d v) → (u : ℕ) → slice_index_or counts u 0 ≤ d u

-- none of these numbers has fallen
abbrev pub HaveRisen : List ℕ → List ℕ → Type 0
HaveRisen old new = (u : ℕ) → slice_index_or old u 0 ≤ slice_index_or new u 0

-- how many events aren't scanned
abbrev pub unscanned : Recorded → List ℕ → ℕ
unscanned r scanned = sum_below (length r.threads) (λ u. length (recorded_thread r u).events - slice_index_or scanned u 0)

-- each of these events is in a box
abbrev pub HaveBoxes : List PlacedBox → List Place → Type 0
HaveBoxes boxes places = (k : ℕ) (p : Place) → slice_get places k ≡ Some p → HasBox (events_of_all boxes) p.thread p.event

-- p is the one of these events that is placed latest
pub record IsLatestIn (boxes : List PlacedBox) (places : List Place) (p : Place) : Type 0 where
  pub number : ℕ
  pub there : slice_get places number ≡ Some p
  pub latest : (k : ℕ) (q : Place) → slice_get places k ≡ Some q → (q ≡ p) ⊎ IsPlacedBefore boxes q p
