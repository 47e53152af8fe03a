-- The holds of the threads on a walk over the run.
use Rattle.std.specs.Prelude.{◌≡◌, ◌⊎◌, ℕ, ◌+◌, ◌<◌, ◌≤◌, List, [], ◌∷◌, ◌++◌, length, slice_get, Some, None}
use Rattle.std.specs.List.{slice_index_or}
use Rattle.std.specs.List.Sorted.{IsPermutation, IsNonDecreasingBy}
use Rattle.ir_image.specs.Guest.{object_count}
use Rattle.ir_mach.specs.Marks.{Marked}
use Rattle.ir_runs.specs.Machine.{LeftAt}
use Rattle.ir_runs.specs.Run.{Emits}
use Rattle.ir_runs.specs.declared.access.Access.TheVariants.{Writing}
use Rattle.ir_trace.specs.Recorded.{recorded_thread}
use Rattle.ir_fit.specs.Fit.{FittedTrace}
use Rattle.ir_cut.specs.Positions.{EachRun, machine_of, start_of}
use Rattle.ir_weave.specs.Standing.{Standing, flat_in, positions}
use Rattle.ir_past.specs.declared.place.Place.{Place}
use Rattle.ir_events.specs.Events.{event_entry}
use Rattle.ir_opened.specs.Positions.{IsInside, IsLeaveOf}
use Rattle.ir_who.specs.Versions.{AreVersions}
use Rattle.ir_who.specs.declared.version.Version.{Version}
use Rattle.ir_event_walk.specs.Route.{IsRoute}
use Rattle.ir_who_word.specs.Words.{IsPutIn, IsWorded, unread}
use Rattle.ir_who_word.specs.declared.hold.Hold.{Hold}
use Rattle.ir_who_word.specs.declared.object_word.ObjectWord.{ObjectWord}
use Rattle.ir_who_word.specs.declared.track.Track.{Track}
use Rattle.ir_who_word.specs.declared.worded.Worded.{Worded}

-- the rows are the versions of the object, and the run is this one
pub record IsTrackGuide (f : FittedTrace) (rows : List Version) (w : ObjectWord) (ends : List ℕ) (code : Marked) : Type 0 where
  pub versions : AreVersions f.recorded w.object rows
  pub object : w.object < object_count f.guest
  pub route : IsRoute f ends code

-- the positions of the write entry of object o at this place, and of its leave
pub record IsHold (f : FittedTrace) (o : ℕ) (p : Place) (h : Hold) : Type 0 where
  pub inside : IsInside f p.thread p.event
  pub entry : h.entry ≡ event_entry f p.thread p.event
  pub leave : IsLeaveOf f p.thread p.event h.leave
  pub version : ℕ
  pub emits : EachRun f (λ run. Emits (machine_of f) (start_of f) run p.thread h.leave (LeftAt o Writing version))
  pub past : h.entry < h.leave
  pub within : h.leave < (recorded_thread f.recorded p.thread).steps

-- a hold of thread t, by which a version was made
pub record IsHoldOf (f : FittedTrace) (rows : List Version) (w : ObjectWord) (t : ℕ) (h : Hold) : Type 0 where
  pub row : Version
  pub there : slice_get rows h.row ≡ Some row
  pub place : Place
  pub made : row.made_by ≡ Some place
  pub thread : place.thread ≡ t
  pub hold : IsHold f w.object place h

-- version r is made by one of the holds that come
abbrev pub IsTrackPending : Track → ℕ → Type 0
IsTrackPending track r = (i : ℕ) × (track.next ≤ i) × (i < length track.holds.items) × ((d : Hold) → (slice_index_or track.holds.items i d).row ≡ r)

-- the holds of thread t, which is at position k, and the last step that put the word where one comes
pub record IsWordTrack (f : FittedTrace) (rows : List Version) (w : ObjectWord) (t k : ℕ) (track : Track) : Type 0 where
  pub sorted : IsNonDecreasingBy (λ (h : Hold). h.leave) track.holds.items
  pub holds : (i : ℕ) (d : Hold) → i < length track.holds.items → IsHoldOf f rows w t (slice_index_or track.holds.items i d)
  pub from : (i : ℕ) (d : Hold) → i < length track.holds.items → track.from ≤ (slice_index_or track.holds.items i d).entry + 1
  pub pending : (i : ℕ) (d : Hold) → track.next ≤ i → i < length track.holds.items → k ≤ (slice_index_or track.holds.items i d).leave
  pub put : track.next < length track.holds.items → IsPutIn f w t track.from k track.put

-- of each version that thread t makes by none of these holds the word is found
abbrev pub IsTrackFound : FittedTrace → List Version → ObjectWord → List Worded → ℕ → Track → Type 0
IsTrackFound f rows w words t track = (r : ℕ) (x : Version) (p : Place) → slice_get rows r ≡ Some x → x.made_by ≡ Some p → p.thread ≡ t
    → IsTrackPending track r ⊎ IsWorded f w x (slice_index_or words r unread)

-- no hold that comes has its leave at k or below
abbrev pub NoTrackDue : ℕ → Track → Type 0
NoTrackDue k track = (i : ℕ) (d : Hold) → track.next ≤ i → i < length track.holds.items → k < (slice_index_or track.holds.items i d).leave

-- the steps from position k on are looked at
abbrev pub IsLooked : ℕ → Track → Type 0
IsLooked k track = (track.next < length track.holds.items) × (track.from ≤ k)

-- position k is no further than the next one past `old` at which a hold is looked at
pub record IsBeforeStop (old k : ℕ) (track : Track) : Type 0 where
  pub pending : (i : ℕ) (d : Hold) → track.next ≤ i → i < length track.holds.items → k ≤ (slice_index_or track.holds.items i d).leave
  pub from : track.next < length track.holds.items → old < track.from → k ≤ track.from

-- what is found of a version is as it was, or what there is to find
pub record AddsWords (f : FittedTrace) (rows : List Version) (w : ObjectWord) (old new : List Worded) : Type 0 where
  pub size : length new ≡ length old
  pub each : (r : ℕ) (x : Version) → slice_get rows r ≡ Some x → (slice_index_or new r unread ≡ slice_index_or old r unread)
      ⊎ IsWorded f w x (slice_index_or new r unread)

-- what is found of a hold's version is what there is to find, and of the others as it was, or so
abbrev pub NotesWord : FittedTrace → List Version → ObjectWord → Hold → List Worded → List Worded → Type 0
NotesWord f rows w hold old new = AddsWords f rows w old new
    × ((x : Version) → slice_get rows hold.row ≡ Some x → IsWorded f w x (slice_index_or new hold.row unread))

-- the holds of each thread, and what is found of the other versions
pub record AreTracked (f : FittedTrace) (rows : List Version) (w : ObjectWord) (s : Standing) (tracks : List Track) (words : List Worded) : Type 0 where
  pub each : (t : ℕ) (d : Track) → t < length tracks
      → IsWordTrack f rows w t (positions (flat_in f s) t) (slice_index_or tracks t d) × IsTrackFound f rows w words t (slice_index_or tracks t d)
  pub first : (r : ℕ) (x : Version) → slice_get rows r ≡ Some x → x.made_by ≡ None → IsWorded f w x (slice_index_or words r unread)

-- a hold more
pub record IsAdded (old : Track) (h : Hold) (new : Track) : Type 0 where
  pub next : new.next ≡ old.next
  pub put : new.put ≡ old.put
  pub holds : new.holds.items ≡ old.holds.items ++ h ∷ []
  pub from : new.from ≤ old.from
  pub entry : new.from ≤ h.entry + 1

-- the holds of thread t before the first step, of those that made the first n versions
pub record IsBuiltTrack (f : FittedTrace) (rows : List Version) (w : ObjectWord) (n t : ℕ) (track : Track) : Type 0 where
  pub next : track.next ≡ 0
  pub put : track.put ≡ None
  pub holds : (i : ℕ) (d : Hold) → i < length track.holds.items → IsHoldOf f rows w t (slice_index_or track.holds.items i d)
  pub from : (i : ℕ) (d : Hold) → i < length track.holds.items → track.from ≤ (slice_index_or track.holds.items i d).entry + 1
  pub covered : (r : ℕ) (x : Version) (p : Place) → r < n → slice_get rows r ≡ Some x → x.made_by ≡ Some p → p.thread ≡ t → IsTrackPending track r

-- so of each thread
abbrev pub AreTracksBuilt : FittedTrace → List Version → ObjectWord → ℕ → List Track → Type 0
AreTracksBuilt f rows w n tracks = (t : ℕ) (d : Track) → t < length tracks → IsBuiltTrack f rows w n t (slice_index_or tracks t d)

-- the holds that were, in the order of their leaves
pub record IsTrackSorted (old new : Track) : Type 0 where
  pub next : new.next ≡ old.next
  pub put : new.put ≡ old.put
  pub from : new.from ≡ old.from
  pub same : IsPermutation old.holds.items new.holds.items
  pub sorted : IsNonDecreasingBy (λ (h : Hold). h.leave) new.holds.items

-- so of each thread
abbrev pub AreTracksSorted : List Track → List Track → Type 0
AreTracksSorted old new = (t : ℕ) (d : Track) → t < length old → IsTrackSorted (slice_index_or old t d) (slice_index_or new t d)
