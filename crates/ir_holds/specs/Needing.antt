-- Where the boxes end that have what an event needs.
use Rattle.std.specs.Prelude.{◌≡◌, ℕ, suc, ◌<◌, ◌⊎◌, ◌==◌, ◌&&◌, if◌then◌else◌, List, Some}
use Rattle.std.specs.List.{slice_get}
use Rattle.ir_log.specs.declared.event.Event.{Event}
use Rattle.ir_log.specs.declared.event.Event.TheVariants.{Answer, Read, Write, Try}
use Rattle.ir_trace.specs.Recorded.{Recorded}
use Rattle.ir_past.specs.Past.{event_at}
use Rattle.ir_picture.specs.Boxes.{IsInBox}
use Rattle.ir_picture.specs.Places.{IsLeastAbove}
use Rattle.ir_picture.specs.Placing.{version_in, later_of}
use Rattle.ir_picture.specs.declared.placed_box.Point.{Point}
use Rattle.ir_picture.specs.declared.placed_box.PlacedBox.{PlacedBox}
use Rattle.ir_picture.specs.declared.table.Table.{Table}
use Rattle.ir_holds.specs.declared.needing.Ends.{Ends}

-- it reads object o at version v
abbrev pub Reads : ℕ → ℕ → Event → Type 0
Reads o v e = e ≡ Read o v

-- it enters object o for writing at version v
abbrev pub Writes : ℕ → ℕ → Event → Type 0
Writes o v e = (l : ℕ) × (e ≡ Write o v l)

-- it made version v of object o
abbrev pub MakesForNeed : ℕ → ℕ → Event → Type 0
MakesForNeed o v e = (w : ℕ) × (v ≡ suc w) × Writes o w e

-- an event needs another one like this
abbrev pub NeedsLike : Event → Event → Type 0
NeedsLike (Answer kind value) e = ⊥
NeedsLike (Read o v) e = MakesForNeed o v e
NeedsLike (Write o v readers) e = MakesForNeed o v e ⊎ Reads o v e
NeedsLike (Try o) e = ⊥

-- one of these events needs another one like this
abbrev pub OneNeedsLike : List Event → Event → Type 0
OneNeedsLike es e = (k : ℕ) × (x : Event) × (slice_get es k ≡ Some x) × NeedsLike x e

-- the number at which a box ends that has an event such as these
pub record EndsWith (r : Recorded) (boxes : List PlacedBox) (number : Point → ℕ) (These : Event → Type 0) (z : ℕ) : Type 0 where
  pub at : ℕ
  pub box : PlacedBox
  pub event : ℕ
  pub what : Event
  pub there : slice_get boxes at ≡ Some box
  pub has : IsInBox box.events box.events.thread event
  pub is : event_at r box.events.thread event ≡ Some what
  pub these : These what
  pub ends : number box.end ≡ z

-- the first place right of the boxes that have an event such as these
pub record IsAfterThese (r : Recorded) (boxes : List PlacedBox) (These : Event → Type 0) (p : Point) : Type 0 where
  pub x : IsLeastAbove 0 (EndsWith r boxes (λ q. q.x) These) p.x
  pub u : IsLeastAbove 1 (EndsWith r boxes (λ q. q.u) These) p.u

-- the place that is noted of version v of object o
abbrev pub place_in : Table → ℕ → ℕ → Point
place_in t o v = (version_in t o v).left

-- the ends of boxes are noted, of each object and version
pub record HoldsEnds (r : Recorded) (boxes : List PlacedBox) (ends : Ends) : Type 0 where
  pub made : (o v : ℕ) → IsAfterThese r boxes (Writes o v) (place_in ends.made o v)
  pub left : (o v : ℕ) → IsAfterThese r boxes (Reads o v) (place_in ends.left o v)

-- the places that are noted once a box ends before p that has an entry of object q at version w
abbrev pub with_end : ℕ → ℕ → Point → (ℕ → ℕ → Point) → ℕ → ℕ → Point
with_end q w p f o v = if (o == q) && (v == w) then later_of (f q w) p else f o v

-- those of read entries, once such a box has an event
abbrev pub with_read : Event → Point → (ℕ → ℕ → Point) → ℕ → ℕ → Point
with_read (Answer kind value) p f o v = f o v
with_read (Read q w) p f o v = with_end q w p f o v
with_read (Write q w l) p f o v = f o v
with_read (Try q) p f o v = f o v

-- those of write entries
abbrev pub with_write : Event → Point → (ℕ → ℕ → Point) → ℕ → ℕ → Point
with_write (Answer kind value) p f o v = f o v
with_write (Read q w) p f o v = f o v
with_write (Write q w l) p f o v = with_end q w p f o v
with_write (Try q) p f o v = f o v

-- the same of the boxes before box n, and of the events of box n that come before event m
pub record EndsTo (r : Recorded) (boxes : List PlacedBox) (n m : ℕ) (number : Point → ℕ) (These : Event → Type 0) (z : ℕ) : Type 0 where
  pub one : EndsWith r boxes number These z
  pub early : (one.at < n) ⊎ ((one.at ≡ n) × (one.event < m))

pub record IsAfterTo (r : Recorded) (boxes : List PlacedBox) (n m : ℕ) (These : Event → Type 0) (p : Point) : Type 0 where
  pub x : IsLeastAbove 0 (EndsTo r boxes n m (λ q. q.x) These) p.x
  pub u : IsLeastAbove 1 (EndsTo r boxes n m (λ q. q.u) These) p.u

pub record HoldsTo (r : Recorded) (boxes : List PlacedBox) (n m : ℕ) (ends : Ends) : Type 0 where
  pub made : (o v : ℕ) → IsAfterTo r boxes n m (Writes o v) (place_in ends.made o v)
  pub left : (o v : ℕ) → IsAfterTo r boxes n m (Reads o v) (place_in ends.left o v)
