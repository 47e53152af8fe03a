-- Why a thread waited, link by link.
use Rattle.std.specs.Prelude.{◌≡◌, ◌<◌, ◌≤◌, ◌-◌, ◌⊎◌, ℕ, List, [], ◌∷◌}
use Rattle.ir_trace.specs.Recorded.{Recorded}
use Rattle.ir_coherence.specs.Before.{IsBefore}
use Rattle.ir_past.specs.declared.place.Place.{Place}
use Rattle.ir_picture.specs.Shown.{StartsAt}
use Rattle.ir_picture.specs.declared.placed_box.PlacedBox.{PlacedBox}
use Rattle.ir_why.specs.Needed.{NeedsOther}
use Rattle.ir_why.specs.declared.link.Link.{Link}

-- p is placed before q: further left, or as far and of a greater thread or event, since of such the first one counts
abbrev pub IsPlacedBefore : List PlacedBox → Place → Place → Type 0
IsPlacedBefore boxes p q = (x y : ℕ) × StartsAt boxes p.thread p.event x × StartsAt boxes q.thread q.event y
    × ((x < y) ⊎ ((x ≡ y) × IsBefore q.thread q.event p.thread p.event))

-- of what event i of thread t needs of other threads, p is placed latest
pub record IsLatestNeed (r : Recorded) (boxes : List PlacedBox) (t i : ℕ) (p : Place) : Type 0 where
  pub needed : NeedsOther r t i p.thread p.event
  pub latest : (q : Place) → NeedsOther r t i q.thread q.event → (q ≡ p) ⊎ IsPlacedBefore boxes q p

-- event k of thread t is the last up to event i that needs an event of another thread
pub record IsWaiting (r : Recorded) (t i k : ℕ) : Type 0 where
  pub by : k ≤ i
  pub need : (u j : ℕ) × NeedsOther r t k u j
  pub last : (m u j : ℕ) → k < m → m ≤ i → NeedsOther r t m u j → ⊥

-- no event of thread t up to event i needs an event of another thread
abbrev pub WaitsForNone : Recorded → ℕ → ℕ → Type 0
WaitsForNone r t i = (m u j : ℕ) → m ≤ i → NeedsOther r t m u j → ⊥

-- a link from event i of thread t
pub record IsLink (r : Recorded) (boxes : List PlacedBox) (t i : ℕ) (l : Link) : Type 0 where
  pub thread : l.waiting.thread ≡ t
  pub waiting : IsWaiting r t i l.waiting.event
  pub needed : IsLatestNeed r boxes t l.waiting.event l.needed

-- the links from event i of thread t, each from what the one before it needs, until an event waits for none or there are n
abbrev pub AreLinks : Recorded → List PlacedBox → ℕ → ℕ → ℕ → List Link → Type 0
AreLinks r boxes n t i [] = (n ≡ 0) ⊎ WaitsForNone r t i
AreLinks r boxes n t i (l ∷ ls) = (0 < n) × IsLink r boxes t i l × AreLinks r boxes (n - 1) l.needed.thread l.needed.event ls
