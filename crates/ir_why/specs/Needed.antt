-- What an event needs of other threads.
use Rattle.std.specs.Prelude.{◌≡◌, ◌≢◌, ◌<◌, ℕ, List, Some}
use Rattle.std.specs.List.{slice_get}
use Rattle.ir_trace.specs.Recorded.{Recorded}
use Rattle.ir_coherence.specs.Before.{IsBefore}
use Rattle.ir_past.specs.Past.{HasPlace}
use Rattle.ir_past.specs.declared.place.Place.{Place}
use Rattle.ir_picture.specs.Needs.{IsMakerOf, IsReaderFor, Needs}

-- event i of thread t needs event j of another thread u
abbrev pub NeedsOther : Recorded → ℕ → ℕ → ℕ → ℕ → Type 0
NeedsOther r t i u j = Needs r t i u j × (u ≢ t)

-- what event i of thread t needs of other threads: what made the version that it enters, and then the read entries that it writes over, by
-- rising thread and event
pub record AreNeeds (r : Recorded) (t i : ℕ) (needs : List Place) : Type 0 where
  pub sound : (k : ℕ) (p : Place) → slice_get needs k ≡ Some p → NeedsOther r t i p.thread p.event
  pub complete : (u j : ℕ) → NeedsOther r t i u j → HasPlace needs u j
  pub first : (k : ℕ) (p : Place) → slice_get needs k ≡ Some p → IsMakerOf r t i p.thread p.event → k ≡ 0
  pub rising : (a b : ℕ) (p q : Place) → a < b → slice_get needs a ≡ Some p → slice_get needs b ≡ Some q
      → IsReaderFor r t i p.thread p.event → IsBefore p.thread p.event q.thread q.event
