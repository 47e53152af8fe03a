-- What is before an event.
use Rattle.std.specs.Prelude.{◌≡◌, ◌<◌, ◌≤◌, ℕ, List, length}
use Rattle.std.specs.List.{slice_index_or}
use Rattle.ir_trace.specs.Recorded.{Recorded, recorded_thread}
use Rattle.ir_why.specs.Needed.{NeedsOther}

-- the first d u events of each thread u have all that is before event i of thread t: its thread's events before it, what it needs of other
-- threads, and with each event what that needs of others
pub record HasPast (r : Recorded) (t i : ℕ) (d : ℕ → ℕ) : Type 0 where
  pub own : i ≤ d t
  pub needs : (u j : ℕ) → NeedsOther r t i u j → j < d u
  pub closed : (u k v j : ℕ) → k < d u → NeedsOther r u k v j → j < d v

-- how many events of each thread are before event i of thread t: no number could be less
pub record IsPast (r : Recorded) (t i : ℕ) (counts : List ℕ) : Type 0 where
  pub size : length counts ≡ length r.threads
  pub has : HasPast r t i (λ u. slice_index_or counts u 0)
  pub least : (d : ℕ → ℕ) → HasPast r t i d → (u : ℕ) → slice_index_or counts u 0 ≤ d u
  pub within : (u : ℕ) → slice_index_or counts u 0 ≤ length (recorded_thread r u).events
