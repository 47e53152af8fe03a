-- A log apart from where it lies in memory.
use Rattle.std.specs.Prelude.{ℕ, ◌≤◌, List, length}
use Rattle.ir_thread.specs.State.{most_events}
use Rattle.ir_log.specs.declared.event.Event.{Event}

-- what a log holds, and how much it may hold
pub record Logged : Type 0 where
  -- the events, the first one first
  pub events : List Event
  -- how many events there is room for, these among them
  pub room : ℕ

-- the limits of a log
pub record IsLogged (l : Logged) : Type 0 where
  pub fits : length l.events ≤ l.room
  pub limit : l.room ≤ most_events
