-- Runs that can't be brought to an end any more.
use Rattle.std.specs.Prelude.{◌≡◌, ◌↔◌, ℕ, ◌≤◌, Bool, List, Some, length, slice_get}
use Rattle.ir_search.specs.declared.origin.Origin.{Origin}
use Rattle.ir_search.specs.Following.{BothWays, IsNodeOpen}
use Rattle.ir_search.specs.Ways.{HasMarked}
use Rattle.ir_runs.specs.Run.{Step, IsRun, IsDone, end, log}
use Rattle.ir_search_laws.specs.Counting.{RunCounts, entering}
use Rattle.ir_search_laws.specs.Outcomes.{switches}
use Rattle.ir_search_laws.specs.Sources.{Gives}
use Rattle.ir_search_laws.specs.Views.{IsUnspoilt}
use Rattle.ir_thread.specs.State.{thread_machine}
use Rattle.ir_world.specs.Sources.{given}
use Rattle.ir_flat.specs.Flat.{machine, tables, start_flat}
use Rattle.ir_likeness.specs.Seen.{IsSpoilt, seen_start}
use Rattle.ir_state_store.specs.Nodes.{SourcedFlat}
use Rattle.ir_graph.specs.Setup.{Setup, first_source}
use Rattle.ir_graph.specs.Nodes.{seen_by, answered_by, seen_of}

-- A run of a guest that counts, complete or not: each thread is answered by its own source, in turn, and no end is a spent budget's or a full
-- log's.
pub record IsCounting (x : Setup) (budget : ℕ) (steps : List Step) : Type 0 where
  pub runs : IsRun (thread_machine x.guest.code) (tables (start_flat x.guest budget x.profile)) steps
  pub answered : (t : ℕ) → Gives given (first_source x t) (log (thread_machine x.guest.code) (tables (start_flat x.guest budget x.profile)) steps t)
  pub unspoilt : IsUnspoilt (IsSpoilt x.guest.code) (end (thread_machine x.guest.code) (tables (start_flat x.guest budget x.profile)) steps)

-- some run that counts leads from this state to the end of all threads, if no budget and no log comes to its end
abbrev pub CanEndFrom : SourcedFlat → Type 0
CanEndFrom s = (more : List Step) × RunCounts (seen_by s.flat.code) (answered_by s.flat.code) (seen_of s) more
    × IsDone (seen_by s.flat.code) (end (seen_by s.flat.code) (seen_of s) more)

-- so it does from where this run of a guest stands
abbrev pub CanEnd : Setup → List Step → Type 0
CanEnd x steps = (more : List Step)
    × RunCounts (seen_by x.guest.code) (answered_by x.guest.code)
    (end (seen_by x.guest.code) (seen_start x.guest x.profile (first_source x)) steps) more
    × IsDone (seen_by x.guest.code)
    (end (seen_by x.guest.code) (end (seen_by x.guest.code) (seen_start x.guest x.profile (first_source x)) steps) more)

-- a run of a guest hangs: it counts, and can't be brought to an end any more
abbrev pub IsHangOf : Setup → ℕ → List Step → Type 0
IsHangOf x budget steps = IsCounting x budget steps × (CanEnd x steps → ⊥)

-- exactly the states that can be brought to an end are marked
pub record AreMarked (states : List SourcedFlat) (marks : List Bool) : Type 0 where
  pub all : length marks ≡ length states
  pub marked : (v : ℕ) (s : SourcedFlat) → slice_get states v ≡ Some s → IsNodeOpen marks v → CanEndFrom s
  pub other : (v : ℕ) (s : SourcedFlat) → slice_get states v ≡ Some s → CanEndFrom s → IsNodeOpen marks v

-- Each run of the guest that counts stands at a listed state, of no higher level than it has switches: it can be brought to an end exactly where
-- that state can.
abbrev pub AllStand : Setup → List SourcedFlat → List Origin → Type 0
AllStand x states origins = (budget : ℕ) (steps : List Step) → IsCounting x budget steps
    → (v : ℕ) × (s : SourcedFlat) × (n : Origin) × (slice_get states v ≡ Some s) × (slice_get origins v ≡ Some n)
    × (n.level ≤ switches (entering (thread_machine x.guest.code) (tables (start_flat x.guest budget x.profile)) steps))
    × (CanEnd x steps ↔ CanEndFrom s)

-- of the nodes those are marked from which threads lead, by either way, to one where all are done
pub record AreWays (noted : ℕ → BothWays) (threads : ℕ) (states : List SourcedFlat) (marks : List Bool) : Type 0 where
  pub done : List Bool
  pub nodes : length done ≡ length states
  pub done_marked : (v : ℕ) (s : SourcedFlat) → slice_get states v ≡ Some s → IsNodeOpen done v → IsDone (machine s.flat) (tables s.flat)
  pub marked_done : (v : ℕ) (s : SourcedFlat) → slice_get states v ≡ Some s → IsDone (machine s.flat) (tables s.flat) → IsNodeOpen done v
  pub all : length marks ≡ length states
  pub exact : (v : ℕ) → IsNodeOpen marks v ↔ HasMarked noted threads done v
