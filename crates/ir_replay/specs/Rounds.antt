-- States on the way to a target.
use Rattle.std.specs.Prelude.{◌≡◌, ℕ, ◌<◌, List, [], ◌∷◌, ◌++◌}
use Rattle.atomic_table.specs.Seated.{TableId}
use Rattle.atomic_table.specs.declared.shared.Seat.{Seat}
use Rattle.ir_thread.specs.State as thread
use Rattle.ir_weave.specs.Woven.{View}
use Rattle.ir_replay.specs.declared.worker.Worker.{Worker}
use Rattle.ir_cut.specs.Positions.{cut_of}
use Rattle.ir_fit.specs.Fit.{FittedTrace}
use Rattle.ir_weave.specs.Standing.{Standing, flat_in, positions}
use Rattle.ir_weave.specs.Stepping.{steps_left}

-- fewer steps are left, if any were
abbrev pub Goes : FittedTrace → List ℕ → Standing → Standing → Type 0
Goes f target old new = (t : ℕ) → positions (flat_in f old) t < cut_of target t
    → steps_left target (flat_in f new) < steps_left target (flat_in f old)

-- the list from its end
abbrev pub backwards : {A : Type 0} → List A → List A
backwards [] = []
backwards (x ∷ xs) = backwards xs ++ x ∷ []

abbrev pub round_threads : List Worker → List thread.ThreadState
round_threads [] = []
round_threads (w ∷ ws) = w.thread ∷ round_threads ws

abbrev pub seats_of : List Worker → List (Seat (Unit {0}) View)
seats_of [] = []
seats_of (w ∷ ws) = w.seat ∷ seats_of ws

-- their views, the last first
abbrev pub views_of : List Worker → View
views_of [] = []
views_of (w ∷ ws) = views_of ws ++ w.seat.me.0

-- its seat is one of the table's, without slots
pub record IsOfTable (id : TableId) (w : Worker) : Type 0 where
  pub table : w.seat.table_id ≡ id
  pub slots : w.seat.me.1 ≡ []
