-- Runs by an order of the threads.
use Rattle.std.specs.Prelude.{◌≡◌, ℕ, List, [], ◌∷◌, ◌++◌, ◌⊎◌}
use Rattle.ir_runs.specs.Machine.{Machine}
use Rattle.ir_runs.specs.Run.{State, Step, Can, after, end, IsDone, HasNone, EntersIfFree, rounds}

-- each entry of the order takes one step of its thread, or none where that thread is done or must wait; a try enters where it can
abbrev pub InTurn : {T : Type 0} → Machine T → State T → List ℕ → List Step → Type 0
InTurn m s [] run = run ≡ []
InTurn m s (t ∷ order) run =
    (HasNone m s t × InTurn m s order run)
    ⊎ ((r : ℕ) × (rest : List Step) × (run ≡ (t, r) ∷ rest) × Can m s (t, r) × EntersIfFree m s (t, r)
    × InTurn m (after m s (t, r)) order rest)

-- the run by an order: its entries in turn, and then rounds over the n threads until all are done
pub record IsByOrder {T : Type 0} (m : Machine T) (s : State T) (n : ℕ) (order : List ℕ) (run : List Step) : Type 0 where
  pub count : ℕ
  pub turns : InTurn m s (order ++ rounds n count) run
  pub done : IsDone m (end m s run)
