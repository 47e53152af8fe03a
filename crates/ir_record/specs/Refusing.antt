-- Runs by a given order of the threads, in which tries may be refused.
use Rattle.std.specs.Prelude.{◌≡◌, ℕ, Bool, true, false, List, [], ◌∷◌, ◌++◌, ◌⊎◌, map}
use Rattle.ir_runs.specs.Machine.{Try, Machine}
use Rattle.ir_runs.specs.Run.{State, Step, asked, Can, after, end, IsDone, EntersIfFree, rounds, HasNone}

-- a turn: the thread, and whether a try in it is refused
abbrev pub Turn : Type 0
Turn = ℕ × Bool

-- turns of these threads, in which no try is refused that may enter
abbrev pub plain_turns : List ℕ → List Turn
plain_turns order = map (λ t. (t, false)) order

-- a try is refused; or it enters if no thread is inside
abbrev pub Tries : {T : Type 0} → Machine T → State T → Bool → Step → Type 0
Tries m s true e = (o : ℕ) → asked m s e.0 ≡ Try o → e.1 ≡ 0
Tries m s false e = EntersIfFree m s e

-- each turn takes one step of its thread, or none where that thread has none; a try in it is refused, or enters where it can
abbrev pub InTurns : {T : Type 0} → Machine T → State T → List Turn → List Step → Type 0
InTurns m s [] run = run ≡ []
InTurns m s ((t, refused) ∷ turns) run = (HasNone m s t × InTurns m s turns run)
    ⊎ ((r : ℕ) × (rest : List Step) × (run ≡ (t, r) ∷ rest) × Can m s (t, r) × Tries m s refused (t, r)
    × InTurns m (after m s (t, r)) turns rest)

-- the run by these turns, and then rounds over the n threads until all are done
pub record IsByTurns {T : Type 0} (m : Machine T) (s : State T) (n : ℕ) (turns : List Turn) (run : List Step) : Type 0 where
  pub count : ℕ
  pub in_turns : InTurns m s (turns ++ plain_turns (rounds n count)) run
  pub done : IsDone m (end m s run)
