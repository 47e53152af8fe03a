-- Runs that are the same.
use Rattle.std.specs.Prelude.{◌≡◌, ◌↔◌, ◌<◌, ℕ, List, [], ◌∷◌, length, true}
use Rattle.ir_image.specs.Guest.{Guest}
use Rattle.ir_runs.specs.Machine.{Act, Machine}
use Rattle.ir_runs.specs.Run.{State, Step, act, after, end, trail, log}
use Rattle.ir_runs.specs.Orders.{IsByOrder}
use Rattle.ir_runs.specs.Bounds.{trace}
use Rattle.ir_thread.specs.declared.profile.Profile.{Profile}
use Rattle.ir_flat.specs.Flat.{start_flat, tables, machine}
use Rattle.ir_thread.specs.State as thread
use Rattle.ir_record.specs.Refusing.{Turn, plain_turns, IsByTurns}
use Rattle.ir_record.specs.Worlds.{answers_in}
use Rattle.ir_world.specs.Sources.{MadeWith, IsAnsweredFrom}

-- of each step of a run its thread and its act
abbrev pub acts : {T : Type 0} → Machine T → State T → List Step → List (ℕ × Act)
acts m s [] = []
acts m s (e ∷ run) = (e.0, act m s e) ∷ acts m (after m s e) run

-- the same run, but for the results of steps whose acts have none
pub record AreSameRuns {T : Type 0} (m : Machine T) (s : State T) (a b : List Step) : Type 0 where
  -- the same threads step in the same order, and do the same
  pub steps : acts m s a ≡ acts m s b
  -- each thread is the same before each of its steps, which emit the same
  pub trails : (t : ℕ) → trail m s a t ≡ trail m s b t
  -- they have one trace
  pub traces : trace m s a ≡ trace m s b
  -- all threads and objects end the same
  pub ends : end m s a ≡ end m s b

-- in the run each of the first n threads was answered by a world that was made so
abbrev pub AreAnswered : {T : Type 0} → Machine T → State T → ℕ → (ℕ → MadeWith) → List Step → Type 0
AreAnswered m s n made run = (t : ℕ) → t < n → IsAnsweredFrom (made t) (answers_in (log m s run t))

-- a run of a guest by an order, whose threads were answered by worlds that were made so
pub record IsAnsweredByOrder (guest : Guest) (budget : ℕ) (profile : Profile) (order : List ℕ) (made : ℕ → MadeWith) (run : List Step) : Type 0 where
  pub by_order : IsByOrder (machine (start_flat guest budget profile)) (tables (start_flat guest budget profile)) (length guest.entries) order run
  pub answered : AreAnswered (machine (start_flat guest budget profile)) (tables (start_flat guest budget profile)) (length guest.entries) made run

-- the same of a run by turns, in which tries may be refused
pub record IsAnsweredByTurns (guest : Guest) (budget : ℕ) (profile : Profile) (turns : List Turn) (made : ℕ → MadeWith) (run : List Step) : Type 0 where
  pub by_turns : IsByTurns (machine (start_flat guest budget profile)) (tables (start_flat guest budget profile)) (length guest.entries) turns run
  pub answered : AreAnswered (machine (start_flat guest budget profile)) (tables (start_flat guest budget profile)) (length guest.entries) made run

-- where calls for the time are counted, there is one run of a guest by turns and what its worlds are made with
abbrev pub OneRunByTurns : Type 0
OneRunByTurns = (guest : Guest) (budget : ℕ) (profile : Profile) (turns : List Turn) (made : ℕ → MadeWith) (a b : List Step)
    → ((t : ℕ) → t < length guest.entries → (made t).counted ≡ true)
    → IsAnsweredByTurns guest budget profile turns made a → IsAnsweredByTurns guest budget profile turns made b
    → AreSameRuns (machine (start_flat guest budget profile)) (tables (start_flat guest budget profile)) a b

-- turns in which no try is refused that may enter are the order of their threads
abbrev pub PlainTurnsAreOrders : Type 0
PlainTurnsAreOrders = (m : Machine thread.ThreadState) (s : State thread.ThreadState) (n : ℕ) (order : List ℕ) (run : List Step)
    → IsByTurns m s n (plain_turns order) run ↔ IsByOrder m s n order run

-- where calls for the time are counted, there is one run of a guest by an order and what its worlds are made with
abbrev pub OneRunByAnOrder : Type 0
OneRunByAnOrder = (guest : Guest) (budget : ℕ) (profile : Profile) (order : List ℕ) (made : ℕ → MadeWith) (a b : List Step)
    → ((t : ℕ) → t < length guest.entries → (made t).counted ≡ true)
    → IsAnsweredByOrder guest budget profile order made a → IsAnsweredByOrder guest budget profile order made b
    → AreSameRuns (machine (start_flat guest budget profile)) (tables (start_flat guest budget profile)) a b
