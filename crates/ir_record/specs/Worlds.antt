-- What the world outside has answered.
use Rattle.std.specs.Prelude.{◌≡◌, ◌<◌, ℕ, List, [], ◌∷◌, map, Bool, true, false}
use Rattle.std.specs.List.{slice_index_or}
use Rattle.ir_runs.specs.Machine.{Label, Answer}
use Rattle.ir_runs.specs.declared.env_kind.EnvKind.{EnvKind}

-- a call of the environment, and what it was answered
abbrev pub AnsweredCall : Type 0
AnsweredCall = EnvKind × ℕ

-- the calls of the environment in a log, with their answers
abbrev pub answers_in : List Label → List AnsweredCall
answers_in [] = []
answers_in (Answer kind value ∷ log) = (kind, value) ∷ answers_in log
answers_in (event ∷ log) = answers_in log

-- no world has failed
abbrev pub NoneFailed : List Bool → Type 0
NoneFailed failed = (t : ℕ) → slice_index_or failed t false ≡ false

-- the world of thread t has failed, and none of a lower thread
abbrev pub IsFirstFailed : List Bool → ℕ → Type 0
IsFirstFailed failed t = (slice_index_or failed t false ≡ true) × ((u : ℕ) → u < t → slice_index_or failed u false ≡ false)

-- the worlds are those that they were
abbrev pub AreSameWorlds : {W O : Type 0} → (W → O) → List W → List W → Type 0
AreSameWorlds origin old new = map origin new ≡ map origin old

-- what the world of thread t has answered
abbrev pub answers_at : List (List AnsweredCall) → ℕ → List AnsweredCall
answers_at answers t = slice_index_or answers t []
