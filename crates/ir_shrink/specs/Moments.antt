-- A guest that runs by items, at each moment of its run.
use Rattle.std.specs.Prelude.{◌≡◌, ◌<◌, ℕ, Bool, true, false, List, [], ◌∷◌, ◌++◌, length, map, replicate, ⊤}
use Rattle.std.specs.List.{AllByRecursion}
use Rattle.ir_image.specs.Guest.{Guest}
use Rattle.ir_flat.specs.Flat.{Flat, tables, machine, start_flat}
use Rattle.ir_record.specs.Recording.{turns_of_items}
use Rattle.ir_record.specs.Refusing.{Turn, Tries, InTurns}
use Rattle.ir_record.specs.Worlds.{answers_at, AnsweredCall, answers_in, NoneFailed}
use Rattle.ir_record_command.specs.Plan.{Plan}
use Rattle.ir_runs.specs.Machine.{Machine}
use Rattle.ir_runs.specs.Run.{State, Step, Can, after, end, log, HasNone}
use Rattle.ir_shrink.specs.Items.{passes_of}
use Rattle.ir_shrink.specs.declared.mover.Mover.{Mover}

-- a guest at a moment: its threads and objects, the turns that took a step so far, and what the worlds of its threads have answered
pub record Moment : Type 0 where
  pub flat : Flat
  pub turns : List Turn
  pub answers : List (List AnsweredCall)

-- the same of what runs it
abbrev pub moment_of : {W : Type 0} → (W → List AnsweredCall) → Mover W → Moment
moment_of answers r = record { flat = r.flat; turns = turns_of_items r.items.items; answers = map answers r.worlds.items }

-- before the first step
abbrev pub first_moment : Guest → Plan → Moment
first_moment guest plan = record { flat = start_flat guest plan.budget plan.profile; turns = []; answers = replicate (length guest.entries) [] }

-- each thread has its world, and no world has failed
pub record IsReady {W : Type 0} (broken : W → Bool) (r : Mover W) : Type 0 where
  pub worlds : length r.worlds.items ≡ length r.flat.threads
  pub works : NoneFailed (map broken r.worlds.items)

-- each turn takes a step of its thread; a try in it is refused, or enters where it can
abbrev pub EachTakes : {T : Type 0} → Machine T → State T → List Turn → List Step → Type 0
EachTakes m s [] [] = ⊤
EachTakes m s [] (e ∷ run) = ⊥
EachTakes m s (turn ∷ turns) [] = ⊥
EachTakes m s (turn ∷ turns) (e ∷ run) = (e.0 ≡ turn.0) × Can m s e × Tries m s turn.1 e × EachTakes m (after m s e) turns run

-- b is a after these turns, of which those that are named took a step each
pub record Took (turns taken : List Turn) (a b : Moment) : Type 0 where
  pub run : List Step
  pub in_turns : InTurns (machine a.flat) (tables a.flat) turns run
  pub of_threads : AllByRecursion (λ t. t.0 < length a.flat.threads) taken
  pub each : EachTakes (machine a.flat) (tables a.flat) taken run
  pub ends : tables b.flat ≡ end (machine a.flat) (tables a.flat) run
  pub code : b.flat.code ≡ a.flat.code
  pub threads : length b.flat.threads ≡ length a.flat.threads
  pub objects : length b.flat.objects ≡ length a.flat.objects
  -- each world has answered what the steps log of it
  pub answers : (t : ℕ) → t < length a.flat.threads
      → answers_at b.answers t ≡ answers_at a.answers t ++ answers_in (log (machine a.flat) (tables a.flat) run t)

-- a turn of thread t: it took a step, or it has none and nothing is changed
abbrev pub IsTurn : Bool → ℕ → Bool → Moment → Moment → Type 0
IsTurn true t refused a b = Took ((t, refused) ∷ []) ((t, refused) ∷ []) a b
IsTurn false t refused a b = HasNone (machine a.flat) (tables a.flat) t × (b ≡ a)

-- thread t has no step there
abbrev pub HasNoStep : Moment → ℕ → Type 0
HasNoStep a t = HasNone (machine a.flat) (tables a.flat) t

-- b is a after these turns, and those that took a step are added to its turns
pub record Followed (turns : List Turn) (a b : Moment) : Type 0 where
  pub taken : List Turn
  pub took : Took turns taken a b
  pub noted : b.turns ≡ a.turns ++ taken

-- b is a after passes over all threads, and the turns that took a step are added
abbrev pub FollowedPasses : ℕ → Moment → Moment → Type 0
FollowedPasses endless a b = (count : ℕ) × Followed (turns_of_items (passes_of (length a.flat.threads) endless count)) a b
