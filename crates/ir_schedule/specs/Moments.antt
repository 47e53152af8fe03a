-- A guest that runs by a chooser, at each moment of its run.
use Rattle.std.specs.Prelude.{◌≡◌, ◌≢◌, ◌<◌, ◌≤◌, ◌+◌, ◌++◌, ℕ, List, [], ◌∷◌, length, map, Bool, true, vec_len, vec_capacity, ⊤}
use Rattle.ir_flat.specs.Flat.{Flat, tables, machine, start_flat}
use Rattle.ir_image.specs.Guest.{Guest}
use Rattle.ir_record.specs.Progress.{all_left}
use Rattle.ir_record.specs.Worlds.{answers_at, AnsweredCall, answers_in, NoneFailed, IsFirstFailed}
use Rattle.ir_record.specs.Recording.{order_of_turns}
use Rattle.ir_record.specs.declared.turns.Turns.{Turns}
use Rattle.ir_runs.specs.Run.{Step, Can, after, end, log, EntersIfFree}
use Rattle.ir_thread.specs.declared.ask.Ask as ask
use Rattle.ir_thread.specs.declared.ask.Ask.TheVariants as asks
use Rattle.ir_thread.specs.declared.profile.Profile.{Profile}
use Rattle.ir_schedule.specs.Schedules.{IsSchedule, ChoosesSteps, rests, chosen_threads}
use Rattle.ir_schedule.specs.declared.chooser.Chooser.{Chooser}
use Rattle.ir_schedule.specs.declared.runner.Runner.{Runner}
use Rattle.ir_schedule.specs.declared.stop.Stop.{Stop}
use Rattle.ir_schedule.specs.declared.stop.Stop.TheVariants.{World, TooLong}

-- its threads and objects, the turns so far, and what the worlds of its threads have answered
pub record Moment : Type 0 where
  pub flat : Flat
  pub turns : List Turns
  pub answers : List (List AnsweredCall)

-- the same of what runs it
abbrev pub moment_of : {W : Type 0} → (W → List AnsweredCall) → Runner W → Moment
moment_of answers r = record { flat = r.flat; turns = r.turns.items; answers = map answers r.worlds.items }

-- what is asked is no try
abbrev pub IsNoTry : ask.Ask → Type 0
IsNoTry (asks.Try object) = ⊥
IsNoTry _ = ⊤

-- what is asked is no call of the environment
abbrev pub IsNoCall : ask.Ask → Type 0
IsNoCall (asks.Env kind) = ⊥
IsNoCall _ = ⊤

-- g is f after one step of thread t with this result, which enters where it can
pub record Moved (t result : ℕ) (f g : Flat) : Type 0 where
  pub can : Can (machine f) (tables f) (t, result)
  pub enters : EntersIfFree (machine f) (tables f) (t, result)
  pub taken : tables g ≡ after (machine f) (tables f) (t, result)
  pub code : g.code ≡ f.code
  pub threads : length g.threads ≡ length f.threads
  pub objects : length g.objects ≡ length f.objects

-- b is a after these steps: they are added to the turns, and each world has answered what they log of it
pub record Gained (run : List Step) (a b : Moment) : Type 0 where
  pub ends : tables b.flat ≡ end (machine a.flat) (tables a.flat) run
  pub code : b.flat.code ≡ a.flat.code
  pub threads : length b.flat.threads ≡ length a.flat.threads
  pub objects : length b.flat.objects ≡ length a.flat.objects
  pub order : order_of_turns b.turns ≡ order_of_turns a.turns ++ chosen_threads run
  pub answers : (t : ℕ) → t < length a.flat.threads
      → answers_at b.answers t ≡ answers_at a.answers t ++ answers_in (log (machine a.flat) (tables a.flat) run t)

-- b is a after one step of thread t, which enters where it can
pub record TookStep (t : ℕ) (a b : Moment) : Type 0 where
  pub result : ℕ
  pub can : Can (machine a.flat) (tables a.flat) (t, result)
  pub enters : EntersIfFree (machine a.flat) (tables a.flat) (t, result)
  pub gained : Gained ((t, result) ∷ []) a b

-- b is a after a run by the chooser c, which is d then
pub record Ran (tries : Bool) (a : Moment) (c : Chooser) (b : Moment) (d : Chooser) : Type 0 where
  pub run : List Step
  pub leads : ChoosesSteps tries (machine a.flat) (length a.flat.threads) (tables a.flat) c run d
  pub gained : Gained run a b

-- b is a after the complete run by the chooser
pub record RanToEnd (tries : Bool) (a : Moment) (c : Chooser) (b : Moment) : Type 0 where
  pub run : List Step
  pub schedule : IsSchedule tries (machine a.flat) (length a.flat.threads) (tables a.flat) c run
  pub gained : Gained run a b

-- thread t of the guest rests
abbrev pub IsAtRest : Bool → Flat → ℕ → Type 0
IsAtRest tries f t = rests tries (machine f) (tables f) t ≡ true

-- each of the guest's threads rests
abbrev pub AllThreadsRest : Bool → Flat → Type 0
AllThreadsRest tries f = (t : ℕ) → t < length f.threads → IsAtRest tries f t

-- each thread but t rests where it did
abbrev pub OthersRest : Bool → ℕ → Flat → Flat → Type 0
OthersRest tries t f g = (u : ℕ) → u ≢ t → rests tries (machine g) (tables g) u ≡ rests tries (machine f) (tables f) u

-- the threads have at least `count` steps fewer to take
abbrev pub TookSome : ℕ → Flat → Flat → Type 0
TookSome count f g = all_left (length f.threads) (tables g).now + count ≤ all_left (length f.threads) (tables f).now

-- a guest before its first step
abbrev pub IsStartOfGuest : Flat → Type 0
IsStartOfGuest f = (guest : Guest) × (budget : ℕ) × (profile : Profile) × (f ≡ start_flat guest budget profile)

-- each thread has its world, and no world has failed
pub record IsReady {W : Type 0} (broken : W → Bool) (r : Runner W) : Type 0 where
  pub worlds : length r.worlds.items ≡ length r.flat.threads
  pub works : NoneFailed (map broken r.worlds.items)

-- why a run stopped: the world of the thread has failed, and none of a lower one; or the turns are full, and no world has failed
abbrev pub TellsStop : {W : Type 0} → (W → Bool) → Runner W → Stop → Type 0
TellsStop broken r (World thread) = IsFirstFailed (map broken r.worlds.items) thread
TellsStop broken r TooLong = (vec_len r.turns ≡ vec_capacity r.turns) × NoneFailed (map broken r.worlds.items)
