-- What a hunt finds.
use Rattle.std.specs.Prelude.{Bool, false, ◌≡◌, ℕ, List, [], length, true, Some, None, Ok}
use Rattle.std.specs.List.{list_all}
use Rattle.ir_image.specs.Guest.{Guest, guest_at}
use Rattle.ir_runs.specs.Run.{Step, end}
use Rattle.ir_flat.specs.Flat.{Flat, tables, machine, start_flat}
use Rattle.ir_record.specs.Refusing.{plain_turns}
use Rattle.ir_record_command.specs.Order.{order_of}
use Rattle.ir_record_command.specs.Plan.{Plan}
use Rattle.ir_order.specs.Recording.{IsPlanned}
use Rattle.ir_thread.specs.declared.profile.Profile.{Profile}
use Rattle.ir_thread.specs.declared.profile.Profile.TheVariants.{One, Two}
use Rattle.ir_schedule.specs.Choices.{chooser_of}
use Rattle.ir_schedule.specs.Schedules.{IsSchedule}
use Rattle.ir_schedule.specs.declared.way.Way.{Way}
use Rattle.ir_schedule.specs.Conditions.{fulfils, end_state}
use Rattle.ir_hunt.specs.Hunt.{Hunt}
use Rattle.ir_hunt.specs.Stale.{FulfilsStale}

-- the guest before its first step
abbrev pub first_flat : Guest → Plan → Flat
first_flat guest plan = start_flat guest plan.budget plan.profile

-- these threads and objects are what the guest came to by the run
pub record CameTo (guest : Guest) (plan : Plan) (run : List Step) (f : Flat) : Type 0 where
  pub ends : tables f ≡ end (machine (first_flat guest plan)) (tables (first_flat guest plan)) run
  pub threads : length f.threads ≡ length (first_flat guest plan).threads
  pub objects : length f.objects ≡ length (first_flat guest plan).objects

-- whether what the guest came to by the run fulfils each condition
pub record IsJudged (hunt : Hunt) (run : List Step) (holds : Bool) : Type 0 where
  pub flat : Flat
  pub came : CameTo hunt.guest hunt.plan run flat
  pub each : list_all (λ c. fulfils c (end_state flat)) hunt.conditions ≡ holds

-- it fulfils each
abbrev pub FulfilsEach : Hunt → List Step → Type 0
FulfilsEach hunt run = IsJudged hunt run true

-- it doesn't fulfil some condition
abbrev pub FailsSome : Hunt → List Step → Type 0
FailsSome hunt run = IsJudged hunt run false

-- whether there are tries
abbrev pub has_tries : Profile → Bool
has_tries One = false
has_tries Two = true

-- the complete run of the guest by the chooser of a seed
abbrev pub IsOfSeed : Hunt → ℕ → List Step → Type 0
IsOfSeed hunt seed run = IsSchedule (has_tries hunt.plan.profile) (machine (first_flat hunt.guest hunt.plan)) (length (first_flat hunt.guest hunt.plan).threads)
    (tables (first_flat hunt.guest hunt.plan)) (chooser_of hunt.way seed (length hunt.guest.entries) hunt.choices) run

-- a list spells the order of the run of the guest by a seed, which fulfils each condition and has what is wanted of its stale writes
pub record IsFound (hunt : Hunt) (seed : ℕ) (list : List ℕ) : Type 0 where
  pub order : List ℕ
  pub spelled : order_of (length hunt.guest.entries) list ≡ Some (plain_turns order)
  pub run : List Step
  pub of_seed : IsOfSeed hunt seed run
  pub planned : IsPlanned hunt.guest hunt.plan order run
  pub fulfilled : FulfilsEach hunt run
  pub stale : FulfilsStale hunt.guest hunt.plan hunt.wanted run

-- a list spells the order of the run of an image's guest by a seed
pub record IsOrderOfSeed (image : List ℕ) (plan : Plan) (way : Way) (seed : ℕ) (list : List ℕ) : Type 0 where
  pub guest : Guest
  pub is : guest_at image ≡ Ok guest
  pub choices : List ℕ
  pub found : IsFound (record { guest = guest; plan = plan; way = way; choices = choices; conditions = []; wanted = None }) seed list

-- how what was found is recorded
abbrev pub by_list : Plan → List ℕ → Plan
by_list plan list = record plan { order = Some list }
