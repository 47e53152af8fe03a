-- The limits of what was recorded, which each trace of the code keeps.
use Rattle.std.specs.Prelude.{ℕ, length, ◌≡◌, ◌^◌, ◌<◌, ◌≤◌, true}
pub use Rattle.ir_bytes.specs.Numbers.{IsWord}
use Rattle.ir_thread.specs.declared.profile.Profile.{Profile}
use Rattle.ir_log.specs.declared.event.Event.{Event}
use Rattle.std.specs.List.{AllByRecursion}
use Rattle.ir_thread.specs.State.{end_code, largest, most_budget, most_events, is_result}
use Rattle.ir_image.specs.Guest.{limits_of}
use Rattle.ir_thread.specs.declared.profile.Profile.TheVariants.{Two}
use Rattle.ir_log.specs.declared.event.Event.TheVariants.{Answer, Read, Write, Try}
use Rattle.ir_trace.specs.Recorded.{RecordedThread, Recorded}

-- the limits of an event of a guest with `objects` objects: a result suits its call, and a refused try is in the second profile alone
abbrev pub IsEvent : Profile → ℕ → Event → Type 0
IsEvent profile objects (Answer kind value) = is_result kind value ≡ true
IsEvent profile objects (Read object version) = (object < objects) × IsWord version
IsEvent profile objects (Write object version readers) = (object < objects) × IsWord version × IsWord readers
IsEvent profile objects (Try object) = (profile ≡ Two) × (object < objects)

-- the limits of what is recorded of a thread of a guest with `objects` objects
pub record IsRecordedThread (profile : Profile) (objects : ℕ) (t : RecordedThread) : Type 0 where
  pub steps_fit : t.steps < 2 ^ 64
  pub code_fits : IsWord (end_code t.end)
  pub few_events : length t.events ≤ most_events
  pub events_fit : AllByRecursion (IsEvent profile objects) t.events

-- the limits of what is recorded, the threads and objects by the profile
pub record IsRecorded (r : Recorded) : Type 0 where
  pub some_thread : 1 ≤ length r.threads
  pub few_threads : length r.threads ≤ (limits_of (largest r.profile)).threads
  pub few_objects : r.objects ≤ (limits_of (largest r.profile)).objects
  pub budget_fits : r.budget ≤ most_budget
  pub threads_fit : AllByRecursion (IsRecordedThread r.profile r.objects) r.threads
