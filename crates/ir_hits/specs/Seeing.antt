-- What points see of a thread before and after one of its steps.
use Rattle.std.specs.Prelude.{◌≡◌, ◌≢◌, ℕ, ◌<◌, ◌≤◌, ⊤, true, false, List, length, slice_get, min, Option, Some, None}
use Rattle.ir_mach.specs.Execution.{memory_word}
use Rattle.ir_runs.specs.declared.access.Access.TheVariants.{Writing}
use Rattle.ir_thread.specs.State.{held_at, ask_of, ThreadState}
use Rattle.ir_command.specs.declared.command.Point.{Point}
use Rattle.ir_command.specs.declared.command.Point.TheVariants.{Break, Watch, WatchObject}
use Rattle.ir_hits.specs.declared.before.Before.{Before}
use Rattle.ir_hits.specs.declared.before.Before.TheVariants.{Nothing, Word, Putting, Inside}
use Rattle.ir_hits.specs.Hits.{Numbered, objects_start, puts_at}
use Rattle.ir_runs.specs.Run.{Step, count, Emits}
use Rattle.ir_fit.specs.Fit.{FittedTrace}
use Rattle.ir_cut.specs.Positions.{machine_of, start_of}
use Rattle.ir_runs.specs.Machine.{LeftAt}

-- whether the point may hit thread t
abbrev pub Concerns : ℕ → Point → Type 0
Concerns t (Break u address) = u ≡ t
Concerns t (Watch u address) = u ≡ t
Concerns t (WatchObject object) = ⊤

-- some point may
abbrev pub SomeConcerns : ℕ → List Numbered → Type 0
SomeConcerns t points = (i : ℕ) × (p : Numbered) × (slice_get points i ≡ Some p) × Concerns t p.point

-- what the point noted of thread t, which was x, over this code
abbrev pub IsNoted : List ℕ → ℕ → ThreadState → Point → Before → Type 0
IsNoted code t x (Break u address) before = ⊤
IsNoted code t x (Watch u address) Nothing = u ≡ t → (objects_start ≤ address) × (puts_at address (ask_of code x) ≡ false)
IsNoted code t x (Watch u address) (Word word) = (u ≡ t) × (address < objects_start) × (word ≡ memory_word x.core.memory address)
IsNoted code t x (Watch u address) Putting = (u ≡ t) × (puts_at address (ask_of code x) ≡ true)
IsNoted code t x (Watch u address) Inside = ⊥
IsNoted code t x (WatchObject object) Nothing = held_at x.held object ≢ Some Writing
IsNoted code t x (WatchObject object) (Word word) = ⊥
IsNoted code t x (WatchObject object) Putting = ⊥
IsNoted code t x (WatchObject object) Inside = held_at x.held object ≡ Some Writing

-- what each point noted
pub record AllNoted (code : List ℕ) (t : ℕ) (x : ThreadState) (points : List Numbered) (notes : List Before) : Type 0 where
  pub size : length notes ≡ length points
  pub each : (i : ℕ) (p : Numbered) (b : Before) → slice_get points i ≡ Some p → slice_get notes i ≡ Some b → IsNoted code t x p.point b

-- the point hits thread t, which is y and whose last position is this, where it noted this of it before the step
abbrev pub SeesHit : ℕ → ℕ → ThreadState → Before → Point → Type 0
SeesHit t last y before (Break u address) = (u ≡ t) × (y.core.pc ≡ address) × (y.steps < last)
SeesHit t last y Nothing (Watch u address) = ⊥
SeesHit t last y (Word word) (Watch u address) = (address < objects_start) × (word ≢ memory_word y.core.memory address)
SeesHit t last y Putting (Watch u address) = ⊤
SeesHit t last y Inside (Watch u address) = ⊥
SeesHit t last y Nothing (WatchObject object) = ⊥
SeesHit t last y (Word word) (WatchObject object) = ⊥
SeesHit t last y Putting (WatchObject object) = ⊥
SeesHit t last y Inside (WatchObject object) = held_at y.held object ≢ Some Writing

-- point i hits it, which is p
abbrev pub SeesHitAt : ℕ → ℕ → ThreadState → List Before → List Numbered → ℕ → Numbered → Type 0
SeesHitAt t last y notes points i p = (slice_get points i ≡ Some p) × (b : Before) × (slice_get notes i ≡ Some b)
    × SeesHit t last y b p.point

-- the lower of both numbers, where there are two
abbrev pub lower_of : Option ℕ → ℕ → ℕ
lower_of None n = n
lower_of (Some m) n = min m n

-- the lowest number of those of the first n points that hit it; or none does
abbrev pub IsLowestOf : ℕ → ℕ → ThreadState → List Before → List Numbered → ℕ → Option ℕ → Type 0
IsLowestOf t last y notes points n None = (i : ℕ) (p : Numbered) → i < n → SeesHitAt t last y notes points i p → ⊥
IsLowestOf t last y notes points n (Some m) = ((i : ℕ) × (p : Numbered) × SeesHitAt t last y notes points i p × (p.number ≡ m))
    × ((i : ℕ) (p : Numbered) → i < n → SeesHitAt t last y notes points i p → m ≤ p.number)

-- how many steps it takes
abbrev pub steps_of : FittedTrace → List Step → ℕ → ℕ
steps_of f run t = count (machine_of f) (start_of f) run t

-- step j of thread t leaves the object after writing
abbrev pub LeavesWritten : FittedTrace → List Step → ℕ → ℕ → ℕ → Type 0
LeavesWritten f run t object j = (version : ℕ) × Emits (machine_of f) (start_of f) run t j (LeftAt object Writing version)
