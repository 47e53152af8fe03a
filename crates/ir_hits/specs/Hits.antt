-- Where points hit the threads of a run.
use Rattle.std.specs.Prelude.{◌≡◌, ◌≢◌, ◌⊎◌, ℕ, suc, ◌+◌, ◌*◌, ◌==◌, ◌<◌, ◌≤◌, Bool, true, false, List, slice_get, Option, Some, None}
use Rattle.ir_mach.specs.Execution.{memory_word}
use Rattle.ir_thread.specs.State.{ask_of}
use Rattle.ir_thread.specs.declared.ask.Ask.{Ask}
use Rattle.ir_thread.specs.declared.ask.Ask.TheVariants as ask
use Rattle.ir_runs.specs.declared.access.Access.TheVariants.{Writing}
use Rattle.ir_runs.specs.Machine.{LeftAt}
use Rattle.ir_runs.specs.Run.{Step, count, Emits}
use Rattle.ir_fit.specs.Fit.{FittedTrace}
use Rattle.ir_cut.specs.Positions.{machine_of, start_of, thread_at}
use Rattle.ir_command.specs.declared.command.Point.{Point}
use Rattle.ir_command.specs.declared.command.Point.TheVariants.{Break, Watch, WatchObject}
use Rattle.ir_command.specs.declared.hit.Hit.{Hit}
use Rattle.ir_command.specs.declared.command.Direction.{Direction}
use Rattle.ir_command.specs.declared.command.Direction.TheVariants.{Forwards, Backwards}

-- a point, and the number that it goes by
pub record Numbered : Type 0 where
  pub number : ℕ
  pub point : Point

-- the address at which a watch finds the first object's words
abbrev pub objects_start : ℕ
objects_start = 0x80000000

-- the bytes from there on to the next object's
abbrev pub object_size : ℕ
object_size = 64

-- whether the word of an object at an address is put
abbrev pub puts_at : ℕ → Ask → Bool
puts_at address (ask.Put object index value) = objects_start + object_size * object + 4 * index == address
puts_at address asked = false

-- step j of thread t changes the word of private memory at an address
abbrev pub ChangesWord : FittedTrace → List Step → ℕ → ℕ → ℕ → Type 0
ChangesWord f run t address j =
    (address < objects_start) × (memory_word (thread_at f run t j).core.memory address ≢ memory_word (thread_at f run t (suc j)).core.memory address)

-- it puts the word of an object at an address
abbrev pub PutsWord : FittedTrace → List Step → ℕ → ℕ → ℕ → Type 0
PutsWord f run t address j = (j < count (machine_of f) (start_of f) run t) × (puts_at address (ask_of f.guest.code (thread_at f run t j)) ≡ true)

-- the point hits thread t at position k: its pc is there, and it has a step left; or the step to k changed the word of its private memory, or
-- put the word of an object, at the address; or that step left the object, which the thread had entered for writing
abbrev pub HitBy : FittedTrace → List Step → ℕ → ℕ → Point → Type 0
HitBy f run t k (Break u address) = (u ≡ t) × ((thread_at f run t k).core.pc ≡ address) × (k < count (machine_of f) (start_of f) run t)
HitBy f run t k (Watch u address) = (u ≡ t) × ((j : ℕ) × (k ≡ suc j) × (ChangesWord f run t address j ⊎ PutsWord f run t address j))
HitBy f run t k (WatchObject object) = (j : ℕ) × (k ≡ suc j)
    × ((version : ℕ) × Emits (machine_of f) (start_of f) run t j (LeftAt object Writing version))

-- a point of this number hits
abbrev pub HitByNumber : FittedTrace → List Step → List Numbered → ℕ → ℕ → ℕ → Type 0
HitByNumber f run points t k n = (i : ℕ) × (p : Numbered) × (slice_get points i ≡ Some p) × (p.number ≡ n) × HitBy f run t k p.point

-- the lowest number of the points that hit
pub record IsLowest (f : FittedTrace) (run : List Step) (points : List Numbered) (t k n : ℕ) : Type 0 where
  pub hits : HitByNumber f run points t k n
  pub lowest : (m : ℕ) → HitByNumber f run points t k m → n ≤ m

-- no point hits at a position from the first on and below the second
abbrev pub NoneWithin : FittedTrace → List Step → List Numbered → ℕ → ℕ → ℕ → Type 0
NoneWithin f run points t from to = (j n : ℕ) → from ≤ j → j < to → HitByNumber f run points t j n → ⊥

-- the first position above p at which a point hits, and the lowest number of those that do; or no point hits above p
abbrev pub IsFirstHit : FittedTrace → List Step → List Numbered → ℕ → ℕ → Option Hit → Type 0
IsFirstHit f run points t p (Some h) = (p < h.position) × NoneWithin f run points t (suc p) h.position × IsLowest f run points t h.position h.number
IsFirstHit f run points t p None = (j n : ℕ) → p < j → HitByNumber f run points t j n → ⊥

-- the last position below p at which a point hits, and the lowest number of those that do; or no point hits below p
abbrev pub IsLastHit : FittedTrace → List Step → List Numbered → ℕ → ℕ → Option Hit → Type 0
IsLastHit f run points t p (Some h) = (h.position < p) × NoneWithin f run points t (suc h.position) p × IsLowest f run points t h.position h.number
IsLastHit f run points t p None = NoneWithin f run points t 0 p

-- the hit that thread t finds from a position in this direction
abbrev pub Finds : List Step → FittedTrace → List Numbered → ℕ → ℕ → Direction → Option Hit → Type 0
Finds run f points t from Forwards hit = IsFirstHit f run points t from hit
Finds run f points t from Backwards hit = IsLastHit f run points t from hit
