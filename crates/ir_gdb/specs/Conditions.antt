-- Which hits stop a thread that moves: those of points without conditions, and those of breakpoints of which a condition is met at the cut to which
-- the thread comes.
use Rattle.std.specs.Prelude.{◌≡◌, ◌<◌, ◌≤◌, ◌+◌, ◌==◌, ⊤, ℕ, suc, Bool, true, false, ◌||◌, ◌&&◌, not, List, [], ◌∷◌, length, slice_get, Option, Some, None, option_map, if◌then◌else◌}
use Rattle.ir_agent.specs.Evaluation.{Seen, scene_of, condition_holds}
use Rattle.ir_runs.specs.Run.{Step, Cut}
use Rattle.ir_cut.specs.Positions.{cut_of, thread_at}
use Rattle.ir_fit.specs.Fit.{FittedTrace}
use Rattle.ir_hits.specs.Hits.{HitByNumber}
use Rattle.ir_command.specs.declared.hit.Hit.{Hit}
use Rattle.ir_command.specs.declared.command.Direction.{Direction}
use Rattle.ir_command.specs.declared.command.Direction.TheVariants.{Forwards, Backwards}
use Rattle.ir_debug.specs.Machine.{StopsAt}
use Rattle.ir_gdb.specs.Guards.{Guarded, is_guarded, has_guard, conditions_at}
use Rattle.ir_gdb.specs.Points.{upwards_of, downwards_of, watches_if}
use Rattle.ir_gdb.specs.Reads.{register_words, byte_at_cut}
use Rattle.ir_gdb.specs.Stub.{Stub}

-- ---- conditions

-- what a condition reads of thread t at a cut: x0 to x31 and pc, and the memory that `m` gives
abbrev pub seen_at : List Step → FittedTrace → Cut → ℕ → Seen
seen_at run f p t = scene_of (slice_get (register_words (thread_at f run t (p t)).core)) (byte_at_cut run f p t)

-- whether one of several conditions is met
unfoldable pub any_holds : Seen → List (List ℕ) → Bool
any_holds seen [] = false
any_holds seen (c ∷ cs) = condition_holds seen c || any_holds seen cs

-- a condition is met where thread t, which moves in a direction, comes to position k: with the others moved only as far as they must
abbrev pub IsMetAt : List Step → Stub → Direction → ℕ → ℕ → List (List ℕ) → Type 0
IsMetAt run s d t k conditions =
    (cut : List ℕ) × StopsAt run s.desk.fitted s.desk.at t d k cut × (any_holds (seen_at run s.desk.fitted (cut_of cut) t) conditions ≡ true)

-- by whether there are conditions
abbrev pub IsMetBy : Bool → List Step → Stub → Direction → ℕ → ℕ → List (List ℕ) → Type 0
IsMetBy true run s d t k conditions = IsMetAt run s d t k conditions
IsMetBy false run s d t k conditions = ⊤

-- the point of this number stops thread t at position k when it moves upwards
abbrev pub StopsUpwards : List Step → Stub → ℕ → Bool → ℕ → ℕ → Type 0
StopsUpwards run s t watched k n = HitByNumber s.desk.fitted run (upwards_of s t watched) t k n
    × IsMetBy (has_guard n) run s Forwards t k (conditions_at s.breaks (length (watches_if s watched)) n)

-- it does so when the thread moves downwards
abbrev pub StopsDownwards : List Step → Stub → ℕ → Bool → ℕ → ℕ → Type 0
StopsDownwards run s t watched k n = HitByNumber s.desk.fitted run (downwards_of s t watched) t k n
    × IsMetBy (has_guard n) run s Backwards t k (conditions_at s.breaks 0 n)

-- ---- the first

-- the lowest number of those of which P says that they stop at position k
pub record IsLowestThat (P : ℕ → ℕ → Type 0) (k n : ℕ) : Type 0 where
  pub stops : P k n
  pub lowest : (m : ℕ) → P k m → n ≤ m

-- the lowest number of those that stop at a position; or none does
abbrev pub IsStopAt : (ℕ → ℕ → Type 0) → ℕ → Option Hit → Type 0
IsStopAt P k (Some h) = (h.position ≡ k) × IsLowestThat P k h.number
IsStopAt P k None = (n : ℕ) → P k n → ⊥

-- none stops at a position from the first on and below the second
abbrev pub NoneStopsWithin : (ℕ → ℕ → Type 0) → ℕ → ℕ → Type 0
NoneStopsWithin P from to = (j n : ℕ) → from ≤ j → j < to → P j n → ⊥

-- the first position above p at which one stops, and the lowest number of those that do; or none stops above p
abbrev pub IsFirstStop : (ℕ → ℕ → Type 0) → ℕ → Option Hit → Type 0
IsFirstStop P p (Some h) = (p < h.position) × NoneStopsWithin P (suc p) h.position × IsLowestThat P h.position h.number
IsFirstStop P p None = (j n : ℕ) → p < j → P j n → ⊥

-- the first above p, and at most to
abbrev pub IsNextStop : (ℕ → ℕ → Type 0) → ℕ → ℕ → Option Hit → Type 0
IsNextStop P p to (Some h) = (p < h.position) × (h.position ≤ to) × NoneStopsWithin P (suc p) h.position × IsLowestThat P h.position h.number
IsNextStop P p to None = NoneStopsWithin P (suc p) (suc to)

-- the last position below p at which one stops, and the lowest number of those that do; or none stops below p
abbrev pub IsLastStop : (ℕ → ℕ → Type 0) → ℕ → Option Hit → Type 0
IsLastStop P p (Some h) = (h.position < p) × NoneStopsWithin P (suc h.position) p × IsLowestThat P h.position h.number
IsLastStop P p None = NoneStopsWithin P 0 p

-- whether a hit is none of a breakpoint with conditions, or there is no hit
abbrev pub is_plain_hit : Option Hit → Bool
is_plain_hit None = true
is_plain_hit (Some h) = not (has_guard h.number)

-- ---- which breakpoint

-- whether a breakpoint with conditions stops a thread at an address: one of them is met
abbrev pub is_met_at : Seen → ℕ → Guarded → Bool
is_met_at seen address b = is_guarded b && ((b.point.address == address) && any_holds seen b.conditions)

-- the place of the first that does
unfoldable pub first_met_place : Seen → ℕ → List Guarded → Option ℕ
first_met_place seen address [] = None
first_met_place seen address (b ∷ breaks) = if is_met_at seen address b then Some 0 else option_map (λ i. i + 1) (first_met_place seen address breaks)

-- where thread t is at a cut
abbrev pub first_met_at : List Step → Stub → List ℕ → ℕ → Option ℕ
first_met_at run s cut t =
    first_met_place (seen_at run s.desk.fitted (cut_of cut) t) (thread_at s.desk.fitted run t (cut_of cut t)).core.pc s.breaks
