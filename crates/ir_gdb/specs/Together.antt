-- Which thread stops where a move of one brings others along that have hits on their way.
use Rattle.std.specs.Prelude.{◌≡◌, ◌≢◌, ◌<◌, ◌≤◌, ◌⊎◌, ◌==◌, ◌&&◌, ◌||◌, not, nat_le, ℕ, zero, suc, Bool, true, false, List, length, Option, Some, None, option_map}
use Rattle.std.specs.List.{slice_index_or}
use Rattle.ir_runs.specs.Run.{Step}
use Rattle.ir_cut.specs.Positions.{cut_of, threads_of, last_of, first_cut, last_cut}
use Rattle.ir_command.specs.declared.command.Direction.{Direction}
use Rattle.ir_command.specs.declared.command.Direction.TheVariants.{Forwards, Backwards}
use Rattle.ir_debug.specs.Machine.{StopsAt}
use Rattle.ir_packet.specs.declared.reply.Reason.{Reason}
use Rattle.ir_packet.specs.declared.reply.Reason.TheVariants as reason
use Rattle.ir_packet.specs.declared.request.Motion.{Motion}
use Rattle.ir_packet.specs.declared.request.Motion.TheVariants as motion
use Rattle.ir_gdb.specs.declared.stopped.Stopped.{Stopped}
use Rattle.ir_gdb.specs.Stub.{Stub}
use Rattle.ir_gdb.specs.Stops.{stopped, position_of, StopsInDirection, MovesTo, direction_of, is_hit, reason_at_end}

-- a stop: the thread, the cut, and why
pub record Halt : Type 0 where
  pub thread : ℕ
  pub cut : List ℕ
  pub reason : Reason

abbrev pub halt : ℕ → List ℕ → Reason → Halt
halt t cut why = record { thread = t; cut = cut; reason = why }

-- a thread moves from here by its own steps to a position, and the others as far as they must
abbrev pub Comes : List Step → Stub → Direction → ℕ → ℕ → List ℕ → Type 0
Comes run s direction t k cut = StopsAt run s.desk.fitted s.desk.at t direction k cut

-- thread u's own stop when `mover` moves, for whom alone watches of private memory count
abbrev pub OwnStop : List Step → Stub → Direction → ℕ → ℕ → Stopped → Type 0
OwnStop run s direction mover u to = StopsInDirection direction run s u (u == mover) to

-- the stop of a thread among those of all
abbrev pub stop_among : List Stopped → ℕ → Stopped
stop_among each u = slice_index_or each u (stopped 0 reason.End)

-- the own stop of each thread
pub record AreStops (run : List Step) (s : Stub) (direction : Direction) (mover : ℕ) (each : List Stopped) : Type 0 where
  pub count : length each ≡ threads_of s.desk.fitted
  pub own : (u : ℕ) → u < threads_of s.desk.fitted → OwnStop run s direction mover u (stop_among each u)

-- there is one for each thread, at a position of the thread
pub record AreWithin (s : Stub) (each : List Stopped) : Type 0 where
  pub count : length each ≡ threads_of s.desk.fitted
  pub within : (u : ℕ) → u < threads_of s.desk.fitted → (stop_among each u).position ≤ last_of s.desk.fitted u

-- a position isn't beyond that of a cut
abbrev pub is_on_way : Direction → ℕ → ℕ → Bool
is_on_way Forwards k there = nat_le k there
is_on_way Backwards k there = nat_le there k

-- whether thread u has a hit on its way to a cut
abbrev pub meets : Stub → Direction → List Stopped → List ℕ → ℕ → Bool
meets s direction each cut u = not (position_of s u == cut_of cut u)
    && (is_hit (stop_among each u).reason && is_on_way direction (stop_among each u).position (cut_of cut u))

-- whether thread u is t, or has none
abbrev pub passes : Stub → Direction → List Stopped → List ℕ → ℕ → ℕ → Bool
passes s direction each cut t u = (u == t) || not (meets s direction each cut u)

-- whether none of the first n threads but t has
unfoldable pub is_free : Stub → Direction → List Stopped → List ℕ → ℕ → ℕ → Bool
is_free s direction each cut t zero = true
is_free s direction each cut t (suc u) = is_free s direction each cut t u && passes s direction each cut t u

-- whether no thread but t has
abbrev pub is_all_free : Stub → Direction → List Stopped → List ℕ → ℕ → Bool
is_all_free s direction each cut t = is_free s direction each cut t (threads_of s.desk.fitted)

-- thread u has a hit on its way to a cut, and comes to it with no hit of another on the way
pub record IsMet (run : List Step) (s : Stub) (direction : Direction) (each : List Stopped) (cut : List ℕ) (u : ℕ) (own : List ℕ) : Type 0 where
  pub meets : meets s direction each cut u ≡ true
  pub comes : Comes run s direction u (stop_among each u).position own
  pub free : is_all_free s direction each own u ≡ true

-- it has none, or others have on the way
abbrev pub IsNotMet : List Step → Stub → Direction → List Stopped → List ℕ → ℕ → Type 0
IsNotMet run s direction each cut u = (meets s direction each cut u ≡ false)
    ⊎ ((own : List ℕ) × Comes run s direction u (stop_among each u).position own × (is_all_free s direction each own u ≡ false))

-- it is met so where it comes to its hit at this cut, or isn't
abbrev pub MetAt : List Step → Stub → Direction → List Stopped → List ℕ → ℕ → Option (List ℕ) → Type 0
MetAt run s direction each cut u (Some own) = IsMet run s direction each cut u own
MetAt run s direction each cut u None = IsNotMet run s direction each cut u

-- no thread below n but t is met so
abbrev pub NoneMet : List Step → Stub → Direction → List Stopped → List ℕ → ℕ → ℕ → Type 0
NoneMet run s direction each cut t n = (u : ℕ) → u < n → u ≢ t → IsNotMet run s direction each cut u

-- the lowest thread but t that is met so on the way to a cut, if there is one
abbrev pub FirstMet : List Step → Stub → Direction → List Stopped → List ℕ → ℕ → Option Halt → Type 0
FirstMet run s direction each cut t (Some h) = (h.thread ≢ t) × (h.thread < threads_of s.desk.fitted)
    × IsMet run s direction each cut h.thread h.cut × (h.reason ≡ (stop_among each h.thread).reason) × NoneMet run s direction each cut t h.thread
FirstMet run s direction each cut t None = NoneMet run s direction each cut t (threads_of s.desk.fitted)

-- the stop of a thread at a cut, by its own
abbrev pub halt_of : List Stopped → ℕ × List ℕ → Halt
halt_of each m = halt m.0 m.1 (stop_among each m.0).reason

abbrev pub first_met : List Stopped → Option (ℕ × List ℕ) → Option Halt
first_met each met = option_map (halt_of each) met

abbrev pub halt_or : Option Halt → Halt → Halt
halt_or None h = h
halt_or (Some met) h = met

-- whether thread u is another than t, and isn't where it is in a cut
abbrev pub moves : Stub → List ℕ → ℕ → ℕ → Bool
moves s cut t u = not (u == t) && not (position_of s u == cut_of cut u)

-- whether one of the first n threads but t isn't where it is in a cut
unfoldable pub moves_other : Stub → List ℕ → ℕ → ℕ → Bool
moves_other s cut t zero = false
moves_other s cut t (suc u) = moves_other s cut t u || moves s cut t u

-- by whether another moves: the first that is met, or thread t at its own stop
abbrev pub MetBy : Bool → List Step → Stub → Direction → List ℕ → Halt → Halt → Type 0
MetBy false run s direction cut own h = h ≡ own
MetBy true run s direction cut own h = (each : List Stopped) × AreStops run s direction own.thread each
    × ((met : Option Halt) × FirstMet run s direction each cut own.thread met × (h ≡ halt_or met own))

-- a few steps of a thread: they end at the first that is met, or where they would alone
abbrev pub StepsAmong : List Step → Stub → ℕ → Motion → Halt → Type 0
StepsAmong run s t m h = (to : Stopped) × MovesTo run s t m to × ((cut : List ℕ) × Comes run s (direction_of m) t to.position cut
    × MetBy (moves_other s cut t (threads_of s.desk.fitted)) run s (direction_of m) cut (halt t cut to.reason) h)

abbrev pub own_halt : Bool → Halt → Option Halt
own_halt true h = Some h
own_halt false h = None

abbrev pub met_or : Option Halt → Option Halt → Option Halt
met_or None own = own
met_or (Some met) own = Some met

-- the stop where thread d continues: at the first that is met, or at its own hit; none where it has none
abbrev pub StopsAmong : List Step → Stub → Direction → List Stopped → ℕ → Option Halt → Type 0
StopsAmong run s direction each d h = (cut : List ℕ) × Comes run s direction d (stop_among each d).position cut
    × ((met : Option Halt) × FirstMet run s direction each cut d met
    × (h ≡ met_or met (own_halt (is_hit (stop_among each d).reason) (halt d cut (stop_among each d).reason))))

-- no thread below n but t stops so
abbrev pub NoneStops : List Step → Stub → Direction → List Stopped → ℕ → ℕ → Type 0
NoneStops run s direction each t n = (d : ℕ) → d < n → d ≢ t → StopsAmong run s direction each d None

-- the stop of the first thread that has one: of thread t, and then of the others by their numbers; none where none has
abbrev pub FirstStop : List Step → Stub → Direction → List Stopped → ℕ → Option Halt → Type 0
FirstStop run s direction each t None = StopsAmong run s direction each t None × NoneStops run s direction each t (threads_of s.desk.fitted)
FirstStop run s direction each t (Some h) = StopsAmong run s direction each t (Some h)
    ⊎ (StopsAmong run s direction each t None × ((d : ℕ) × (d < threads_of s.desk.fitted) × (d ≢ t)
    × NoneStops run s direction each t d × StopsAmong run s direction each d (Some h)))

-- where all threads are that have no hit in a direction
abbrev pub furthest : Stub → Direction → List ℕ
furthest s Forwards = last_cut s.desk.fitted
furthest s Backwards = first_cut s.desk.fitted

-- all continue
abbrev pub ContinuesAmong : List Step → Stub → ℕ → Direction → Halt → Type 0
ContinuesAmong run s t direction h = (each : List Stopped) × AreStops run s direction t each × ((stop : Option Halt)
    × FirstStop run s direction each t stop × (h ≡ halt_or stop (halt t (furthest s direction) (reason_at_end direction))))

-- a move of a thread, in which the others may be stopped at their hits
abbrev pub MovesAmong : List Step → Stub → ℕ → Motion → Halt → Type 0
MovesAmong run s t motion.Step h = StepsAmong run s t motion.Step h
MovesAmong run s t (motion.Range low high) h = StepsAmong run s t (motion.Range low high) h
MovesAmong run s t motion.Continue h = ContinuesAmong run s t Forwards h
MovesAmong run s t motion.StepBack h = StepsAmong run s t motion.StepBack h
MovesAmong run s t motion.ContinueBack h = ContinuesAmong run s t Backwards h

-- a move of a thread, which no other stops
abbrev pub MovesAlone : List Step → Stub → ℕ → Motion → Halt → Type 0
MovesAlone run s t m h = (to : Stopped) × MovesTo run s t m to × Comes run s (direction_of m) t to.position h.cut
    × (h ≡ halt t h.cut to.reason)
