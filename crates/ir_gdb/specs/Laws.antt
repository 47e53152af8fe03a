-- What holds of gdb's moves, whichever packets ask for them.
use Rattle.std.specs.Prelude.{◌≡◌, ◌≢◌, ◌<◌, ◌⊎◌, ◌==◌, ℕ, suc, ◌+◌, ◌++◌, Bool, true, false, List, [], ◌∷◌, length, map, slice_get, Some, None}
use Rattle.ir_runs.specs.Run.{Step, IsCut, Consistent}
use Rattle.ir_fit.specs.Fit.{IsRunOf}
use Rattle.ir_cut.specs.Positions.{machine_of, start_of, cut_of, threads_of, thread_at}
use Rattle.std.specs.List.{AllByRecursion}
use Rattle.ir_hits.specs.Hits.{Numbered, HitByNumber, NoneWithin}
use Rattle.ir_command.specs.declared.command.Direction.{Direction}
use Rattle.ir_command.specs.declared.command.Command.{Command}
use Rattle.ir_command.specs.declared.command.Command.TheVariants as command
use Rattle.ir_command.specs.declared.command.Direction.TheVariants.{Forwards, Backwards}
use Rattle.ir_command.specs.declared.command.Move.TheVariants as move
use Rattle.ir_debug.specs.Machine.{Desk, CarriesOut, moved_to}
use Rattle.ir_packet.specs.declared.reply.Reason.TheVariants as reason
use Rattle.ir_packet.specs.declared.request.Motion.{Motion}
use Rattle.ir_packet.specs.declared.request.Motion.TheVariants as motion
use Rattle.ir_gdb.specs.Stub.{Stub, IsStub}
use Rattle.ir_gdb.specs.declared.stopped.Stopped.{Stopped}
use Rattle.ir_gdb.specs.Guards.{Guarded, has_guard, is_guarded, without_conditions}
use Rattle.ir_gdb.specs.Points.{watch_points, break_points, watches_if, upwards_of, downwards_of}
use Rattle.ir_gdb.specs.Conditions.{StopsUpwards, StopsDownwards, NoneStopsWithin, seen_at, is_met_at}
use Rattle.ir_gdb.specs.Stops.{position_of, is_hit, direction_of}
use Rattle.ir_gdb.specs.Together.{Halt, halt, Comes, stop_among, AreStops, meets, FirstMet, ContinuesAmong, MovesAmong}
use Rattle.ir_gdb.specs.declared.stopped.Moving.{Moving}
use Rattle.ir_gdb.specs.Endings.{signal_of, end_of_thread, is_end_of_thread, is_thread_over}
use Rattle.ir_gdb.specs.Moves.{arrived, with_together, Moves}
use Rattle.ir_gdb.specs.Over.{waits, pc_here, OtherHasHit, LeadsAlone}

-- ---- a thread that moves alone

-- a session in which `break T A` has set each of gdb's breakpoints for a thread, behind the session's own points. It has no conditions
abbrev pub session_of : Stub → ℕ → Desk
session_of s t = record s.desk {
  points = s.desk.points ++ break_points t (s.desk.last_point + 1) (map without_conditions s.breaks);
  last_point = s.desk.last_point + length s.breaks;
}

-- the session carries out a command by going to this cut
abbrev pub SessionGoes : List Step → Stub → ℕ → Command → List ℕ → Type 0
SessionGoes run s t c cut = (text : List ℕ) × CarriesOut run (session_of s t) c text (moved_to (session_of s t) cut)

-- a motion leads a thread alone to this stop; no watch is set, and the last stop doesn't say that the thread waits
pub record LeadsLone (run : List Step) (s : Stub) (t : ℕ) (m : Motion) (h : Halt) : Type 0 where
  pub whole : IsRunOf s.desk.fitted.guest s.desk.fitted.recorded run
  pub thread : t < threads_of s.desk.fitted
  pub watches : s.watches ≡ []
  pub free : waits s t ≡ false
  pub leads : LeadsAlone run s t m h

-- `c` ends where `cont T` does, if no breakpoint has conditions
abbrev pub ContinueIsSession : Type 0
ContinueIsSession = (run : List Step) (s : Stub) (t : ℕ) (h : Halt) → IsStub s → AllByRecursion (λ b. is_guarded b ≡ false) s.breaks
    → LeadsLone run s t motion.Continue h
    → (h.thread ≡ t) × SessionGoes run s t (command.Continue t Forwards) h.cut

-- `bc` ends where `rcont T` does, if no breakpoint has conditions
abbrev pub ContinueBackIsSession : Type 0
ContinueBackIsSession = (run : List Step) (s : Stub) (t : ℕ) (h : Halt) → IsStub s → AllByRecursion (λ b. is_guarded b ≡ false) s.breaks
    → LeadsLone run s t motion.ContinueBack h
    → (h.thread ≡ t) × SessionGoes run s t (command.Continue t Backwards) h.cut

-- nothing moves, where gdb moves the threads together and another has a hit on its way to where `step T 1` leads
abbrev pub StaysWhereItIs : List Step → Stub → ℕ → Halt → Type 0
StaysWhereItIs run s t h = (s.together ≡ true) × (h ≡ halt t s.desk.at reason.Waits)
    × ((cut : List ℕ) × SessionGoes run s t (command.Move (move.Step t 1)) cut × OtherHasHit true run s (pc_here run s t) cut t)

-- `s` ends where `step T 1` does, or nothing moves
abbrev pub StepIsSession : Type 0
StepIsSession = (run : List Step) (s : Stub) (t : ℕ) (h : Halt) → LeadsLone run s t motion.Step h
    → ((h.thread ≡ t) × SessionGoes run s t (command.Move (move.Step t 1)) h.cut) ⊎ StaysWhereItIs run s t h

-- `bs` ends where `back T 1` does
abbrev pub StepBackIsSession : Type 0
StepBackIsSession = (run : List Step) (s : Stub) (t : ℕ) (h : Halt) → LeadsLone run s t motion.StepBack h
    → (h.thread ≡ t) × SessionGoes run s t (command.Move (move.Back t 1)) h.cut

-- ---- threads that move together

-- no point stops thread u on its way to position k, nor there; and backwards no watch hits it where it is, if it moves
abbrev pub MeetsNone : List Step → Stub → Direction → ℕ → Bool → ℕ → Type 0
MeetsNone run s Forwards u watched k = NoneStopsWithin (StopsUpwards run s u watched) (suc (position_of s u)) (suc k)
MeetsNone run s Backwards u watched k = NoneStopsWithin (StopsDownwards run s u watched) k (position_of s u)
    × (k < position_of s u → NoneWithin s.desk.fitted run (watch_points u 0 (watches_if s watched)) u (position_of s u) (suc (position_of s u)))

-- none does before it comes to k
abbrev pub PassesNone : List Step → Stub → Direction → ℕ → Bool → ℕ → Type 0
PassesNone run s Forwards u watched k = NoneStopsWithin (StopsUpwards run s u watched) (suc (position_of s u)) k
PassesNone run s Backwards u watched k = NoneStopsWithin (StopsDownwards run s u watched) (suc k) (position_of s u)
    × (k < position_of s u → NoneWithin s.desk.fitted run (watch_points u 0 (watches_if s watched)) u (position_of s u) (suc (position_of s u)))

-- a move of thread t ends at a stop, and no thread has passed a hit. Watches of private memory are of thread t alone, those of the objects of all
pub record PassesNoHit (run : List Step) (s : Stub) (t : ℕ) (d : Direction) (h : Halt) : Type 0 where
  pub others : (u : ℕ) → u < threads_of s.desk.fitted → u ≢ h.thread → MeetsNone run s d u (u == t) (cut_of h.cut u)
  pub own : PassesNone run s d h.thread (h.thread == t) (cut_of h.cut h.thread)

-- the threads are at a consistent cut of a run with the trace
pub record Stands (run : List Step) (s : Stub) : Type 0 where
  pub whole : IsRunOf s.desk.fitted.guest s.desk.fitted.recorded run
  pub cut : IsCut (machine_of s.desk.fitted) (start_of s.desk.fitted) run (cut_of s.desk.at)
  pub consistent : Consistent (machine_of s.desk.fitted) (start_of s.desk.fitted) run (cut_of s.desk.at)

-- a move of the threads together passes no hit
abbrev pub NoHitIsPassed : Type 0
NoHitIsPassed = (run : List Step) (s : Stub) (t : ℕ) (m : Motion) (h : Halt) → Stands run s → t < threads_of s.desk.fitted → MovesAmong run s t m h
    → PassesNoHit run s t (direction_of m) h

-- where no other is met on the way of thread t to its own stop, no other has a hit there: hits don't all block each other
abbrev pub NoneIsBlocked : Type 0
NoneIsBlocked = (run : List Step) (s : Stub) (t : ℕ) (d : Direction) (each : List Stopped) (cut : List ℕ) → Stands run s → t < threads_of s.desk.fitted
    → AreStops run s d t each → Comes run s d t (stop_among each t).position cut → FirstMet run s d each cut t None
    → (u : ℕ) → u < threads_of s.desk.fitted → u ≢ t → meets s d each cut u ≡ false

-- ---- `continue` again and again

-- thread u is shown at position k, where a point hits it
abbrev pub ShowsHit : ℕ → ℕ → Halt → Type 0
ShowsHit u k h = (h.thread ≡ u) × (cut_of h.cut u ≡ k) × (is_hit h.reason ≡ true)

-- the stub behind the reply to a move of the threads together
abbrev pub stub_behind : Stub → Halt → Stub
stub_behind s h = with_together (arrived s true h) true

-- threads continue in a direction, one after the other, with these stops: each is at a hit but the last
unfoldable pub ContinuesToEnd : List Step → Stub → Direction → List (ℕ × Halt) → Type 0
ContinuesToEnd run s d [] = ⊥
ContinuesToEnd run s d (m ∷ []) = (m.0 < threads_of s.desk.fitted) × ContinuesAmong run s m.0 d m.1 × (is_hit m.1.reason ≡ false)
ContinuesToEnd run s d (m ∷ next ∷ ms) = (m.0 < threads_of s.desk.fitted) × ContinuesAmong run s m.0 d m.1 × (is_hit m.1.reason ≡ true)
    × ContinuesToEnd run (stub_behind s m.1) d (next ∷ ms)

-- a point without conditions hits thread u at position k, beyond its own
abbrev pub IsHitBeyond : List Step → Stub → Direction → ℕ → ℕ → Type 0
IsHitBeyond run s Forwards u k = (position_of s u < k) × ((n : ℕ) × HitByNumber s.desk.fitted run (upwards_of s u false) u k n × (has_guard n ≡ false))
IsHitBeyond run s Backwards u k = (k < position_of s u) × ((n : ℕ) × HitByNumber s.desk.fitted run (downwards_of s u false) u k n × (has_guard n ≡ false))

-- the stop of this number shows thread u so
abbrev pub ShowsAt : List (ℕ × Halt) → ℕ → ℕ → ℕ → Type 0
ShowsAt ms u k i = (m : ℕ × Halt) × (slice_get ms i ≡ Some m) × ShowsHit u k m.1

-- just one stop shows it
abbrev pub IsShownOnce : List (ℕ × Halt) → ℕ → ℕ → Type 0
IsShownOnce ms u k = (i : ℕ) × ShowsAt ms u k i × ((j : ℕ) → ShowsAt ms u k j → j ≡ i)

-- `continue` repeated to the end shows each hit of each thread at a point without conditions once; no watch is set
abbrev pub EachHitIsShownOnce : Type 0
EachHitIsShownOnce = (run : List Step) (s : Stub) (d : Direction) (ms : List (ℕ × Halt)) → Stands run s → s.watches ≡ [] → ContinuesToEnd run s d ms
    → (u k : ℕ) → u < threads_of s.desk.fitted → IsHitBeyond run s d u k → IsShownOnce ms u k

-- no stop shows what another has shown, with conditions or without
abbrev pub NoneIsShownTwice : Type 0
NoneIsShownTwice = (run : List Step) (s : Stub) (d : Direction) (ms : List (ℕ × Halt)) → Stands run s → s.watches ≡ [] → ContinuesToEnd run s d ms
    → (u k i j : ℕ) → ShowsAt ms u k i → ShowsAt ms u k j → i ≡ j

-- the points of a thread in a direction
abbrev pub directed_points : Direction → Stub → ℕ → List Numbered
directed_points Forwards s u = upwards_of s u false
directed_points Backwards s u = downwards_of s u false

-- only points with conditions hit thread u at position k
abbrev pub IsConditional : List Step → Stub → Direction → ℕ → ℕ → Type 0
IsConditional run s d u k = (n : ℕ) → HitByNumber s.desk.fitted run (directed_points d s u) u k n → has_guard n ≡ true

-- the thread of a stop is at a breakpoint of which a condition is met by what is there
abbrev pub IsConditionMet : List Step → Stub → Halt → Type 0
IsConditionMet run s h = (i : ℕ) × (b : Guarded) × (slice_get s.breaks i ≡ Some b)
    × (is_met_at (seen_at run s.desk.fitted (cut_of h.cut) h.thread) (thread_at s.desk.fitted run h.thread (cut_of h.cut h.thread)).core.pc b ≡ true)

-- where `continue` shows a hit at points with conditions alone, one of them is met; no watch is set
abbrev pub ShownConditionIsMet : Type 0
ShownConditionIsMet = (run : List Step) (s : Stub) (d : Direction) (t : ℕ) (h : Halt) → Stands run s → IsStub s → s.watches ≡ []
    → t < threads_of s.desk.fitted → ContinuesAmong run s t d h → is_hit h.reason ≡ true → IsConditional run s d h.thread (cut_of h.cut h.thread)
    → IsConditionMet run s h

-- ---- bad ends

-- where a move of the threads together comes to the end of the recording, and gdb is told only that there is no more history, no thread ended badly
abbrev pub NoBadEndIsHidden : Type 0
NoBadEndIsHidden = (run : List Step) (s : Stub) (who : Moving) (m : Motion) (next : Stub) → who.among ≡ true → Moves run s who m next
    → is_end_of_thread s.desk.fitted s.desk.at ≡ false → is_end_of_thread s.desk.fitted next.desk.at ≡ true → is_thread_over next.told.reason ≡ true
    → (t : ℕ) → t < threads_of s.desk.fitted → signal_of (end_of_thread s.desk.fitted t) ≡ None
