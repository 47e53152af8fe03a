-- The debugger between two commands, and the texts of its answers.
use Rattle.std.specs.Prelude.{◌≡◌, ◌≤◌, ◌<◌, ◌+◌, ℕ, ⊤, true, List, ◌++◌, length, codes, Option, None, Result, flat_map, ◌==◌, not, nat_le, if◌then◌else◌, Bool, find, is_some, [], ◌∷◌, take}
use Rattle.std.specs.List.{AllByRecursion, filter}
use Rattle.ir_runs.specs.Run.{Step}
use Rattle.ir_fit.specs.Fit.{FittedTrace, HasRun}
use Rattle.ir_cut.specs.Positions.{EachRun, IsConsistentCut, cut_of, machine_of, start_of, threads_of, last_of}
use Rattle.ir_hits.specs.Watchable.{AreWatchable}
use Rattle.ir_weave.specs.Standing.{Standing, StandsAtCut}
use Rattle.ir_timeline.specs.Hand.{IsCutOf}
use Rattle.ir_command.specs.declared.command.Command.{Command}
use Rattle.ir_command.specs.declared.command.Command.TheVariants as command
use Rattle.ir_command.specs.declared.command.Show.{Show}
use Rattle.ir_command.specs.declared.refusal.Refusal.{Refusal}
use Rattle.ir_debug.specs.declared.answer.Answer.{Answer}
use Rattle.ir_debug.specs.declared.answer.Answer.TheVariants.{Moved, Continued, Position, Shown, Next, Set, Cleared, Kept, Dropped, KeptCuts, Refused, Bye}
use Rattle.ir_text.specs.Texts.{refusal_text, number_line, positions_text, hit_text, stop_text}
use Rattle.ir_debug.specs.Machine as desk
use Rattle.ir_debug.specs.Machine.{Desk, most_kept, refusal_of, is_at_hand, show_text, kept_line, RepliesBy, StopsAt, spoken, stopped_text, thread_named}
use Rattle.ir_command.specs.Commands.{most_small}
use Rattle.ir_hits.specs.Hits.{Numbered}
use Rattle.ir_command.specs.declared.command.Direction.TheVariants.{Forwards, Backwards}
use Rattle.ir_command.specs.declared.command.Point.{Point}
use Rattle.ir_runs.specs.Run as run
use Rattle.ir_command.specs.declared.command.Move.{Move}
use Rattle.ir_command.specs.declared.hit.Hit.{Hit}
use Rattle.ir_runs.specs.Machine.{Label}

-- all kept cuts are such
abbrev pub AllKept : FittedTrace → List desk.Kept → Type 0
AllKept f kept = AllByRecursion (λ k. IsCutOf f k.cut) kept

-- what the small machine always holds
pub record IsDesk (d : Desk) : Type 0 where
  pub run : HasRun d.fitted
  pub size : length d.at ≡ threads_of d.fitted
  pub at : IsConsistentCut d.fitted d.at
  pub points : AreWatchable d.points
  pub kept : AllKept d.fitted d.kept
  pub few : length d.kept ≤ most_kept + 1

-- the small machine, and beside it the guest's threads and objects at some consistent cut
pub record Debugging : Type 0 where
  pub desk : Desk
  pub state : Standing

-- the guest at the small machine's cut
abbrev pub IsThere : Debugging → Type 0
IsThere d = StandsAtCut d.desk.fitted (cut_of d.desk.at) d.state

pub record IsDebugging (d : Debugging) : Type 0 where
  pub desk : IsDesk d.desk
  -- before the first answer, and after a move
  pub fresh : d.desk.fresh ≡ true → IsThere d

-- the answer to a move that led to this cut
abbrev pub moved_text : FittedTrace → Move → List ℕ → List ℕ
moved_text f move to = positions_text to ++ stopped_text f (thread_named (command.Move move)) to ++ codes "\n"

-- the answer to a thread that was continued, and came to this cut
abbrev pub continued_text : FittedTrace → ℕ → Option Hit → List ℕ → List ℕ
continued_text f t hit to = positions_text to ++ hit_text hit ++ stop_text (last_of f t) (cut_of to t) ++ codes "\n"

-- the text of an answer that the small machine gave and is then so, by the text of each show
abbrev pub text_by : (Show → List ℕ) → Desk → Answer → List ℕ
text_by text d (Moved move) = moved_text d.fitted move d.at
text_by text d (Continued t hit) = continued_text d.fitted t hit d.at
text_by text d (Set number) = number_line (codes "point ") number
text_by text d (Cleared number) = number_line (codes "cleared ") number
text_by text d Position = positions_text d.at ++ codes "\n"
text_by text d (Shown show) = text show
text_by text d (Next line) = line.items
text_by text d (Kept number) = number_line (codes "kept ") number
text_by text d (Dropped number) = number_line (codes "dropped ") number
text_by text d KeptCuts = flat_map kept_line d.kept
text_by text d (Refused refusal) = refusal_text refusal
text_by text d Bye = codes "bye\n"

-- the same, with what is shown of a run
abbrev pub answer_text : List Step → Desk → Answer → List ℕ
answer_text run d answer = text_by (show_text run d) d answer

-- what an answer that the debugger gave last speaks of is there
abbrev pub IsLast : Debugging → Answer → Type 0
IsLast d (Moved move) = refusal_of d.desk (command.Move move) ≡ None
IsLast d (Shown show) = (refusal_of d.desk (command.Show show) ≡ None) × (is_at_hand show ≡ true) × IsThere d
IsLast d (Continued t hit) = t < threads_of d.desk.fitted
IsLast d answer = ⊤

-- the answer's text, which is one for all runs, is so
abbrev pub IsText : Debugging → Answer → (List ℕ → Type 0) → Type 0
IsText d answer P = (text : List ℕ) × EachRun d.desk.fitted (λ run. text ≡ answer_text run d.desk answer) × P text

-- the debugger gave this answer to what a line asks: whichever run with the trace the small machine holds, it may say the same
pub record IsAnswer (asked : Result (Option Command) Refusal) (old new : Debugging) (answer : Answer) : Type 0 where
  pub fitted : new.desk.fitted ≡ old.desk.fitted
  pub answers : EachRun old.desk.fitted (λ run. RepliesBy asked run old.desk (answer_text run new.desk answer) new.desk)
  pub last : IsLast new answer

-- all points but that of a number
abbrev pub points_without : List Numbered → ℕ → List Numbered
points_without points n = filter (λ p. not (p.number == n)) points

-- all kept cuts but that of a number
abbrev pub without_cut : List desk.Kept → ℕ → List desk.Kept
without_cut kept n = filter (λ k. not (k.number == n)) kept

-- the last number that a point or a kept cut may be given
abbrev pub most_number : ℕ
most_number = most_small

-- to a position, by whether it isn't below the thread's
abbrev pub ToPosition : List Step → FittedTrace → List ℕ → ℕ → ℕ → List ℕ → Type 0
ToPosition steps f at t k to = StopsAt steps f at t (if nat_le (cut_of at t) k then Forwards else Backwards) k to

-- whether a point of this number is set
abbrev pub is_set : List Numbered → ℕ → Bool
is_set points n = is_some (find (λ p. p.number == n) points)

-- one more point is set, by the next number
abbrev pub with_point : Desk → Point → Desk
with_point d point = record (spoken d) { points = d.points ++ record { number = d.last_point + 1; point = point } ∷ []; last_point = d.last_point + 1 }

-- one is set no longer
abbrev pub without_point : Desk → ℕ → Desk
without_point d n = record (spoken d) { points = filter (λ p. not (p.number == n)) d.points }

-- the machine's cut is kept too, by the next number
abbrev pub with_kept : Desk → Desk
with_kept d = record (spoken d) { kept = d.kept ++ record { number = d.last_kept + 1; cut = d.at } ∷ []; last_kept = d.last_kept + 1 }

-- one is kept no longer
abbrev pub without_kept : Desk → ℕ → Desk
without_kept d n = record (spoken d) { kept = filter (λ k. not (k.number == n)) d.kept }

-- what thread t logged so far: of its first steps, as many as its position says
abbrev pub logged_so_far : List run.Step → Desk → ℕ → List Label
logged_so_far steps d t = run.events (take (cut_of d.at t) (run.trail (machine_of d.fitted) (start_of d.fitted) steps t))

-- the least cut at or above this one with thread t at k or more
abbrev pub ToLeast : List run.Step → FittedTrace → List ℕ → ℕ → ℕ → List ℕ → Type 0
ToLeast steps f at t k to = (length to ≡ threads_of f) × run.IsLeast (machine_of f) (start_of f) steps (cut_of at) t k (cut_of to)

-- the greatest cut at or below this one with thread t at k or less
abbrev pub ToGreatest : List run.Step → FittedTrace → List ℕ → ℕ → ℕ → List ℕ → Type 0
ToGreatest steps f at t k to = (length to ≡ threads_of f) × run.IsGreatest (machine_of f) (start_of f) steps (cut_of at) t k (cut_of to)
