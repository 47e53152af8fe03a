-- The small machine: a guest with its trace and a position of each thread, and what it answers to each command, for each run with the trace.
use Rattle.std.specs.Prelude.{◌==◌, ℕ, ◌+◌, not, Bool, true, false, List, [], ◌∷◌, ◌++◌, find, is_some, Option, option_map, ◌&&◌, ◌||◌, ◌*◌}
use Rattle.std.specs.Prelude.{◌%◌, nat_le, nat_lt, length, Some, None, if◌then◌else◌, ◌≡◌, ◌-◌, min, take, ◌⊎◌, codes, decimal, Result, Ok}
use Rattle.std.specs.Prelude.{Err, ◌≢◌, unwrap_or, flat_map}
use Rattle.std.specs.List.{filter}
use Rattle.ir_fit.specs.Fit.{FittedTrace, HasRun, IsRefused}
use Rattle.ir_command.specs.Commands.{most_small, command_of}
use Rattle.ir_hits.specs.Hits.{Numbered, Finds}
use Rattle.ir_cut.specs.Positions.{first_cut, threads_of, last_of, last_cut, machine_of, start_of, cut_of, EachRun, thread_at}
use Rattle.ir_image.specs.Guest.{Guest, code_start, object_count, object_words, guest_at, image_fault_number}
use Rattle.ir_mach.specs.Execution.{lies_in_memory}
use Rattle.ir_command.specs.declared.command.Command.{Command}
use Rattle.ir_command.specs.declared.command.Command.TheVariants as command
use Rattle.ir_command.specs.declared.command.Move.TheVariants.{Step, Back, Goto, Start, End}
use Rattle.ir_command.specs.declared.command.Point.TheVariants.{Break, Watch, WatchObject}
use Rattle.ir_command.specs.declared.command.Show.{Show}
use Rattle.ir_command.specs.declared.command.Show.TheVariants.{Registers, Memory, Object, Output, Log, Next}
use Rattle.ir_command.specs.declared.command.Keeping.TheVariants.{Keep, Load, Drop, Kept as AllKept}
use Rattle.ir_command.specs.declared.refusal.Refusal.{Refusal}
use Rattle.ir_command.specs.declared.refusal.Refusal.TheVariants.{NoSuchThread, NoSuchObject, NoSuchNumber, BadAddress, Full, NoMemory}
use Rattle.ir_runs.specs.Run as runs
use Rattle.ir_command.specs.declared.command.Direction.{Direction}
use Rattle.ir_command.specs.declared.command.Direction.TheVariants.{Forwards, Backwards}
use Rattle.ir_command.specs.declared.command.Move.{Move}
use Rattle.ir_command.specs.declared.hit.Hit.{Hit}
use Rattle.ir_thread.specs.State.{ThreadState}
use Rattle.ir_text.specs.Texts.{core_text, memory_text, output_text, object_text, log_text, next_text, bytes_from, refusal_text, number_line, positions_text, hit_text, stop_text, verdict_text}
use Rattle.ir_image.specs.declared.image_err.ImageErr.{ImageErr}
use Rattle.ir_image.specs.declared.image_err.ImageErr.TheVariants as image_err
use Rattle.ir_trace.specs.Recorded.{Recorded, recorded_at, trace_fault_number}
use Rattle.ir_trace.specs.declared.trace_err.TraceErr.{TraceErr}
use Rattle.ir_trace.specs.declared.trace_err.TraceErr.TheVariants as trace_err
use Rattle.ir_fit.specs.declared.fit_err.FitErr.TheVariants.{Refused}
use Rattle.ir_fit.specs.declared.verdict.Verdict.{Verdict}

-- a kept cut, and the number by which it is asked for
pub record Kept : Type 0 where
  pub number : ℕ
  pub cut : List ℕ

pub record Desk : Type 0 where
  -- the guest and its trace; that there is a run says `OpensFit`
  pub fitted : FittedTrace
  -- the position of each thread: a consistent cut
  pub at : List ℕ
  -- whether it has given no answer yet, or its last was that of a move, of cont, rcont or load
  pub fresh : Bool
  -- the points that are set, the last at the end
  pub points : List Numbered
  -- the last number that a point was given, or 0
  pub last_point : ℕ
  -- the kept cuts, by rising numbers
  pub kept : List Kept
  -- the last number that a kept cut was given, or 0
  pub last_kept : ℕ

-- at the start, which is kept as 0
abbrev pub desk_of : FittedTrace → Desk
desk_of f = record {
  fitted = f;
  at = first_cut f;
  fresh = true;
  points = [];
  last_point = 0;
  kept = record { number = 0; cut = first_cut f } ∷ [];
  last_kept = 0;
}

-- after a move to this cut
abbrev pub moved_to : Desk → List ℕ → Desk
moved_to d at = record d { at = at; fresh = true }

-- after any other answer
abbrev pub spoken : Desk → Desk
spoken d = record d { fresh = false }

-- the kept cut of a number
abbrev pub kept_cut : List Kept → ℕ → Option (List ℕ)
kept_cut kept n = option_map (λ k. k.cut) (find (λ k. k.number == n) kept)

-- the most that are kept beside the start
abbrev pub most_kept : ℕ
most_kept = 64

-- the most points that are set
abbrev pub most_points : ℕ
most_points = 64

-- a test of what is named, if anything is
abbrev pub if_some : Option ℕ → (ℕ → Bool) → Bool
if_some None test = true
if_some (Some x) test = test x

-- ---- what a command names

-- the thread that is moved, that something is shown of, or whose pc or word a point looks at
abbrev pub thread_named : Command → Option ℕ
thread_named (command.Move (Step thread count)) = Some thread
thread_named (command.Move (Back thread count)) = Some thread
thread_named (command.Move (Goto thread position)) = Some thread
thread_named (command.Continue thread direction) = Some thread
thread_named (command.Set (Break thread address)) = Some thread
thread_named (command.Set (Watch thread address)) = Some thread
thread_named (command.Show (Registers thread)) = Some thread
thread_named (command.Show (Memory thread address size)) = Some thread
thread_named (command.Show (Output thread)) = Some thread
thread_named (command.Show (Log thread)) = Some thread
thread_named (command.Show (Next thread)) = Some thread
thread_named c = None

-- the object that is shown, or that a point looks at
abbrev pub object_named : Command → Option ℕ
object_named (command.Show (Object object)) = Some object
object_named (command.Set (WatchObject object)) = Some object
object_named c = None

-- ---- the tests

-- a point is set, or a cut kept, by the number; the start isn't dropped
abbrev pub has_number : Desk → Command → Bool
has_number d (command.Clear n) = is_some (find (λ p. p.number == n) d.points)
has_number d (command.Keeping (Load n)) = is_some (kept_cut d.kept n)
has_number d (command.Keeping (Drop n)) = not (n == 0) && is_some (kept_cut d.kept n)
has_number d c = true

-- there is place for one more, and a number by which a command can name it
abbrev pub has_place : Desk → Command → Bool
has_place d (command.Set point) = nat_lt (length d.points) most_points && nat_lt d.last_point most_small
has_place d (command.Keeping Keep) = nat_lt (length d.kept) (most_kept + 1) && nat_lt d.last_kept most_small
has_place d c = true

-- width bytes from an address on lie in the code
abbrev pub lies_in_code : Guest → ℕ → ℕ → Bool
lies_in_code g width address = nat_le code_start address && nat_le (address + width) (code_start + 4 * length g.code)

-- bytes are shown of the code or of private memory; a breakpoint is at a word of the code, a watchpoint at one of private memory
abbrev pub has_address : Guest → Command → Bool
has_address g (command.Show (Memory thread address size)) = lies_in_code g size address || lies_in_memory size address
has_address g (command.Set (Break thread address)) = (address % 4 == 0) && lies_in_code g 4 address
has_address g (command.Set (Watch thread address)) = (address % 4 == 0) && lies_in_memory 4 address
has_address g c = true

-- why a command is refused, if it is
unfoldable pub refusal_of : Desk → Command → Option Refusal
refusal_of d c =
    if not (if_some (thread_named c) (λ t. nat_lt t (threads_of d.fitted))) then Some NoSuchThread else
    if not (if_some (object_named c) (λ o. nat_lt o (object_count d.fitted.guest))) then Some NoSuchObject else
    if not (has_number d c) then Some NoSuchNumber else
    if not (has_address d.fitted.guest c) then Some BadAddress else
    if not (has_place d c) then Some Full else None

-- whether it is a show of what is at hand after a move; the text of an instruction takes memory
abbrev pub is_at_hand : Show → Bool
is_at_hand (Next thread) = false
is_at_hand show = true

-- whether a command that isn't refused otherwise may be refused for lack of memory
abbrev pub may_lack : Desk → Command → Bool
may_lack d (command.Move move) = true
may_lack d (command.Continue thread direction) = true
may_lack d (command.Show show) = not (d.fresh && is_at_hand show)
may_lack d (command.Keeping Keep) = true
may_lack d (command.Keeping (Load n)) = true
may_lack d c = false

-- ---- moves

-- the least consistent cut at or above this one with thread t at k or more, or the greatest consistent one at or below it with t at k or less
abbrev pub StopsAt : List runs.Step → FittedTrace → List ℕ → ℕ → Direction → ℕ → List ℕ → Type 0
StopsAt run f at t Forwards k to = (length to ≡ threads_of f) × runs.IsLeast (machine_of f) (start_of f) run (cut_of at) t k (cut_of to)
StopsAt run f at t Backwards k to = (length to ≡ threads_of f) × runs.IsGreatest (machine_of f) (start_of f) run (cut_of at) t k (cut_of to)

-- a move that isn't refused leads from this cut to that
abbrev pub Leads : List runs.Step → FittedTrace → List ℕ → Move → List ℕ → Type 0
Leads run f at (Step t count) to = StopsAt run f at t Forwards (min (cut_of at t + count) (last_of f t)) to
Leads run f at (Back t count) to = StopsAt run f at t Backwards (cut_of at t - count) to
Leads run f at (Goto t k) to = let stop = min k (last_of f t) in
    StopsAt run f at t (if nat_le (cut_of at t) stop then Forwards else Backwards) stop to
Leads run f at Start to = to ≡ first_cut f
Leads run f at End to = to ≡ last_cut f

-- where it stops: at the hit; without one at its last position, or at 0
abbrev pub stop_of : FittedTrace → ℕ → Direction → Option Hit → ℕ
stop_of f t direction (Some hit) = hit.position
stop_of f t Forwards None = last_of f t
stop_of f t Backwards None = 0

-- thread t, continued in this direction, finds this hit, and all threads come to this cut
abbrev pub Continues : List runs.Step → Desk → ℕ → Direction → Option Hit → List ℕ → Type 0
Continues run d t direction hit to = Finds run d.fitted d.points t (cut_of d.at t) direction hit
    × StopsAt run d.fitted d.at t direction (stop_of d.fitted t direction hit) to

-- ---- what is shown

-- thread t at its position
abbrev pub current : List runs.Step → Desk → ℕ → ThreadState
current run d t = thread_at d.fitted run t (cut_of d.at t)

-- the answer to a show that isn't refused
unfoldable pub show_text : List runs.Step → Desk → Show → List ℕ
show_text run d (Registers t) = core_text (current run d t).core
show_text run d (Memory t address size) = memory_text address (bytes_from d.fitted.guest.code (current run d t).core.memory size address)
show_text run d (Object o) = object_text (threads_of d.fitted) (object_words d.fitted.guest)
    (runs.object_at (machine_of d.fitted) (start_of d.fitted) run (cut_of d.at) o)
show_text run d (Output t) = output_text (current run d t).output
show_text run d (Log t) = log_text (runs.events (take (cut_of d.at t) (runs.trail (machine_of d.fitted) (start_of d.fitted) run t)))
    (length (runs.log (machine_of d.fitted) (start_of d.fitted) run t))
show_text run d (Next t) = next_text d.fitted.guest.code (current run d t)

-- where the thread that a move names has stopped
abbrev pub stopped_text : FittedTrace → Option ℕ → List ℕ → List ℕ
stopped_text f (Some t) at = stop_text (last_of f t) (cut_of at t)
stopped_text f None at = []

-- a kept cut: its number, and the positions
abbrev pub kept_line : Kept → List ℕ
kept_line k = decimal k.number ++ codes " " ++ positions_text k.cut ++ codes "\n"

-- ---- answers

-- this is answered, and the machine is then so
abbrev pub AnswersWith : List ℕ → Desk → List ℕ → Desk → Type 0
AnswersWith answer after text next = (text ≡ answer) × (next ≡ after)

-- a command that isn't refused is answered so
abbrev pub CarriesOut : List runs.Step → Desk → Command → List ℕ → Desk → Type 0
CarriesOut run d (command.Move move) text next = (to : List ℕ) × Leads run d.fitted d.at move to
    × AnswersWith (positions_text to ++ stopped_text d.fitted (thread_named (command.Move move)) to ++ codes "\n") (moved_to d to) text next
CarriesOut run d (command.Continue t direction) text next = (to : List ℕ) × (hit : Option Hit) × Continues run d t direction hit to
    × AnswersWith (positions_text to ++ hit_text hit ++ stop_text (last_of d.fitted t) (cut_of to t) ++ codes "\n") (moved_to d to) text next
CarriesOut run d (command.Set point) text next = AnswersWith (number_line (codes "point ") (d.last_point + 1))
    (record (spoken d) { points = d.points ++ record { number = d.last_point + 1; point = point } ∷ []; last_point = d.last_point + 1 }) text next
CarriesOut run d (command.Clear n) text next = AnswersWith (number_line (codes "cleared ") n)
    (record (spoken d) { points = filter (λ p. not (p.number == n)) d.points }) text next
CarriesOut run d command.Position text next = AnswersWith (positions_text d.at ++ codes "\n") (spoken d) text next
CarriesOut run d (command.Show show) text next = AnswersWith (show_text run d show) (spoken d) text next
CarriesOut run d (command.Keeping Keep) text next = AnswersWith (number_line (codes "kept ") (d.last_kept + 1))
    (record (spoken d) { kept = d.kept ++ record { number = d.last_kept + 1; cut = d.at } ∷ []; last_kept = d.last_kept + 1 }) text next
CarriesOut run d (command.Keeping (Load n)) text next = (to : List ℕ) × (kept_cut d.kept n ≡ Some to)
    × AnswersWith (positions_text to ++ codes "\n") (moved_to d to) text next
CarriesOut run d (command.Keeping (Drop n)) text next = AnswersWith (number_line (codes "dropped ") n)
    (record (spoken d) { kept = filter (λ k. not (k.number == n)) d.kept }) text next
CarriesOut run d (command.Keeping AllKept) text next = AnswersWith (flat_map kept_line d.kept) (spoken d) text next
CarriesOut run d command.Quit text next = AnswersWith (codes "bye\n") (spoken d) text next

-- a refusal, after which the machine is where it was
abbrev pub Refuses : Refusal → Desk → List ℕ → Desk → Type 0
Refuses r d text next = AnswersWith (refusal_text r) (spoken d) text next

-- the answer by whether the command is refused; where memory runs out, if it may
abbrev pub AnswersBy : Option Refusal → List runs.Step → Desk → Command → List ℕ → Desk → Type 0
AnswersBy (Some r) run d c text next = Refuses r d text next
AnswersBy None run d c text next = CarriesOut run d c text next ⊎ ((may_lack d c ≡ true) × Refuses NoMemory d text next)

-- the machine may answer a command so, and is then the next
unfoldable pub AnswersCommand : List runs.Step → Desk → Command → List ℕ → Desk → Type 0
AnswersCommand run d c text next = AnswersBy (refusal_of d c) run d c text next

-- the answer by what a line asks; one without words has none
abbrev pub RepliesBy : Result (Option Command) Refusal → List runs.Step → Desk → List ℕ → Desk → Type 0
RepliesBy (Ok (Some c)) run d text next = AnswersCommand run d c text next
RepliesBy (Ok None) run d text next = AnswersWith [] d text next
RepliesBy (Err r) run d text next = Refuses r d text next

-- the machine may answer a line so, whichever run has the trace
unfoldable pub Replies : Desk → List ℕ → List ℕ → Desk → Type 0
Replies d line text next = EachRun d.fitted (λ run. RepliesBy (command_of line) run d text next)

-- whether a line quits
abbrev pub quits_by : Result (Option Command) Refusal → Bool
quits_by (Ok (Some command.Quit)) = true
quits_by asked = false

unfoldable pub quits : List ℕ → Bool
quits line = quits_by (command_of line)

pub data Opening : Type 0 where
  ImageRefused : (error : ImageErr) → Opening
  TraceRefused : (error : TraceErr) → Opening
  Unfit : (verdict : Verdict) → Opening
  Ready : (desk : Desk) → Opening

-- a trace of one of the guest's complete runs makes the machine ready; of any other the verdict is shown
abbrev pub OpensFit : Guest → Recorded → Opening → Type 0
OpensFit guest r (Ready d) = (f : FittedTrace) × (f.guest ≡ guest) × (f.recorded ≡ r) × HasRun f × (d ≡ desk_of f)
OpensFit guest r (Unfit v) = IsRefused guest r (Refused v)
OpensFit guest r opening = ⊥

abbrev pub OpensTrace : Guest → Result Recorded TraceErr → Opening → Type 0
OpensTrace guest (Ok r) opening = OpensFit guest r opening
OpensTrace guest (Err e) opening = (e ≢ trace_err.NoMem) × (opening ≡ TraceRefused e)

abbrev pub OpensImage : Result Guest ImageErr → Result Recorded TraceErr → Opening → Type 0
OpensImage (Ok guest) r opening = OpensTrace guest r opening
OpensImage (Err e) r opening = (e ≢ image_err.NoMem) × (opening ≡ ImageRefused e)

-- the image is judged first, then the trace, then the fit
unfoldable pub Opens : List ℕ → List ℕ → Opening → Type 0
Opens image_bytes trace_bytes opening = OpensImage (guest_at image_bytes) (recorded_at trace_bytes) opening

-- the lines that a session begins with
abbrev pub opening_text : Opening → List ℕ
opening_text (ImageRefused e) = number_line (codes "image refused ") (unwrap_or (image_fault_number e) 0)
opening_text (TraceRefused e) = number_line (codes "trace refused ") (unwrap_or (trace_fault_number e) 0)
opening_text (Unfit v) = verdict_text v
opening_text (Ready d) = codes "ready\n"
