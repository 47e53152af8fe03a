-- Replies that suit what a thread asks, and steps that are permitted.
use Rattle.std.specs.Prelude.{◌≡◌, ◌⊎◌, ℕ, zero, suc, ◌+◌, ◌≢◌, ◌<◌, ◌≤◌, true, List, length, Some, None, ⊤, Option, nat_le, if◌then◌else◌, [], ◌∷◌}
use Rattle.ir_image.specs.Guest.{most_objects, most_object_words}
use Rattle.ir_thread.specs.State.{held_at, highest, is_above, ThreadState, most_output, most_events, most_budget, after_reply, call_output}
use Rattle.ir_thread.specs.State.{call_at, outcome_ask, one_if_held, a1, a0, leave_held, has_word, a2, put_held, is_object, get_held}
use Rattle.ir_runs.specs.declared.access.Access.TheVariants.{Writing}
use Rattle.ir_thread.specs.declared.ask.Ask.{Ask}
use Rattle.ir_thread.specs.declared.ask.Ask.TheVariants as ask
use Rattle.ir_thread.specs.declared.ask.Reply.{Reply}
use Rattle.ir_thread.specs.declared.ask.Reply.TheVariants.{Go, Value}
use Rattle.ir_thread.specs.declared.end.End.{End}
use Rattle.ir_thread.specs.declared.profile.Profile.TheVariants.{Two}
use Rattle.ir_mach.specs.Core.{register}
use Rattle.ir_runs.specs.declared.access.Access.{Access}
use Rattle.ir_thread.specs.declared.end.End.TheVariants.{BudgetSpent, NoSuchObject, Exit, Breakpoint, IllegalWord, TargetMisaligned}
use Rattle.ir_thread.specs.declared.end.End.TheVariants.{OutsideCode, BadLoad, BadStore, UnknownCall, EntryOutOfOrder, NotHeld, OutputFull}
use Rattle.ir_thread.specs.declared.end.End.TheVariants.{LogFull}
use Rattle.std.specs.List.{sum_by}
use Rattle.ir_mach.specs.Execution.{outcome_of}

-- the most steps that a thread takes once its budget is spent: its end, and a leave for each object
abbrev pub most_closing : ℕ
most_closing = 1 + most_objects

-- the most steps that a thread takes
abbrev pub most_steps : ℕ
most_steps = most_budget + most_closing

-- ---- what a thread asks

-- a thread that hasn't ended, and has a step left
pub record IsRunning (s : ThreadState) : Type 0 where
  pub lives : s.ended ≡ None
  pub has_budget : s.steps < s.budget

-- there is room for an event
abbrev pub CanLog : ThreadState → Type 0
CanLog s = s.events < most_events

-- what the call that the thread makes prints
abbrev pub next_output : ThreadState → List ℕ
next_output s = call_output (call_at s) s

-- where a thread asks so: what it holds and has room for, and that its profile has the call
abbrev pub Permits : ThreadState → Ask → Type 0
Permits s ask.Private = IsRunning s
Permits s (ask.Env kind) = IsRunning s × CanLog s
Permits s (ask.Enter object access) = IsRunning s × CanLog s × (object < length s.held) × (is_above (highest s.held) object ≡ true)
Permits s (ask.Try object) = IsRunning s × CanLog s × (object < length s.held) × (is_above (highest s.held) object ≡ true)
    × (s.profile ≡ Two)
Permits s (ask.Leave object access) = (s.ended ≡ None → s.steps < s.budget) × (object < length s.held)
    × (held_at s.held object ≡ Some access)
Permits s (ask.Get object index) = IsRunning s × (object < length s.held) × (index < most_object_words) × (held_at s.held object ≢ None)
Permits s (ask.Put object index value) = IsRunning s × (object < length s.held) × (index < most_object_words)
    × (held_at s.held object ≡ Some Writing)
Permits s ask.Print = IsRunning s × (length s.output + length (next_output s) ≤ most_output)
Permits s (ask.End e) = s.ended ≡ None
Permits s ask.Done = (s.ended ≢ None) × (highest s.held ≡ None)

-- ---- what comes after it

-- the reply brings a value
abbrev pub IsValue : Reply → Type 0
IsValue Go = ⊥
IsValue (Value value) = ⊤

-- the reply fits what is asked: a value where one is wanted, 1 or 0 to a try, leave to go elsewhere, and nothing where there is no step
abbrev pub ReplySuits : Ask → Reply → Type 0
ReplySuits (ask.Env kind) reply = IsValue reply
ReplySuits (ask.Try object) reply = (reply ≡ Value 1) ⊎ (reply ≡ Value 0)
ReplySuits (ask.Get object index) reply = IsValue reply
ReplySuits ask.Done reply = ⊥
ReplySuits _ reply = reply ≡ Go

-- the thread after a step that is answered no value
unfoldable pub step_of : List ℕ → ThreadState → ThreadState
step_of code s = after_reply code s Go

-- the thread after n steps that are answered no value
unfoldable pub run_of : List ℕ → ℕ → ThreadState → ThreadState
run_of code zero s = s
run_of code (suc k) s = step_of code (run_of code k s)

-- how many objects are held
abbrev pub held_count : List (Option Access) → ℕ
held_count held = sum_by one_if_held held

-- the register that holds a call's number
abbrev pub a7 : ThreadState → ℕ
a7 s = register s.core 17

-- what a thread that hasn't ended asks: the budget is tested first
abbrev pub running_ask : List ℕ → ThreadState → Ask
running_ask code s = if nat_le s.budget s.steps then ask.End BudgetSpent else outcome_ask (outcome_of code s.core) s

-- leaving an object that is held
abbrev pub leave_ask : ThreadState → Ask
leave_ask s = if is_object s (a0 s) then leave_held (a0 s) (held_at s.held (a0 s)) else ask.End NoSuchObject

-- reading a word of an object that is held
abbrev pub get_ask : ThreadState → Ask
get_ask s = if has_word s then get_held (a0 s) (a1 s) (held_at s.held (a0 s)) else ask.End NoSuchObject

-- writing a word of an object that is held for writing
abbrev pub put_ask : ThreadState → Ask
put_ask s = if has_word s then put_held (a0 s) (a1 s) (a2 s) (held_at s.held (a0 s)) else ask.End NoSuchObject

-- the ends that a code may go with
abbrev pub ends_with : ℕ → List End
ends_with code = Exit code ∷ Breakpoint ∷ IllegalWord ∷ TargetMisaligned ∷ OutsideCode ∷ BadLoad ∷ BadStore ∷ UnknownCall ∷ NoSuchObject
    ∷ EntryOutOfOrder ∷ NotHeld ∷ OutputFull ∷ BudgetSpent ∷ LogFull ∷ []
