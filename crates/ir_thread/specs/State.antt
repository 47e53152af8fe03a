-- A thread, however the code keeps it: what it is at one moment, what it asks, and what it is after the reply.
use Rattle.std.specs.Prelude.{ℕ, List, [], replicate, Option, None, ◌==◌, ◌&&◌, ◌∷◌, find, suc, Bool, true, Some, nat_lt, ◌≤◌, length, ◌+◌}
use Rattle.std.specs.Prelude.{◌%◌, ◌^◌, ◌++◌, slice_set, nat_le, if◌then◌else◌, ◌||◌, option_map}
use Rattle.ir_image.specs.Guest.{Guest, object_count, limits_of}
use Rattle.ir_image.specs.declared.form.ImageForm.{ImageForm}
use Rattle.ir_mach.specs.Core.{Core, start_core, Outcome, Goes, Calls, Ends, register}
use Rattle.ir_runs.specs.declared.access.Access.{Access}
use Rattle.ir_thread.specs.declared.end.End.{End}
use Rattle.ir_thread.specs.declared.profile.Profile.{Profile}
use Rattle.ir_mach.specs.declared.outcome.Fault.{Fault}
use Rattle.ir_mach.specs.declared.outcome.Fault.TheVariants as fault
use Rattle.ir_thread.specs.declared.end.End.TheVariants.{Exit, Breakpoint, IllegalWord, TargetMisaligned, OutsideCode, BadLoad, BadStore}
use Rattle.ir_thread.specs.declared.end.End.TheVariants.{UnknownCall, NoSuchObject, EntryOutOfOrder, NotHeld, OutputFull, BudgetSpent}
use Rattle.ir_thread.specs.declared.end.End.TheVariants.{LogFull}
use Rattle.std.specs.List.{slice_index_or, sum_by}
use Rattle.ir_image.specs.declared.form.ImageForm.TheVariants.{Small, Large}
use Rattle.ir_thread.specs.declared.profile.Profile.TheVariants.{One, Two}
use Rattle.std.specs.Fmt.{signed_decimal}
use Rattle.ir_mach.specs.Execution.{outcome_of, past_call, signed}
use Rattle.ir_runs.specs.declared.access.Access.TheVariants.{Reading, Writing}
use Rattle.ir_thread.specs.declared.ask.Ask.{Ask}
use Rattle.ir_thread.specs.declared.ask.Ask.TheVariants as ask
use Rattle.ir_runs.specs.declared.env_kind.EnvKind.TheVariants.{Clock, Random, Input}
use Rattle.ir_thread.specs.declared.ask.Reply.{Reply}
use Rattle.ir_thread.specs.declared.ask.Reply.TheVariants.{Go, Value}
use Rattle.ir_thread.specs.declared.call.Call.{Call}
use Rattle.ir_thread.specs.declared.call.Call.TheVariants as call
use Rattle.ir_runs.specs.Machine as machine
use Rattle.ir_runs.specs.declared.env_kind.EnvKind.{EnvKind}

-- a thread at one moment
pub record ThreadState : Type 0 where
  pub core : Core
  -- the thread's number
  pub number : ℕ
  -- for each object of the guest, what the thread is inside for, if it is inside
  pub held : List (Option Access)
  -- how many steps it may take before it ends
  pub budget : ℕ
  -- which system calls there are
  pub profile : Profile
  -- the form of the guest's image, which says how many words an object has
  pub form : ImageForm
  -- how many steps it has taken: its position
  pub steps : ℕ
  -- how many events it has logged
  pub events : ℕ
  -- the bytes that it has printed
  pub output : List ℕ
  pub ended : Option End

-- a thread of the guest at its start
abbrev pub start_state : Guest → ℕ → ℕ → Profile → ThreadState
start_state guest thread budget profile = record {
  core = start_core guest thread;
  number = thread;
  held = replicate (object_count guest) None;
  budget = budget;
  profile = profile;
  form = guest.form;
  steps = 0;
  events = 0;
  output = [];
  ended = None;
}

-- the number of an end
abbrev pub end_number : End → ℕ
end_number (Exit code) = 1
end_number Breakpoint = 2
end_number IllegalWord = 3
end_number TargetMisaligned = 4
end_number OutsideCode = 5
end_number BadLoad = 6
end_number BadStore = 7
end_number UnknownCall = 8
end_number NoSuchObject = 9
end_number EntryOutOfOrder = 10
end_number NotHeld = 11
end_number OutputFull = 12
end_number BudgetSpent = 13
end_number LogFull = 14

-- the code that goes with the number of an end
abbrev pub end_code : End → ℕ
end_code (Exit code) = code
end_code end = 0

-- the end of a number and a code, if there is one
abbrev pub end_of : ℕ → ℕ → Option End
end_of number code = find (λ end. (end_number end == number) && (end_code end == code))
    (Exit code ∷ Breakpoint ∷ IllegalWord ∷ TargetMisaligned ∷ OutsideCode ∷ BadLoad ∷ BadStore ∷ UnknownCall ∷ NoSuchObject
    ∷ EntryOutOfOrder ∷ NotHeld ∷ OutputFull ∷ BudgetSpent ∷ LogFull ∷ [])

-- the end that a fault of an instruction is
abbrev pub end_of_fault : Fault → End
end_of_fault fault.Breakpoint = Breakpoint
end_of_fault fault.IllegalWord = IllegalWord
end_of_fault fault.TargetMisaligned = TargetMisaligned
end_of_fault fault.OutsideCode = OutsideCode
end_of_fault fault.BadLoad = BadLoad
end_of_fault fault.BadStore = BadStore

-- how an object is held, if it is
abbrev pub held_at : List (Option Access) → ℕ → Option Access
held_at held object = slice_index_or held object None

-- the greatest of the first object and those after it
abbrev pub higher_of : Option Access → Option (ℕ × Access) → Option (ℕ × Access)
higher_of first (Some (object, access)) = Some (suc object, access)
higher_of (Some access) None = Some (0, access)
higher_of None None = None

-- the greatest object that is held, and how
abbrev pub highest : List (Option Access) → Option (ℕ × Access)
highest [] = None
highest (first ∷ others) = higher_of first (highest others)

-- whether an object is greater than the greatest that is held
abbrev pub is_above : Option (ℕ × Access) → ℕ → Bool
is_above None object = true
is_above (Some top) object = nat_lt top.0 object

-- 1 for an object that is held
abbrev pub one_if_held : Option Access → ℕ
one_if_held None = 0
one_if_held (Some access) = 1

-- the form of images that has as many threads and objects as the profile's traces may have
abbrev pub largest : Profile → ImageForm
largest One = Small
largest Two = Large

-- a guest with no more threads and objects than these
abbrev pub IsAllowed : Profile → Guest → Type 0
IsAllowed profile g = (length g.entries ≤ (limits_of (largest profile)).threads) × (object_count g ≤ (limits_of (largest profile)).objects)

-- call 13, which the second profile alone has
abbrev pub try_call : Profile → Option Call
try_call One = None
try_call Two = Some call.TryWrite

-- the system calls of a profile by their numbers; PUTC, PUTN and SELF are PutByte, PutNumber and OwnNumber
abbrev pub call_of : Profile → ℕ → Option Call
call_of profile number =
    if number == 1 then Some call.End else
    if number == 2 then Some call.PutByte else
    if number == 3 then Some call.PutNumber else
    if number == 4 then Some (call.Env Clock) else
    if number == 5 then Some (call.Env Random) else
    if number == 6 then Some (call.Env Input) else
    if number == 7 then Some (call.Enter Reading) else
    if number == 8 then Some (call.Enter Writing) else
    if number == 9 then Some call.Leave else
    if number == 10 then Some call.Get else
    if number == 11 then Some call.Put else
    if number == 12 then Some call.OwnNumber else
    if number == 13 then try_call profile else None

-- the first argument of a call
abbrev pub a0 : ThreadState → ℕ
a0 s = register s.core 10

-- the second argument
abbrev pub a1 : ThreadState → ℕ
a1 s = register s.core 11

-- the third argument
abbrev pub a2 : ThreadState → ℕ
a2 s = register s.core 12

-- the call that the thread makes if it is at one; x17, which is a7, holds its number
abbrev pub call_at : ThreadState → Option Call
call_at s = call_of s.profile (register s.core 17)

-- the most bytes that a thread may print
abbrev pub most_output : ℕ
most_output = 65536

-- the most events that a thread may log
abbrev pub most_events : ℕ
most_events = 1048576

-- the most steps that a thread's budget may be
abbrev pub most_budget : ℕ
most_budget = 1000000000000

-- the low byte of a0
abbrev pub byte_text : ThreadState → List ℕ
byte_text s = (a0 s % 2 ^ 8) ∷ []

-- a0 as a signed decimal number, and a line feed
abbrev pub number_text : ThreadState → List ℕ
number_text s = signed_decimal (signed (a0 s)) ++ 10 ∷ []

-- what a call prints
abbrev pub call_output : Option Call → ThreadState → List ℕ
call_output (Some call.PutByte) s = byte_text s
call_output (Some call.PutNumber) s = number_text s
call_output _ s = []

-- printing `count` bytes, if there is room for them
abbrev pub print_ask : ThreadState → ℕ → Ask
print_ask s count = if nat_le (length s.output + count) most_output then ask.Print else ask.End OutputFull

-- a call that is logged, where there is room for it
abbrev pub logged_ask : ThreadState → Ask → Ask
logged_ask s q = if nat_lt s.events most_events then q else ask.End LogFull

-- whether the guest has an object of this number
abbrev pub is_object : ThreadState → ℕ → Bool
is_object s object = nat_lt object (length s.held)

-- an entry to object a0, where it is above all that are held
abbrev pub entry_ask : ThreadState → Ask → Ask
entry_ask s q =
    if is_object s (a0 s)
    then (if is_above (highest s.held) (a0 s) then logged_ask s q else ask.End EntryOutOfOrder)
    else ask.End NoSuchObject

-- leaving, by how the object is held
abbrev pub leave_held : ℕ → Option Access → Ask
leave_held object None = ask.End NotHeld
leave_held object (Some access) = ask.Leave object access

-- whether object a0 has a word a1
abbrev pub has_word : ThreadState → Bool
has_word s = is_object s (a0 s) && nat_lt (a1 s) (limits_of s.form).words

-- reading, by how the object is held
abbrev pub get_held : ℕ → ℕ → Option Access → Ask
get_held object index None = ask.End NotHeld
get_held object index (Some access) = ask.Get object index

-- writing, by how the object is held
abbrev pub put_held : ℕ → ℕ → ℕ → Option Access → Ask
put_held object index value (Some Writing) = ask.Put object index value
put_held object index value held = ask.End NotHeld

-- what a system call asks
abbrev pub call_ask : Option Call → ThreadState → Ask
call_ask None s = ask.End UnknownCall
call_ask (Some call.End) s = ask.End (Exit (a0 s))
call_ask (Some call.PutByte) s = print_ask s (length (byte_text s))
call_ask (Some call.PutNumber) s = print_ask s (length (number_text s))
call_ask (Some (call.Env kind)) s = logged_ask s (ask.Env kind)
call_ask (Some (call.Enter access)) s = entry_ask s (ask.Enter (a0 s) access)
call_ask (Some call.Leave) s = if is_object s (a0 s) then leave_held (a0 s) (held_at s.held (a0 s)) else ask.End NoSuchObject
call_ask (Some call.Get) s = if has_word s then get_held (a0 s) (a1 s) (held_at s.held (a0 s)) else ask.End NoSuchObject
call_ask (Some call.Put) s = if has_word s then put_held (a0 s) (a1 s) (a2 s) (held_at s.held (a0 s)) else ask.End NoSuchObject
call_ask (Some call.OwnNumber) s = ask.Private
call_ask (Some call.TryWrite) s = entry_ask s (ask.Try (a0 s))

-- what is asked by what the next instruction comes to
abbrev pub outcome_ask : Outcome → ThreadState → Ask
outcome_ask (Goes core) s = ask.Private
outcome_ask (Ends fault) s = ask.End (end_of_fault fault)
outcome_ask Calls s = call_ask (call_at s) s

-- after its end a thread leaves what it holds, the greatest object first
abbrev pub release_ask : Option (ℕ × Access) → Ask
release_ask None = ask.Done
release_ask (Some top) = ask.Leave top.0 top.1

-- what is asked by whether the thread has ended; while it hasn't, the budget is tested first
abbrev pub ask_by : List ℕ → Option End → ThreadState → Ask
ask_by code (Some e) s = release_ask (highest s.held)
ask_by code None s = if nat_le s.budget s.steps then ask.End BudgetSpent else outcome_ask (outcome_of code s.core) s

-- what a thread asks
abbrev pub ask_of : List ℕ → ThreadState → Ask
ask_of code s = ask_by code s.ended s

-- what goes into a0
abbrev pub value_of_reply : Reply → Option ℕ
value_of_reply Go = None
value_of_reply (Value value) = Some value

-- a core after a private step; SELF, the one private call, answers the thread's number
abbrev pub core_after : ℕ → Outcome → Core → Core
core_after number (Goes core) old = core
core_after number Calls old = past_call old (Some number)
core_after number (Ends fault) old = old

-- a core after leaving: while a thread releases what it holds, pc stays
abbrev pub core_left : Option End → Core → Core
core_left None core = past_call core None
core_left (Some e) core = core

-- what is held after a try that is answered so: with 1 the object too, for writing
abbrev pub held_after_try : Reply → ℕ → List (Option Access) → List (Option Access)
held_after_try Go object held = held
held_after_try (Value value) object held = if value == 1 then slice_set held object (Some Writing) else held

-- the thread after what it asked; an end changes no register, no memory and no pc
abbrev pub after_ask : List ℕ → ThreadState → Ask → Reply → ThreadState
after_ask code s ask.Private reply = record s { core = core_after s.number (outcome_of code s.core) s.core; steps = s.steps + 1 }
after_ask code s (ask.Env kind) reply = record s { core = past_call s.core (value_of_reply reply); steps = s.steps + 1; events = s.events + 1 }
after_ask code s (ask.Enter object access) reply =
    record s { core = past_call s.core None; steps = s.steps + 1; events = s.events + 1; held = slice_set s.held object (Some access) }
after_ask code s (ask.Try object) reply =
    record s { core = past_call s.core (value_of_reply reply); steps = s.steps + 1; events = s.events + 1; held = held_after_try reply object s.held }
after_ask code s (ask.Leave object access) reply =
    record s { core = core_left s.ended s.core; steps = s.steps + 1; held = slice_set s.held object None }
after_ask code s (ask.Get object index) reply = record s { core = past_call s.core (value_of_reply reply); steps = s.steps + 1 }
after_ask code s (ask.Put object index value) reply = record s { core = past_call s.core None; steps = s.steps + 1 }
after_ask code s ask.Print reply = record s { core = past_call s.core None; steps = s.steps + 1; output = s.output ++ call_output (call_at s) s }
after_ask code s (ask.End e) reply = record s { steps = s.steps + 1; ended = Some e }
after_ask code s ask.Done reply = s

-- the thread after its next step and the reply to what it asked; one that is done stays
unfoldable pub after_reply : List ℕ → ThreadState → Reply → ThreadState
after_reply code s reply = after_ask code s (ask_of code s) reply

-- what is asked of others: printing and ending concern no other thread
abbrev pub shared_ask : Ask → machine.Ask
shared_ask (ask.Env kind) = machine.Env kind
shared_ask (ask.Enter object access) = machine.Enter object access
shared_ask (ask.Try object) = machine.Try object
shared_ask (ask.Leave object access) = machine.Leave object access
shared_ask (ask.Get object index) = machine.Get object index
shared_ask (ask.Put object index value) = machine.Put object index value
shared_ask ask.Done = machine.Done
shared_ask _ = machine.Private

-- the reply that brings a value, where one is wanted
abbrev pub reply_of : Ask → ℕ → Reply
reply_of (ask.Env kind) value = Value value
reply_of (ask.Try object) value = Value value
reply_of (ask.Get object index) value = Value value
reply_of _ value = Go

-- which results suit a call of the environment: any word, and of INPUT a byte or 0xFFFFFFFF
abbrev pub is_result : EnvKind → ℕ → Bool
is_result Clock value = nat_lt value (2 ^ 32)
is_result Random value = nat_lt value (2 ^ 32)
is_result Input value = nat_lt value (2 ^ 8) || (value == 0xFFFFFFFF)

-- a thread that runs this code
abbrev pub thread_machine : List ℕ → machine.Machine ThreadState
thread_machine code = record {
  ask = λ s. shared_ask (ask_of code s);
  take = λ s value. after_reply code s (reply_of (ask_of code s) value);
  held = λ s. held_at s.held;
  fits = is_result;
  ended = λ s. option_map (λ e. (end_number e, end_code e)) s.ended;
  size = λ s. sum_by one_if_held s.held;
}
