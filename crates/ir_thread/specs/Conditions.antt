-- What has to hold for a step, condition by condition in the order in which they are tested.
use Rattle.std.specs.Prelude.{◌≡◌, ◌+◌, ℕ, Bool, true, false, not, is_some, List, [], ◌∷◌, length, nat_le, nat_lt, if◌then◌else◌, Option, Some, None}
use Rattle.ir_mach.specs.Core.{Outcome, Goes, Calls, Ends}
use Rattle.ir_mach.specs.Execution.{outcome_of}
use Rattle.ir_runs.specs.declared.access.Access.{Access}
use Rattle.ir_runs.specs.declared.access.Access.TheVariants.{Reading, Writing}
use Rattle.ir_thread.specs.State.{end_of_fault, ThreadState, held_at, highest, is_above, a0, a1, a2, call_at, byte_text, number_text, is_object, has_word, most_output, most_events, ask_of}
use Rattle.ir_thread.specs.declared.ask.Ask.{Ask}
use Rattle.ir_thread.specs.declared.ask.Ask.TheVariants as ask
use Rattle.ir_thread.specs.declared.call.Call.{Call}
use Rattle.ir_thread.specs.declared.call.Call.TheVariants as call
use Rattle.ir_thread.specs.declared.end.End.{End}
use Rattle.ir_thread.specs.declared.end.End.TheVariants as end

-- a condition, and the end of a thread that doesn't meet it
pub record Condition : Type 0 where
  pub met : Bool
  pub otherwise : End

-- the end of the first condition that isn't met; where all are, what the step wants
abbrev pub first_end_or : List Condition → Ask → Ask
first_end_or [] wanted = wanted
first_end_or (c ∷ cs) wanted = if c.met then first_end_or cs wanted else ask.End c.otherwise

-- a condition that is never met
abbrev pub ends_by : End → Condition
ends_by e = record { met = false; otherwise = e }

-- there is object a0
abbrev pub object_exists : ThreadState → Condition
object_exists s = record { met = is_object s (a0 s); otherwise = end.NoSuchObject }

-- there is word a1 of object a0
abbrev pub word_exists : ThreadState → Condition
word_exists s = record { met = has_word s; otherwise = end.NoSuchObject }

-- object a0 is above all that are held
abbrev pub entry_in_order : ThreadState → Condition
entry_in_order s = record { met = is_above (highest s.held) (a0 s); otherwise = end.EntryOutOfOrder }

-- object a0 is held
abbrev pub object_held : ThreadState → Condition
object_held s = record { met = is_some (held_at s.held (a0 s)); otherwise = end.NotHeld }

-- whether it is held for writing
abbrev pub is_writing : Option Access → Bool
is_writing None = false
is_writing (Some Reading) = false
is_writing (Some Writing) = true

-- object a0 is held for writing
abbrev pub object_held_for_writing : ThreadState → Condition
object_held_for_writing s = record { met = is_writing (held_at s.held (a0 s)); otherwise = end.NotHeld }

-- there is room for `count` bytes of output
abbrev pub output_has_room : ThreadState → ℕ → Condition
output_has_room s count = record { met = nat_le (length s.output + count) most_output; otherwise = end.OutputFull }

-- there is room for an event
abbrev pub log_has_room : ThreadState → Condition
log_has_room s = record { met = nat_lt s.events most_events; otherwise = end.LogFull }

-- a step of the budget is left
abbrev pub budget_has_step : ThreadState → Condition
budget_has_step s = record { met = not (nat_le s.budget s.steps); otherwise = end.BudgetSpent }

-- the conditions of a system call; one that ends the thread meets none
abbrev pub call_conditions : Option Call → ThreadState → List Condition
call_conditions None s = ends_by end.UnknownCall ∷ []
call_conditions (Some call.End) s = ends_by (end.Exit (a0 s)) ∷ []
call_conditions (Some call.PutByte) s = output_has_room s (length (byte_text s)) ∷ []
call_conditions (Some call.PutNumber) s = output_has_room s (length (number_text s)) ∷ []
call_conditions (Some (call.Env kind)) s = log_has_room s ∷ []
call_conditions (Some (call.Enter access)) s = object_exists s ∷ entry_in_order s ∷ log_has_room s ∷ []
call_conditions (Some call.Leave) s = object_exists s ∷ object_held s ∷ []
call_conditions (Some call.Get) s = word_exists s ∷ object_held s ∷ []
call_conditions (Some call.Put) s = word_exists s ∷ object_held_for_writing s ∷ []
call_conditions (Some call.OwnNumber) s = []
call_conditions (Some call.TryWrite) s = object_exists s ∷ entry_in_order s ∷ log_has_room s ∷ []

-- for what an object is held; for reading where it isn't held
abbrev pub access_or_reading : Option Access → Access
access_or_reading None = Reading
access_or_reading (Some access) = access

-- what a system call asks that meets its conditions
abbrev pub call_wants : Option Call → ThreadState → Ask
call_wants None s = ask.Done
call_wants (Some call.End) s = ask.Done
call_wants (Some call.PutByte) s = ask.Print
call_wants (Some call.PutNumber) s = ask.Print
call_wants (Some (call.Env kind)) s = ask.Env kind
call_wants (Some (call.Enter access)) s = ask.Enter (a0 s) access
call_wants (Some call.Leave) s = ask.Leave (a0 s) (access_or_reading (held_at s.held (a0 s)))
call_wants (Some call.Get) s = ask.Get (a0 s) (a1 s)
call_wants (Some call.Put) s = ask.Put (a0 s) (a1 s) (a2 s)
call_wants (Some call.OwnNumber) s = ask.Private
call_wants (Some call.TryWrite) s = ask.Try (a0 s)

-- the conditions by what the next instruction comes to
abbrev pub outcome_conditions : Outcome → ThreadState → List Condition
outcome_conditions (Goes core) s = []
outcome_conditions (Ends fault) s = ends_by (end_of_fault fault) ∷ []
outcome_conditions Calls s = call_conditions (call_at s) s

-- what the next instruction asks where they are met
abbrev pub outcome_wants : Outcome → ThreadState → Ask
outcome_wants (Goes core) s = ask.Private
outcome_wants (Ends fault) s = ask.Done
outcome_wants Calls s = call_wants (call_at s) s

-- the conditions of a thread's step: its budget first, then the instruction, then the call
abbrev pub step_conditions : List ℕ → ThreadState → List Condition
step_conditions code s = budget_has_step s ∷ outcome_conditions (outcome_of code s.core) s

-- a thread that hasn't ended asks what its instruction wants, or else the end of the first condition that isn't met
abbrev pub EndsByTheFirst : Type 0
EndsByTheFirst = (code : List ℕ) (s : ThreadState) → s.ended ≡ None
    → ask_of code s ≡ first_end_or (step_conditions code s) (outcome_wants (outcome_of code s.core) s)
