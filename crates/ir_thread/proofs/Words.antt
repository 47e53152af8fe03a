-- A thread's registers hold words and its private memory bytes, whatever it asks; and words are what it puts and ends with.
use Rattle.std.proofs.Common.{◌≡◌, refl, ℕ, Bool, cond, List, Option, Some, None, arith, nat_lt, eqb}
use Rattle.std.specs.Prelude.{nat_le}
use Rattle.std.proofs.lemmas.Bool.{cond_both, eq-eqb}
use Rattle.ir_image.specs.Bounds.{IsWord}
use Rattle.ir_mach.specs.Core.{Core, Outcome, Goes, Calls, Ends}
use Rattle.ir_mach.specs.Execution.{outcome_of}
use Rattle.ir_mach.specs.declared.outcome.Fault.{Fault}
use Rattle.ir_mach.specs.declared.outcome.Fault.TheVariants as fault
use Rattle.ir_mach.proofs.CallerLemmas.{HasWords, LeavesWords, register_is_word, outcome_leaves_words, past_call_has_words}
use Rattle.ir_thread.specs.State.{end_code, end_of_fault, ThreadState, held_at, highest, is_above, a0, a1, a2, call_at, is_object, has_word}
use Rattle.ir_thread.specs.State.{entry_ask, leave_held, get_held, put_held, call_ask, outcome_ask, release_ask, ask_by, ask_of, core_after}
use Rattle.ir_thread.specs.State.{core_left, after_ask, most_output, most_events, reply_of, end_number, end_of}
use Rattle.ir_runs.specs.declared.access.Access.{Access}
use Rattle.ir_runs.specs.declared.access.Access.TheVariants.{Reading, Writing}
use Rattle.ir_thread.specs.declared.ask.Ask.{Ask}
use Rattle.ir_thread.specs.declared.ask.Ask.TheVariants as ask
use Rattle.ir_thread.specs.declared.call.Call.{Call}
use Rattle.ir_thread.specs.declared.call.Call.TheVariants as call
use Rattle.ir_thread.specs.declared.end.End.{End}
use Rattle.ir_thread.specs.declared.end.End.TheVariants as end

-- ---- what it asks

-- what is put into an object, and the code of an end, are words
abbrev pub AsksWords : Ask → Type 0
AsksWords (ask.Put object index value) = IsWord value
AsksWords (ask.End e) = IsWord (end_code e)
AsksWords _ = Unit {0}

-- an end without a code of its own, where a test fails
conditional_has_words : (b : Bool) (q : Ask) (e : End) → end_code e ≡ 0 → AsksWords q → AsksWords (cond b q (ask.End e))
conditional_has_words b q e none asks = cond_both b q (ask.End e) AsksWords (λ _. asks) (λ _. omega (arith, none))

entry_ask_has_words : (s : ThreadState) (q : Ask) → AsksWords q → AsksWords (entry_ask s q)
entry_ask_has_words s q asks = conditional_has_words (is_object s (a0 s)) _ end.NoSuchObject refl
    (conditional_has_words (is_above (highest s.held) (a0 s)) _ end.EntryOutOfOrder refl (conditional_has_words (nat_lt s.events most_events) q end.LogFull refl asks))

leave_held_asks_words : (object : ℕ) (h : Option Access) → AsksWords (leave_held object h)
leave_held_asks_words object None = omega arith
leave_held_asks_words object (Some access) = tt

get_held_asks_words : (object index : ℕ) (h : Option Access) → AsksWords (get_held object index h)
get_held_asks_words object index None = omega arith
get_held_asks_words object index (Some access) = tt

put_held_asks_words : (object index value : ℕ) (h : Option Access) → IsWord value → AsksWords (put_held object index value h)
put_held_asks_words object index value None k = omega arith
put_held_asks_words object index value (Some Reading) k = omega arith
put_held_asks_words object index value (Some Writing) k = k

call_ask_has_words : (s : ThreadState) (c : Option Call) → HasWords s.core → AsksWords (call_ask c s)
call_ask_has_words s None h = omega arith
call_ask_has_words s (Some call.End) h = register_is_word s.core 10 h
call_ask_has_words s (Some call.PutByte) h = conditional_has_words (nat_le _ most_output) ask.Print end.OutputFull refl tt
call_ask_has_words s (Some call.PutNumber) h = conditional_has_words (nat_le _ most_output) ask.Print end.OutputFull refl tt
call_ask_has_words s (Some (call.Env kind)) h = conditional_has_words (nat_lt s.events most_events) (ask.Env kind) end.LogFull refl tt
call_ask_has_words s (Some (call.Enter access)) h = entry_ask_has_words s (ask.Enter (a0 s) access) tt
call_ask_has_words s (Some call.Leave) h = conditional_has_words (is_object s (a0 s)) _ end.NoSuchObject refl (leave_held_asks_words (a0 s) (held_at s.held (a0 s)))
call_ask_has_words s (Some call.Get) h = conditional_has_words (has_word s) _ end.NoSuchObject refl (get_held_asks_words (a0 s) (a1 s) (held_at s.held (a0 s)))
call_ask_has_words s (Some call.Put) h =
    conditional_has_words (has_word s) _ end.NoSuchObject refl (put_held_asks_words (a0 s) (a1 s) (a2 s) (held_at s.held (a0 s)) (register_is_word s.core 12 h))
call_ask_has_words s (Some call.OwnNumber) h = tt
call_ask_has_words s (Some call.TryWrite) h = entry_ask_has_words s (ask.Try (a0 s)) tt

fault_code_is_word : (f : Fault) → IsWord (end_code (end_of_fault f))
fault_code_is_word fault.Breakpoint = omega arith
fault_code_is_word fault.IllegalWord = omega arith
fault_code_is_word fault.TargetMisaligned = omega arith
fault_code_is_word fault.OutsideCode = omega arith
fault_code_is_word fault.BadLoad = omega arith
fault_code_is_word fault.BadStore = omega arith

outcome_ask_has_words : (s : ThreadState) (o : Outcome) → HasWords s.core → AsksWords (outcome_ask o s)
outcome_ask_has_words s (Goes core) h = tt
outcome_ask_has_words s (Ends f) h = fault_code_is_word f
outcome_ask_has_words s Calls h = call_ask_has_words s (call_at s) h

release_ask_has_words : (h : Option (ℕ × Access)) → AsksWords (release_ask h)
release_ask_has_words None = tt
release_ask_has_words (Some top) = tt

pub ask_of_has_words : (code : List ℕ) (s : ThreadState) → HasWords s.core → AsksWords (ask_of code s)
ask_of_has_words code s h = by s.ended
  where
    by : (e : Option End) → AsksWords (ask_by code e s)
    by (Some e) = release_ask_has_words (highest s.held)
    by None = cond_both (nat_le s.budget s.steps) (ask.End end.BudgetSpent) (outcome_ask (outcome_of code s.core) s) AsksWords
        (λ _. omega arith) (λ _. outcome_ask_has_words s (outcome_of code s.core) h)

-- ---- what comes after it

private_step_has_words : (code : List ℕ) (s : ThreadState) → HasWords s.core → IsWord s.number
    → HasWords (core_after s.number (outcome_of code s.core) s.core)
private_step_has_words code s h k = by (outcome_of code s.core) (outcome_leaves_words code s.core h)
  where
    by : (o : Outcome) → LeavesWords o → HasWords (core_after s.number o s.core)
    by (Goes core) left = left
    by Calls left = past_call_has_words s.core (Some s.number) h k
    by (Ends f) left = h

core_left_has_words : (e : Option End) (core : Core) → HasWords core → HasWords (core_left e core)
core_left_has_words None core h = past_call_has_words core None h tt
core_left_has_words (Some e) core h = h

-- after a step that is answered a word
pub ask_reply_has_words : (code : List ℕ) (s : ThreadState) (q : Ask) (value : ℕ) → HasWords s.core → IsWord s.number → IsWord value
    → HasWords (after_ask code s q (reply_of q value)).core
ask_reply_has_words code s ask.Private value h k fits = private_step_has_words code s h k
ask_reply_has_words code s (ask.Env kind) value h k fits = past_call_has_words s.core (Some value) h fits
ask_reply_has_words code s (ask.Enter object access) value h k fits = past_call_has_words s.core None h tt
ask_reply_has_words code s (ask.Try object) value h k fits = past_call_has_words s.core (Some value) h fits
ask_reply_has_words code s (ask.Leave object access) value h k fits = core_left_has_words s.ended s.core h
ask_reply_has_words code s (ask.Get object index) value h k fits = past_call_has_words s.core (Some value) h fits
ask_reply_has_words code s (ask.Put object index w) value h k fits = past_call_has_words s.core None h tt
ask_reply_has_words code s ask.Print value h k fits = past_call_has_words s.core None h tt
ask_reply_has_words code s (ask.End e) value h k fits = h
ask_reply_has_words code s ask.Done value h k fits = h

pub end_of_number_and_code : (e : End) → end_of (end_number e) (end_code e) ≡ Some e
end_of_number_and_code (end.Exit code) = rw (eq-eqb code code refl) refl
end_of_number_and_code end.Breakpoint = refl
end_of_number_and_code end.IllegalWord = refl
end_of_number_and_code end.TargetMisaligned = refl
end_of_number_and_code end.OutsideCode = refl
end_of_number_and_code end.BadLoad = refl
end_of_number_and_code end.BadStore = refl
end_of_number_and_code end.UnknownCall = refl
end_of_number_and_code end.NoSuchObject = refl
end_of_number_and_code end.EntryOutOfOrder = refl
end_of_number_and_code end.NotHeld = refl
end_of_number_and_code end.OutputFull = refl
end_of_number_and_code end.BudgetSpent = refl
end_of_number_and_code end.LogFull = refl
