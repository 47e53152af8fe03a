-- A thread ends by the first condition that isn't met.
use Rattle.std.proofs.Common.{◌≡◌, ℕ, Bool, true, false, cond, Option, Some, None, List, refl, ap, ◌∙◌}
use Rattle.std.specs.Prelude.{not, is_some, nat_le}
use Rattle.ir_mach.specs.Core.{Outcome, Goes, Calls, Ends}
use Rattle.ir_mach.specs.Execution.{outcome_of}
use Rattle.ir_runs.specs.declared.access.Access.{Access}
use Rattle.ir_runs.specs.declared.access.Access.TheVariants.{Reading, Writing}
use Rattle.ir_thread.specs.Conditions.{first_end_or, is_writing, call_conditions, access_or_reading, call_wants, outcome_conditions, outcome_wants, step_conditions}
use Rattle.ir_thread.specs.State.{held_at, ThreadState, a0, a1, a2, call_at, is_object, has_word, leave_held, get_held, put_held, call_ask, outcome_ask, ask_by, ask_of}
use Rattle.ir_thread.specs.declared.ask.Ask.{Ask}
use Rattle.ir_thread.specs.declared.ask.Ask.TheVariants as ask
use Rattle.ir_thread.specs.declared.call.Call.{Call}
use Rattle.ir_thread.specs.declared.call.Call.TheVariants as call
use Rattle.ir_thread.specs.declared.end.End.TheVariants as end

leave_held_by_condition : (o : ℕ) (h : Option Access) → leave_held o h ≡ cond (is_some h) (ask.Leave o (access_or_reading h)) (ask.End end.NotHeld)
leave_held_by_condition o None = refl
leave_held_by_condition o (Some access) = refl

get_held_by_condition : (o i : ℕ) (h : Option Access) → get_held o i h ≡ cond (is_some h) (ask.Get o i) (ask.End end.NotHeld)
get_held_by_condition o i None = refl
get_held_by_condition o i (Some access) = refl

put_held_by_condition : (o i w : ℕ) (h : Option Access) → put_held o i w h ≡ cond (is_writing h) (ask.Put o i w) (ask.End end.NotHeld)
put_held_by_condition o i w None = refl
put_held_by_condition o i w (Some Reading) = refl
put_held_by_condition o i w (Some Writing) = refl

conditional_negated : (b : Bool) (p q : Ask) → cond b p q ≡ cond (not b) q p
conditional_negated true p q = refl
conditional_negated false p q = refl

call_ask_by_conditions : (c : Option Call) (s : ThreadState) → call_ask c s ≡ first_end_or (call_conditions c s) (call_wants c s)
call_ask_by_conditions None s = refl
call_ask_by_conditions (Some call.End) s = refl
call_ask_by_conditions (Some call.PutByte) s = refl
call_ask_by_conditions (Some call.PutNumber) s = refl
call_ask_by_conditions (Some (call.Env kind)) s = refl
call_ask_by_conditions (Some (call.Enter access)) s = refl
call_ask_by_conditions (Some call.Leave) s = ap (λ q. cond (is_object s (a0 s)) q (ask.End end.NoSuchObject)) (leave_held_by_condition (a0 s) (held_at s.held (a0 s)))
call_ask_by_conditions (Some call.Get) s = ap (λ q. cond (has_word s) q (ask.End end.NoSuchObject)) (get_held_by_condition (a0 s) (a1 s) (held_at s.held (a0 s)))
call_ask_by_conditions (Some call.Put) s = ap (λ q. cond (has_word s) q (ask.End end.NoSuchObject)) (put_held_by_condition (a0 s) (a1 s) (a2 s) (held_at s.held (a0 s)))
call_ask_by_conditions (Some call.OwnNumber) s = refl
call_ask_by_conditions (Some call.TryWrite) s = refl

outcome_ask_conditions : (x : Outcome) (s : ThreadState) → outcome_ask x s ≡ first_end_or (outcome_conditions x s) (outcome_wants x s)
outcome_ask_conditions (Goes core) s = refl
outcome_ask_conditions (Ends fault) s = refl
outcome_ask_conditions Calls s = call_ask_by_conditions (call_at s) s

-- the law
pub running_ask_conditions : (code : List ℕ) (s : ThreadState) → s.ended ≡ None
    → ask_of code s ≡ first_end_or (step_conditions code s) (outcome_wants (outcome_of code s.core) s)
running_ask_conditions code s lives =
    ap (λ e. ask_by code e s) lives
    ∙ ap (λ q. cond (nat_le s.budget s.steps) (ask.End end.BudgetSpent) q) (outcome_ask_conditions (outcome_of code s.core) s)
    ∙ conditional_negated (nat_le s.budget s.steps) (ask.End end.BudgetSpent)
    (first_end_or (outcome_conditions (outcome_of code s.core) s) (outcome_wants (outcome_of code s.core) s))
