-- Threads that differ in registers that aren't live alone ask the same, and differ so again after the same reply.
use Rattle.std.proofs.Common.{◌≡◌, ℕ, ◌+◌, ◌%◌, ◌^◌, Bool, true, false, cond, List, [], ◌∷◌, length, Option, Some, None, refl, sym, ap, ◌∙◌, subst, nat_lt}
use Rattle.std.specs.Prelude.{◌++◌, ◌&&◌, nat_le}
use Rattle.std.specs.Fmt.{signed_decimal}
use Rattle.ir_isa.specs.declared.inst.Inst.TheVariants.{Ecall}
use Rattle.ir_image.specs.Guest.{fetched, limits_of}
use Rattle.ir_image.specs.declared.fetched.Fetched.TheVariants.{Found}
use Rattle.ir_mach.specs.Core.{Core, register, Outcome, Goes, Calls, Ends}
use Rattle.ir_mach.specs.Execution.{outcome_of, past_call, signed}
use Rattle.ir_runs.specs.declared.access.Access.{Access}
use Rattle.ir_runs.specs.declared.access.Access.TheVariants.{Reading, Writing}
use Rattle.ir_thread.specs.State.{ThreadState, a0, a1, a2, call_of, call_at, call_output, byte_text, number_text, print_ask, logged_ask}
use Rattle.ir_thread.specs.State.{is_object, has_word, entry_ask, leave_held, get_held, put_held, held_at, highest, is_above, call_ask}
use Rattle.ir_thread.specs.State.{outcome_ask, release_ask, ask_by, ask_of, core_after, core_left, after_ask, after_reply, reply_of}
use Rattle.ir_thread.specs.State.{most_events, most_output, end_of_fault}
use Rattle.ir_thread.specs.declared.ask.Ask.{Ask}
use Rattle.ir_thread.specs.declared.ask.Ask.TheVariants as ask
use Rattle.ir_thread.specs.declared.call.Call.{Call}
use Rattle.ir_thread.specs.declared.call.Call.TheVariants as call
use Rattle.ir_thread.specs.declared.end.End.{End}
use Rattle.ir_thread.specs.declared.end.End.TheVariants as end
use Rattle.ir_liveness.specs.Flow.{argument_count, has_answer, can_go_on}
use Rattle.ir_liveness.specs.Agreement.{AgreeOnLive, DifferInDead, AgreementLasts}
use Rattle.ir_liveness.proofs.Calls.{argument_agrees, cores_agree_past_call, cores_agree_past_answered_call}
use Rattle.ir_liveness.proofs.Instructions.{AreAlike, outcomes_alike}

-- a thread with another core
abbrev pub with_core : ThreadState → Core → ThreadState
with_core s core = record s { core = core }

-- after what is asked and the same result, the threads differ in registers that aren't live alone
abbrev pub DifferAfter : List ℕ → ThreadState → Core → Ask → Type 0
DifferAfter code s y q = (value : ℕ) → DifferInDead code (after_ask code s q (reply_of q value)) (after_ask code (with_core s y) q (reply_of q value))

differ_after_end : (code : List ℕ) (s : ThreadState) (y : Core) (e : End) → AgreeOnLive code s.core y → DifferAfter code s y (ask.End e)
differ_after_end code s y e agree value = record { rest = refl; cores = agree }

-- where a test fails, the thread ends
conditional_ask_differs : (code : List ℕ) (s : ThreadState) (y : Core) (b : Bool) (q : Ask) (e : End) → AgreeOnLive code s.core y → DifferAfter code s y q
    → DifferAfter code s y (cond b q (ask.End e))
conditional_ask_differs code s y true q e agree asked = asked
conditional_ask_differs code s y false q e agree asked = differ_after_end code s y e agree

-- ---- a thread that hasn't ended, at a call

module _ (code : List ℕ) (s : ThreadState) (y : Core) (agree : AgreeOnLive code s.core y) (at : fetched code s.core.pc ≡ Found Ecall)
    (goes : outcome_of code s.core ≡ Calls) (goes_too : outcome_of code y ≡ Calls) (runs : s.ended ≡ None) where
  call_argument_agrees : (c : Call) → call_at s ≡ Some c → (n : ℕ)
      → (nat_le 10 n && nat_lt n (10 + argument_count (Some c))) ≡ true → register s.core n ≡ register y n
  call_argument_agrees c found n is = argument_agrees code s.core y agree at s.profile c found n is

  call_ask_of_agreeing_cores_is_equal : (c : Option Call) → call_at s ≡ c → call_ask c s ≡ call_ask c (with_core s y)
  call_ask_of_agreeing_cores_is_equal None found = refl
  call_ask_of_agreeing_cores_is_equal (Some call.End) found = ap (λ a. ask.End (end.Exit a)) (call_argument_agrees call.End found 10 refl)
  call_ask_of_agreeing_cores_is_equal (Some call.PutByte) found = refl
  call_ask_of_agreeing_cores_is_equal (Some call.PutNumber) found =
      ap (λ a. print_ask s (length (signed_decimal (signed a) ++ 10 ∷ []))) (call_argument_agrees call.PutNumber found 10 refl)
  call_ask_of_agreeing_cores_is_equal (Some (call.Env kind)) found = refl
  call_ask_of_agreeing_cores_is_equal (Some (call.Enter access)) found =
      ap (λ a. cond (is_object s a) (cond (is_above (highest s.held) a) (logged_ask s (ask.Enter a access)) (ask.End end.EntryOutOfOrder))
      (ask.End end.NoSuchObject)) (call_argument_agrees (call.Enter access) found 10 refl)
  call_ask_of_agreeing_cores_is_equal (Some call.Leave) found =
      ap (λ a. cond (is_object s a) (leave_held a (held_at s.held a)) (ask.End end.NoSuchObject)) (call_argument_agrees call.Leave found 10 refl)
  call_ask_of_agreeing_cores_is_equal (Some call.Get) found =
      ap (λ a. cond (is_object s a && nat_lt (a1 s) (limits_of s.form).words) (get_held a (a1 s) (held_at s.held a)) (ask.End end.NoSuchObject))
      (call_argument_agrees call.Get found 10 refl)
      ∙ ap (λ i. cond (is_object s (register y 10) && nat_lt i (limits_of s.form).words) (get_held (register y 10) i (held_at s.held (register y 10)))
      (ask.End end.NoSuchObject)) (call_argument_agrees call.Get found 11 refl)
  call_ask_of_agreeing_cores_is_equal (Some call.Put) found =
      ap (λ a. cond (is_object s a && nat_lt (a1 s) (limits_of s.form).words) (put_held a (a1 s) (a2 s) (held_at s.held a)) (ask.End end.NoSuchObject))
      (call_argument_agrees call.Put found 10 refl)
      ∙ ap (λ i. cond (is_object s (register y 10) && nat_lt i (limits_of s.form).words)
      (put_held (register y 10) i (a2 s) (held_at s.held (register y 10))) (ask.End end.NoSuchObject)) (call_argument_agrees call.Put found 11 refl)
      ∙ ap (λ v. cond (is_object s (register y 10) && nat_lt (register y 11) (limits_of s.form).words)
      (put_held (register y 10) (register y 11) v (held_at s.held (register y 10))) (ask.End end.NoSuchObject)) (call_argument_agrees call.Put found 12 refl)
  call_ask_of_agreeing_cores_is_equal (Some call.OwnNumber) found = refl
  call_ask_of_agreeing_cores_is_equal (Some call.TryWrite) found =
      ap (λ a. cond (is_object s a) (cond (is_above (highest s.held) a) (logged_ask s (ask.Try a)) (ask.End end.EntryOutOfOrder))
      (ask.End end.NoSuchObject)) (call_argument_agrees call.TryWrite found 10 refl)

  agree_past_unanswered_call : (c : Call) → call_at s ≡ Some c → can_go_on (Some c) ≡ true → has_answer (Some c) ≡ false
      → AgreeOnLive code (past_call s.core None) (past_call y None)
  agree_past_unanswered_call c found on none = cores_agree_past_call code s.core y agree at s.profile c found on none

  agree_past_answered_call : (c : Call) → call_at s ≡ Some c → (value : ℕ) → can_go_on (Some c) ≡ true → has_answer (Some c) ≡ true
      → AgreeOnLive code (past_call s.core (Some value)) (past_call y (Some value))
  agree_past_answered_call c found value on answered = cores_agree_past_answered_call code s.core y agree at s.profile c found value on answered

  -- the call is the same in both threads, and what it prints too
  differ_after_print : (c : Call) → call_at s ≡ Some c → can_go_on (Some c) ≡ true → has_answer (Some c) ≡ false
      → call_output (Some c) s ≡ call_output (Some c) (with_core s y) → DifferAfter code s y ask.Print
  differ_after_print c found on none text value = record {
    rest = ap (λ t. record (after_ask code s ask.Print (reply_of ask.Print value)) { core = past_call y None; output = s.output ++ t }) printed;
    cores = agree_past_unanswered_call c found on none;
  }
    where
      found_too : call_at (with_core s y) ≡ Some c
      found_too = ap (call_of s.profile) (sym agree.call) ∙ found

      printed : call_output (call_at s) s ≡ call_output (call_at (with_core s y)) (with_core s y)
      printed = ap (λ k. call_output k s) found ∙ text ∙ sym (ap (λ k. call_output k (with_core s y)) found_too)

  differ_after_leave : call_at s ≡ Some call.Leave → (object : ℕ) (access : Access) → DifferAfter code s y (ask.Leave object access)
  differ_after_leave found object access value = record {
    rest = refl;
    cores = subst (λ e. AgreeOnLive code (core_left e s.core) (core_left e y)) (sym runs) (agree_past_unanswered_call call.Leave found refl refl);
  }

  differ_after_own_number : call_at s ≡ Some call.OwnNumber → DifferAfter code s y ask.Private
  differ_after_own_number found value = record {
    rest = refl;
    cores = subst (λ o. AgreeOnLive code (core_after s.number o s.core) (core_after s.number (outcome_of code y) y)) (sym goes)
        (subst (λ o. AgreeOnLive code (core_after s.number Calls s.core) (core_after s.number o y)) (sym goes_too)
        (agree_past_answered_call call.OwnNumber found s.number refl refl));
  }

  differ_after_entry : (q : Ask) → DifferAfter code s y q → DifferAfter code s y (entry_ask s q)
  differ_after_entry q asked = conditional_ask_differs code s y (is_object s (a0 s)) _ end.NoSuchObject agree
      (conditional_ask_differs code s y (is_above (highest s.held) (a0 s)) _ end.EntryOutOfOrder agree
      (conditional_ask_differs code s y (nat_lt s.events most_events) q end.LogFull agree asked))

  differ_after_call : (c : Option Call) → call_at s ≡ c → DifferAfter code s y (call_ask c s)
  differ_after_call None found = differ_after_end code s y end.UnknownCall agree
  differ_after_call (Some call.End) found = differ_after_end code s y (end.Exit (a0 s)) agree
  differ_after_call (Some call.PutByte) found =
      conditional_ask_differs code s y (nat_le (length s.output + length (byte_text s)) most_output) ask.Print end.OutputFull agree
      (differ_after_print call.PutByte found refl refl (ap (λ a. (a % 2 ^ 8) ∷ []) (call_argument_agrees call.PutByte found 10 refl)))
  differ_after_call (Some call.PutNumber) found =
      conditional_ask_differs code s y (nat_le (length s.output + length (number_text s)) most_output) ask.Print end.OutputFull agree
      (differ_after_print call.PutNumber found refl refl (ap (λ a. signed_decimal (signed a) ++ 10 ∷ []) (call_argument_agrees call.PutNumber found 10 refl)))
  differ_after_call (Some (call.Env kind)) found = conditional_ask_differs code s y (nat_lt s.events most_events) (ask.Env kind) end.LogFull agree
      (λ value. record { rest = refl; cores = agree_past_answered_call (call.Env kind) found value refl refl })
  differ_after_call (Some (call.Enter access)) found = differ_after_entry (ask.Enter (a0 s) access)
      (λ value. record { rest = refl; cores = agree_past_unanswered_call (call.Enter access) found refl refl })
  differ_after_call (Some call.Leave) found =
      conditional_ask_differs code s y (is_object s (a0 s)) (leave_held (a0 s) (held_at s.held (a0 s))) end.NoSuchObject agree (by (held_at s.held (a0 s)))
    where
      by : (h : Option Access) → DifferAfter code s y (leave_held (a0 s) h)
      by None = differ_after_end code s y end.NotHeld agree
      by (Some access) = differ_after_leave found (a0 s) access
  differ_after_call (Some call.Get) found =
      conditional_ask_differs code s y (has_word s) (get_held (a0 s) (a1 s) (held_at s.held (a0 s))) end.NoSuchObject agree (by (held_at s.held (a0 s)))
    where
      by : (h : Option Access) → DifferAfter code s y (get_held (a0 s) (a1 s) h)
      by None = differ_after_end code s y end.NotHeld agree
      by (Some access) = λ value. record { rest = refl; cores = agree_past_answered_call call.Get found value refl refl }
  differ_after_call (Some call.Put) found =
      conditional_ask_differs code s y (has_word s) (put_held (a0 s) (a1 s) (a2 s) (held_at s.held (a0 s))) end.NoSuchObject agree (by (held_at s.held (a0 s)))
    where
      by : (h : Option Access) → DifferAfter code s y (put_held (a0 s) (a1 s) (a2 s) h)
      by None = differ_after_end code s y end.NotHeld agree
      by (Some Reading) = differ_after_end code s y end.NotHeld agree
      by (Some Writing) = λ value. record { rest = refl; cores = agree_past_unanswered_call call.Put found refl refl }
  differ_after_call (Some call.OwnNumber) found = differ_after_own_number found
  differ_after_call (Some call.TryWrite) found =
      differ_after_entry (ask.Try (a0 s)) (λ value. record { rest = refl; cores = agree_past_answered_call call.TryWrite found value refl refl })

-- ---- any thread

-- what is asked is the same, and so is what comes after it but for registers that aren't live
abbrev pub AreAskedAlike : List ℕ → ThreadState → Core → Ask → Ask → Type 0
AreAskedAlike code s y q other = (q ≡ other) × DifferAfter code s y q

outcomes_asked_alike : (code : List ℕ) (s : ThreadState) (y : Core) → AgreeOnLive code s.core y → s.ended ≡ None
    → AreAskedAlike code s y (outcome_ask (outcome_of code s.core) s) (outcome_ask (outcome_of code y) (with_core s y))
outcomes_asked_alike code s y agree runs = by (outcome_of code s.core) (outcome_of code y) refl refl (outcomes_alike code s.core y agree)
  where
    by : (o p : Outcome) → outcome_of code s.core ≡ o → outcome_of code y ≡ p → AreAlike code s.core o p
        → AreAskedAlike code s y (outcome_ask o s) (outcome_ask p (with_core s y))
    by (Goes u) (Goes v) goes goes_too alike = (
      refl,
      λ value. record {
        rest = refl;
        cores = subst (λ o. AgreeOnLive code (core_after s.number o s.core) (core_after s.number (outcome_of code y) y)) (sym goes)
            (subst (λ p. AgreeOnLive code u (core_after s.number p y)) (sym goes_too) alike);
      },
    )
    by (Ends e) (Ends f) goes goes_too alike =
        (ap (λ fault. ask.End (end_of_fault fault)) alike, differ_after_end code s y (end_of_fault e) agree)
    by Calls Calls goes goes_too alike = (
      call_ask_of_agreeing_cores_is_equal code s y agree alike goes goes_too runs (call_at s) refl
          ∙ ap (λ n. call_ask (call_of s.profile n) (with_core s y)) agree.call,
      differ_after_call code s y agree alike goes goes_too runs (call_at s) refl,
    )
    by (Goes u) (Ends f) goes goes_too alike = absurd alike
    by (Goes u) Calls goes goes_too alike = absurd alike
    by (Ends e) (Goes v) goes goes_too alike = absurd alike
    by (Ends e) Calls goes goes_too alike = absurd alike
    by Calls (Goes v) goes goes_too alike = absurd alike
    by Calls (Ends f) goes goes_too alike = absurd alike

-- a thread that has ended releases what it holds, and its core stays
release_highest_differs : (code : List ℕ) (s : ThreadState) (y : Core) (e : End) → AgreeOnLive code s.core y → s.ended ≡ Some e
    → (top : Option (ℕ × Access)) → DifferAfter code s y (release_ask top)
release_highest_differs code s y e agree is None = λ value. record { rest = refl; cores = agree }
release_highest_differs code s y e agree is (Some top) = λ value. record {
  rest = refl;
  cores = subst (λ d. AgreeOnLive code (core_left d s.core) (core_left d y)) (sym is) agree;
}

threads_asked_alike : (code : List ℕ) (s : ThreadState) (y : Core) → AgreeOnLive code s.core y
    → AreAskedAlike code s y (ask_of code s) (ask_of code (with_core s y))
threads_asked_alike code s y agree = by s.ended refl
  where
    tested : (b : Bool) → s.ended ≡ None → AreAskedAlike code s y (cond b (ask.End end.BudgetSpent) (outcome_ask (outcome_of code s.core) s))
        (cond b (ask.End end.BudgetSpent) (outcome_ask (outcome_of code y) (with_core s y)))
    tested true runs = (refl, differ_after_end code s y end.BudgetSpent agree)
    tested false runs = outcomes_asked_alike code s y agree runs

    by : (e : Option End) → s.ended ≡ e → AreAskedAlike code s y (ask_by code e s) (ask_by code e (with_core s y))
    by (Some e) is = (refl, release_highest_differs code s y e agree is (highest s.held))
    by None is = tested (nat_le s.budget s.steps) is

differ_after_same_reply : (code : List ℕ) (s : ThreadState) (y : Core) → AgreeOnLive code s.core y → (value : ℕ)
    → DifferInDead code (after_reply code s (reply_of (ask_of code s) value))
    (after_reply code (with_core s y) (reply_of (ask_of code (with_core s y)) value))
unfolding after_reply
differ_after_same_reply code s y agree value = let alike = threads_asked_alike code s y agree in
    subst (λ q. DifferInDead code (after_ask code s (ask_of code s) (reply_of (ask_of code s) value)) (after_ask code (with_core s y) q (reply_of q value)))
    alike.0 (alike.1 value)

-- threads that differ in registers that aren't live alone ask the same, and differ so again
pub differ_in_dead_lasts : AgreementLasts
differ_in_dead_lasts code x y differ = (
  (threads_asked_alike code x y.core differ.cores).0 ∙ ap (ask_of code) differ.rest,
  λ value. subst (λ t. DifferInDead code (after_reply code x (reply_of (ask_of code x) value)) (after_reply code t (reply_of (ask_of code t) value)))
      differ.rest (differ_after_same_reply code x y.core differ.cores value),
)
