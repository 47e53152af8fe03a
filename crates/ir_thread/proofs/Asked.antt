-- What is known of a thread where it asks something.
use Rattle.std.proofs.Common.{◌≡◌, ◌≢◌, ℕ, ◌+◌, ◌<◌, ◌≤◌, List, length, Bool, true, false, cond, Option, Some, None, refl, sym, ap, subst, arith, nat_lt}
use Rattle.std.proofs.lemmas.Bool.{cond_both}
use Rattle.std.proofs.lemmas.Bool.Decides.{nat_tests}
use Rattle.std.specs.Prelude.{nat_le, ◌&&◌, ◌==◌}
use Rattle.ir_lemmas.proofs.CallerLemmas.{conjuncts_are_true}
use Rattle.ir_image.specs.Guest.{limits_of, most_object_words}
use Rattle.ir_image.proofs.CallerLemmas.{form_words_within}
use Rattle.ir_mach.specs.Core.{Outcome, Goes, Calls, Ends}
use Rattle.ir_mach.specs.Execution.{outcome_of}
use Rattle.ir_thread.specs.Permitted.{IsRunning, CanLog, Permits, next_output, a7, leave_ask, get_ask, put_ask}
use Rattle.ir_thread.specs.State.{held_at, highest, is_above, ThreadState, a0, a1, a2, call_of, call_at, byte_text, number_text}
use Rattle.ir_thread.specs.State.{call_output, print_ask, logged_ask, is_object, has_word, entry_ask, leave_held, get_held, put_held}
use Rattle.ir_thread.specs.State.{call_ask, outcome_ask, release_ask, ask_by, ask_of, most_output, most_events, is_result}
use Rattle.ir_runs.specs.declared.access.Access.{Access}
use Rattle.ir_runs.specs.declared.access.Access.TheVariants.{Reading, Writing}
use Rattle.ir_thread.specs.declared.ask.Ask.{Ask}
use Rattle.ir_thread.specs.declared.ask.Ask.TheVariants as ask
use Rattle.ir_thread.specs.declared.call.Call.{Call}
use Rattle.ir_thread.specs.declared.call.Call.TheVariants as call
use Rattle.ir_thread.specs.declared.end.End.{End}
use Rattle.ir_thread.specs.declared.end.End.TheVariants as end
use Rattle.ir_thread.specs.declared.profile.Profile.{Profile}
use Rattle.ir_thread.specs.declared.profile.Profile.TheVariants.{One, Two}
use Rattle.ir_thread.proofs.Highest.{highest_is_highest_held}
use Rattle.ir_image.specs.Bounds.{IsWord}
use Rattle.ir_runs.specs.declared.env_kind.EnvKind.{EnvKind}
use Rattle.ir_runs.specs.declared.env_kind.EnvKind.TheVariants.{Clock, Random, Input}

-- where a test fails the thread ends, else it asks so
conditional_permitted : (s : ThreadState) (b : Bool) (q : Ask) (e : End) → s.ended ≡ None → (b ≡ true → Permits s q) → Permits s (cond b q (ask.End e))
conditional_permitted s b q e lives asks = cond_both b q (ask.End e) (Permits s) asks (λ _. lives)

less_if_nat_lt_is_true : (a b : ℕ) → nat_lt a b ≡ true → a < b
less_if_nat_lt_is_true a b e = grind (arith, nat_tests)

le_of_nat_le : (a b : ℕ) → nat_le a b ≡ true → a ≤ b
le_of_nat_le a b e = grind (arith, nat_tests)

logged_ask_permitted : (s : ThreadState) (q : Ask) → IsRunning s → (CanLog s → Permits s q) → Permits s (logged_ask s q)
logged_ask_permitted s q runs asks = conditional_permitted s (nat_lt s.events most_events) q end.LogFull runs.lives (λ e. asks (less_if_nat_lt_is_true _ _ e))

print_ask_permitted : (s : ThreadState) (count : ℕ) → IsRunning s → count ≡ length (next_output s) → Permits s (print_ask s count)
print_ask_permitted s count runs same = conditional_permitted s (nat_le (length s.output + count) most_output) ask.Print end.OutputFull runs.lives
    (λ e. (runs, subst (λ n. length s.output + n ≤ most_output) same (le_of_nat_le _ _ e)))

entry_ask_permitted : (s : ThreadState) (q : Ask) → IsRunning s
    → (CanLog s → a0 s < length s.held → is_above (highest s.held) (a0 s) ≡ true → Permits s q) → Permits s (entry_ask s q)
entry_ask_permitted s q runs asks = conditional_permitted s (is_object s (a0 s)) _ end.NoSuchObject runs.lives
    (λ here. conditional_permitted s (is_above (highest s.held) (a0 s)) _ end.EntryOutOfOrder runs.lives
    (λ above. logged_ask_permitted s q runs (λ room. asks room (less_if_nat_lt_is_true _ _ here) above)))

leave_ask_permitted : (s : ThreadState) → IsRunning s → Permits s (leave_ask s)
leave_ask_permitted s runs = conditional_permitted s (is_object s (a0 s)) _ end.NoSuchObject runs.lives (λ here. by (less_if_nat_lt_is_true _ _ here) (held_at s.held (a0 s)) refl)
  where
    by : a0 s < length s.held → (h : Option Access) → held_at s.held (a0 s) ≡ h → Permits s (leave_held (a0 s) h)
    by l None e = runs.lives
    by l (Some access) e = ((λ _. runs.has_budget), l, e)

-- a word that objects have in the thread's form is one of the most that they have in any
form_word_below_most : (s : ThreadState) → nat_lt (a1 s) (limits_of s.form).words ≡ true → a1 s < most_object_words
form_word_below_most s is = let small = less_if_nat_lt_is_true _ _ is in let most = form_words_within s.form in omega (arith, small, most)

get_ask_permitted : (s : ThreadState) → IsRunning s → Permits s (get_ask s)
get_ask_permitted s runs = conditional_permitted s (has_word s) _ end.NoSuchObject runs.lives (λ here. by (conjuncts_are_true _ _ here) (held_at s.held (a0 s)) refl)
  where
    by : (is_object s (a0 s) ≡ true) × (nat_lt (a1 s) (limits_of s.form).words ≡ true) → (h : Option Access) → held_at s.held (a0 s) ≡ h
        → Permits s (get_held (a0 s) (a1 s) h)
    by p None e = runs.lives
    by p (Some access) e = (runs, less_if_nat_lt_is_true _ _ p.0, form_word_below_most s p.1, λ none. cc (e, none))

put_ask_permitted : (s : ThreadState) → IsRunning s → Permits s (put_ask s)
put_ask_permitted s runs = conditional_permitted s (has_word s) _ end.NoSuchObject runs.lives (λ here. by (conjuncts_are_true _ _ here) (held_at s.held (a0 s)) refl)
  where
    by : (is_object s (a0 s) ≡ true) × (nat_lt (a1 s) (limits_of s.form).words ≡ true) → (h : Option Access) → held_at s.held (a0 s) ≡ h
        → Permits s (put_held (a0 s) (a1 s) (a2 s) h)
    by p None e = runs.lives
    by p (Some Reading) e = runs.lives
    by p (Some Writing) e = (runs, less_if_nat_lt_is_true _ _ p.0, form_word_below_most s p.1, e)

conditional_is_no_try : (b : Bool) (x y : Option Call) → x ≢ Some call.TryWrite → y ≢ Some call.TryWrite → cond b x y ≢ Some call.TryWrite
conditional_is_no_try true x y p q = p
conditional_is_no_try false x y p q = q

-- the first profile has no tries
first_profile_no_try : (n : ℕ) → call_of One n ≢ Some call.TryWrite
first_profile_no_try n = conditional_is_no_try (n == 1) _ _ (λ e. cc e) (
    conditional_is_no_try (n == 2) _ _ (λ e. cc e) (
    conditional_is_no_try (n == 3) _ _ (λ e. cc e) (
    conditional_is_no_try (n == 4) _ _ (λ e. cc e) (
    conditional_is_no_try (n == 5) _ _ (λ e. cc e) (
    conditional_is_no_try (n == 6) _ _ (λ e. cc e) (
    conditional_is_no_try (n == 7) _ _ (λ e. cc e) (
    conditional_is_no_try (n == 8) _ _ (λ e. cc e) (
    conditional_is_no_try (n == 9) _ _ (λ e. cc e) (
    conditional_is_no_try (n == 10) _ _ (λ e. cc e) (
    conditional_is_no_try (n == 11) _ _ (λ e. cc e) (
    conditional_is_no_try (n == 12) _ _ (λ e. cc e) (
    conditional_is_no_try (n == 13) _ _ (λ e. cc e) (λ e. cc e)))))))))))))

try_has_second_profile : (profile : Profile) (n : ℕ) → call_of profile n ≡ Some call.TryWrite → profile ≡ Two
try_has_second_profile One n e = absurd (first_profile_no_try n e)
try_has_second_profile Two n e = refl

call_ask_permitted : (s : ThreadState) (c : Option Call) → call_at s ≡ c → IsRunning s → Permits s (call_ask c s)
call_ask_permitted s None e runs = runs.lives
call_ask_permitted s (Some call.End) e runs = runs.lives
call_ask_permitted s (Some call.PutByte) e runs = print_ask_permitted s (length (byte_text s)) runs (ap (λ c. length (call_output c s)) (sym e))
call_ask_permitted s (Some call.PutNumber) e runs = print_ask_permitted s (length (number_text s)) runs (ap (λ c. length (call_output c s)) (sym e))
call_ask_permitted s (Some (call.Env kind)) e runs = logged_ask_permitted s (ask.Env kind) runs (λ room. (runs, room))
call_ask_permitted s (Some (call.Enter access)) e runs = entry_ask_permitted s (ask.Enter (a0 s) access) runs (λ room below above. (runs, room, below, above))
call_ask_permitted s (Some call.Leave) e runs = leave_ask_permitted s runs
call_ask_permitted s (Some call.Get) e runs = get_ask_permitted s runs
call_ask_permitted s (Some call.Put) e runs = put_ask_permitted s runs
call_ask_permitted s (Some call.OwnNumber) e runs = runs
call_ask_permitted s (Some call.TryWrite) e runs = entry_ask_permitted s (ask.Try (a0 s)) runs
    (λ room below above. (runs, room, below, above, try_has_second_profile s.profile (a7 s) e))

outcome_ask_permitted : (s : ThreadState) (o : Outcome) → IsRunning s → Permits s (outcome_ask o s)
outcome_ask_permitted s (Goes core) runs = runs
outcome_ask_permitted s (Ends fault) runs = runs.lives
outcome_ask_permitted s Calls runs = call_ask_permitted s (call_at s) refl runs

release_ask_permitted : (s : ThreadState) (h : Option (ℕ × Access)) → highest s.held ≡ h → s.ended ≢ None → Permits s (release_ask h)
release_ask_permitted s None e over = (over, e)
release_ask_permitted s (Some top) e over = let t = highest_is_highest_held s.held top e in ((λ lives. absurd (over lives)), t.below, t.held)

pub ask_of_permitted : (code : List ℕ) (s : ThreadState) → Permits s (ask_of code s)
ask_of_permitted code s = by s.ended refl
  where
    by : (e : Option End) → s.ended ≡ e → Permits s (ask_by code e s)
    by (Some e) is = release_ask_permitted s (highest s.held) refl (λ none. cc (is, none))
    by None is = cond_both (nat_le s.budget s.steps) (ask.End end.BudgetSpent) (outcome_ask (outcome_of code s.core) s) (Permits s)
        (λ _. is)
        (λ more. outcome_ask_permitted s (outcome_of code s.core)
        (record { lives = is; has_budget = let l : s.steps < s.budget = grind (arith, nat_tests) in l }))

pub equal_ask_permitted : (code : List ℕ) (s : ThreadState) (q : Ask) → q ≡ ask_of code s → Permits s q
equal_ask_permitted code s q is = subst (Permits s) (sym is) (ask_of_permitted code s)

pub environment_result_word : (kind : EnvKind) (v : ℕ) → is_result kind v ≡ true → IsWord v
environment_result_word Clock v h = grind (arith, nat_tests, h)
environment_result_word Random v h = grind (arith, nat_tests, h)
environment_result_word Input v h = grind (arith, nat_tests, h)
