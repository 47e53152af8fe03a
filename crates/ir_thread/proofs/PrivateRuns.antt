-- Steps of the machine as steps of its thread.
use Rattle.std.proofs.Common.{◌≡◌, ◌+◌, ◌-◌, ◌≤◌, ◌<◌, ℕ, zero, suc, Bool, true, false, leb, List, Some, None, refl, sym, ap, subst, ◌∙◌, add-one, add-zero, add-suc, below_more, arith}
use Rattle.std.specs.Prelude.{nat_lt, is_some, Option, MatchOption}
use Rattle.std.proofs.lemmas.Bool.{lt-leb, ltb-true, ltb-false}
use Rattle.std.proofs.lemmas.Option.{option_and_then_some}
use Rattle.ir_mach.specs.Core.{Core, Outcome, Goes, Calls, Ends}
use Rattle.ir_mach.specs.Execution.{outcome_of, past_call}
use Rattle.ir_mach.specs.Steps.{ran_of}
use Rattle.ir_mach.specs.Run.{core_after as machine_after, core_of}
use Rattle.ir_thread.specs.State.{ThreadState, end_of_fault, ask_of, after_ask, after_reply, core_after}
use Rattle.ir_thread.specs.Permitted.{step_of, run_of, IsRunning, Permits}
use Rattle.ir_thread.specs.Private.{PrivateSteps, NoInstruction}
use Rattle.ir_thread.specs.declared.ask.Ask.TheVariants as ask
use Rattle.ir_thread.specs.declared.ask.Reply.TheVariants.{Go}
use Rattle.ir_thread.specs.declared.end.End.{End}
use Rattle.ir_thread.proofs.Asked.{ask_of_permitted}
use Rattle.ir_mach.proofs.CallerLemmas.{outcome_goes_if_core}

-- a thread that hasn't ended has a step for each that its budget leaves
pub ended_none_unless_some : (ended : Option End) → is_some ended ≡ false → ended ≡ None
ended_none_unless_some None e = refl
ended_none_unless_some (Some end) e = absurd cc

pub match_case_if_none : (ended : Option End) (P Q : Type 0) → ended ≡ None → MatchOption ended P (λ _. Q) → P
match_case_if_none None P Q e p = p
match_case_if_none (Some end) P Q e p = absurd cc

-- the thread with another machine and n steps more
abbrev pub thread_after_private_steps : ThreadState → Core → ℕ → ThreadState
thread_after_private_steps s core n = record {
  core = core;
  number = s.number;
  held = s.held;
  budget = s.budget;
  profile = s.profile;
  form = s.form;
  steps = s.steps + n;
  events =
      s.events;
  output = s.output;
  ended = s.ended;
}

advanced_asks_private : (code : List ℕ) (s : ThreadState) (earlier core : Core) (n : ℕ) → s.ended ≡ None → s.steps + n < s.budget
    → outcome_of code earlier ≡ Goes core → ask_of code (thread_after_private_steps s earlier n) ≡ ask.Private
advanced_asks_private code s earlier core n ended_none_unless_some lt goes =
    let within : leb s.budget (s.steps + n) ≡ false = lt-leb s.budget (s.steps + n) lt in
    rw (ended_none_unless_some, within, goes) refl

step_of_advanced_thread : (code : List ℕ) (s : ThreadState) (earlier core : Core) (n : ℕ) → s.ended ≡ None → s.steps + n < s.budget
    → outcome_of code earlier ≡ Goes core → step_of code (thread_after_private_steps s earlier n) ≡ thread_after_private_steps s core (n + 1)
unfolding step_of after_reply
step_of_advanced_thread code s earlier core n ended_none_unless_some lt goes =
    let e : s.steps + n + 1 ≡ s.steps + (n + 1) = omega arith in
    ap (λ a. after_ask code (thread_after_private_steps s earlier n) a Go) (advanced_asks_private code s earlier core n ended_none_unless_some lt goes) ∙ rw (goes, e) refl

pub record IsPrivateRun (code : List ℕ) (s : ThreadState) (core : Core) (n : ℕ) : Type 0 where
  pub ends : run_of code n s ≡ thread_after_private_steps s core n
  pub each : (k : ℕ) → k < n → ask_of code (run_of code k s) ≡ ask.Private

private_run_step : (code : List ℕ) (s : ThreadState) (earlier core : Core) (n : ℕ) → s.ended ≡ None → s.steps + n < s.budget
    → outcome_of code earlier ≡ Goes core → IsPrivateRun code s earlier n → IsPrivateRun code s core (suc n)
unfolding run_of
private_run_step code s earlier core n ended_none_unless_some lt goes before =
    let here : ask_of code (run_of code n s) ≡ ask.Private = ap (λ t. ask_of code t) before.ends
    ∙ advanced_asks_private code s earlier core n ended_none_unless_some lt goes in
    record {
      ends = ap (λ t. step_of code t) before.ends ∙ step_of_advanced_thread code s earlier core n ended_none_unless_some lt goes
          ∙ ap (λ (m : ℕ). thread_after_private_steps s core m) (add-one n);
      each = λ k below. below_more (λ (j : ℕ). ask_of code (run_of code j s) ≡ ask.Private) n before.each here k (omega arith);
    }

pub private_run_of_machine : (code : List ℕ) (s : ThreadState) (n : ℕ) (core : Core) → s.ended ≡ None → s.steps + n ≤ s.budget
    → machine_after n code s.core ≡ Some core → IsPrivateRun code s core n
unfolding run_of machine_after
private_run_of_machine code s zero core ended_none_unless_some le e =
    let same : s.core ≡ core = cc in
    let whole : s ≡ thread_after_private_steps s s.core 0 = rw (add-zero s.steps) refl in
    record { ends = whole ∙ ap (λ (c : Core). thread_after_private_steps s c 0) same; each = λ k below. absurd (omega arith) }
private_run_of_machine code s (suc n) core ended_none_unless_some le e =
    option_and_then_some (λ earlier. core_of (outcome_of code earlier)) (machine_after n code s.core) core e
    (λ earlier g k. private_run_step code s earlier core n ended_none_unless_some (omega arith) (outcome_goes_if_core (outcome_of code earlier) core k)
    (private_run_of_machine code s n earlier ended_none_unless_some (omega arith) g))

-- the thread that has taken no step
pub zero_private_steps : (code : List ℕ) (s : ThreadState) → PrivateSteps code 0 s s
unfolding run_of
zero_private_steps code s = record { steps = refl; each = λ k below. absurd (omega arith) }

pub private_of_machine_steps : (code : List ℕ) (s : ThreadState) (n : ℕ) (core : Core) → s.ended ≡ None → s.steps + n ≤ s.budget
    → machine_after n code s.core ≡ Some core → PrivateSteps code n s (thread_after_private_steps s core n)
private_of_machine_steps code s n core ended_none_unless_some le e = let ran = private_run_of_machine code s n core ended_none_unless_some le e in record { steps = sym ran.ends; each = ran.each }

-- ---- private steps after others

run_of_sum : (code : List ℕ) (first more : ℕ) (s : ThreadState) → run_of code (first + more) s ≡ run_of code more (run_of code first s)
unfolding run_of
run_of_sum code first zero s = rw (add-zero first) refl
run_of_sum code first (suc more) s = rw (add-suc first more) (ap (λ t. step_of code t) (run_of_sum code first more s))

pub private_steps_append : (code : List ℕ) (first more : ℕ) (s middle t : ThreadState) → PrivateSteps code first s middle → PrivateSteps code more middle t
    → PrivateSteps code (first + more) s t
private_steps_append code first more s middle t before after = record {
  steps = after.steps ∙ ap (λ m. run_of code more m) before.steps ∙ sym (run_of_sum code first more s);
  each = λ k below. by k below (nat_lt k first) refl;
}
  where
    by : (k : ℕ) → k < first + more → (b : Bool) → nat_lt k first ≡ b → ask_of code (run_of code k s) ≡ ask.Private
    by k below true e = before.each k (ltb-true k first e)
    by k below false e =
        let past : first ≤ k = ltb-false k first e in
        let split : first + (k - first) ≡ k = omega (arith, past) in
        let there : run_of code k s ≡ run_of code (k - first) middle =
        ap (λ (n : ℕ). run_of code n s) (sym split) ∙ run_of_sum code first (k - first) s
        ∙ ap (λ m. run_of code (k - first) m) (sym before.steps) in
        ap (λ u. ask_of code u) there ∙ after.each (k - first) (omega (arith, past, below))

-- a private step more
pub private_steps_one_more : (code : List ℕ) (first : ℕ) (s middle t : ThreadState) → PrivateSteps code first s middle → ask_of code middle ≡ ask.Private
    → t ≡ after_reply code middle Go
    → PrivateSteps code (first + 1) s t
unfolding run_of step_of
private_steps_one_more code first s middle t before advanced_asks_private goes =
    let here : middle ≡ run_of code first s = before.steps in
    record {
      steps = goes ∙ ap (λ m. after_reply code m Go) here ∙ ap (λ (n : ℕ). run_of code n s) (sym (add-one first));
      each = λ k below. below_more (λ (j : ℕ). ask_of code (run_of code j s) ≡ ask.Private) first before.each
          (ap (λ m. ask_of code m) (sym here) ∙ advanced_asks_private) k (omega arith);
    }

-- a private step that is no instruction goes past the call that answers the thread's number
pub reply_to_own_number : (code : List ℕ) (s : ThreadState) (number : ℕ) → s.number ≡ number → ask_of code s ≡ ask.Private → NoInstruction code s
    → after_reply code s Go ≡ record s { core = past_call s.core (Some number); steps = s.steps + 1 }
unfolding after_reply
reply_to_own_number code s number is private none =
    let lives : IsRunning s = subst (Permits s) private (ask_of_permitted code s) in
    ap (λ a. after_ask code s a Go) private
    ∙ ap (λ (c : Core). record s { core = c; steps = s.steps + 1 }) (by lives (outcome_of code s.core) refl)
  where
    by : IsRunning s → (o : Outcome) → outcome_of code s.core ≡ o
        → core_after s.number (outcome_of code s.core) s.core ≡ past_call s.core (Some number)
    by lives (Goes core) there = absurd (none lives.lives lives.has_budget (ap ran_of there))
    by lives Calls there = ap (λ o. core_after s.number o s.core) there ∙ ap (λ (n : ℕ). past_call s.core (Some n)) is
    by lives (Ends fault) there =
        let within : leb s.budget s.steps ≡ false = lt-leb s.budget s.steps lives.has_budget in
        let ends : ask_of code s ≡ ask.End (end_of_fault fault) = rw (lives.lives, within, there) refl in
        let never : ask.Private ≡ ask.End (end_of_fault fault) = sym private ∙ ends in absurd cc

-- ---- the first of them, and what they leave as it is

pub private_steps_prefix : (code : List ℕ) (k n : ℕ) (s t : ThreadState) → k ≤ n → PrivateSteps code n s t → PrivateSteps code k s (run_of code k s)
private_steps_prefix code k n s t le p = record { steps = refl; each = λ j l. p.each j (omega (arith, l, le)) }

-- all of a thread but its machine and its position
pub record KeepsOwnParts (s t : ThreadState) : Type 0 where
  pub number : t.number ≡ s.number
  pub held : t.held ≡ s.held
  pub budget : t.budget ≡ s.budget
  pub profile : t.profile ≡ s.profile
  pub form : t.form ≡ s.form
  pub events : t.events ≡ s.events
  pub output : t.output ≡ s.output
  pub ended : t.ended ≡ s.ended

private_step_keeps : (code : List ℕ) (s : ThreadState) → ask_of code s ≡ ask.Private → KeepsOwnParts s (step_of code s)
unfolding step_of after_reply
private_step_keeps code s is = record {
  number = ap (λ a. (after_ask code s a Go).number) is;
  held = ap (λ a. (after_ask code s a Go).held) is;
  budget = ap (λ a. (after_ask code s a Go).budget) is;
  profile = ap (λ a. (after_ask code s a Go).profile) is;
  form = ap (λ a. (after_ask code s a Go).form) is;
  events = ap (λ a. (after_ask code s a Go).events) is;
  output = ap (λ a. (after_ask code s a Go).output) is;
  ended = ap (λ a. (after_ask code s a Go).ended) is;
}

keeps_own_trans : (s m t : ThreadState) → KeepsOwnParts s m → KeepsOwnParts m t → KeepsOwnParts s t
keeps_own_trans s m t a b = record {
  number = b.number ∙ a.number;
  held = b.held ∙ a.held;
  budget = b.budget ∙ a.budget;
  profile = b.profile ∙ a.profile;
  form = b.form ∙ a.form;
  events = b.events ∙ a.events;
  output = b.output ∙ a.output;
  ended = b.ended ∙ a.ended;
}

private_run_keeps_parts : (code : List ℕ) (n : ℕ) (s : ThreadState) → ((k : ℕ) → k < n → ask_of code (run_of code k s) ≡ ask.Private)
    → KeepsOwnParts s (run_of code n s)
unfolding run_of
private_run_keeps_parts code zero s each = record { number = refl; held = refl; budget = refl; profile = refl; form = refl; events = refl; output = refl; ended = refl }
private_run_keeps_parts code (suc n) s each =
    keeps_own_trans s (run_of code n s) (step_of code (run_of code n s)) (private_run_keeps_parts code n s (λ k l. each k (omega (arith, l))))
    (private_step_keeps code (run_of code n s) (each n (omega arith)))

pub private_steps_keep : (code : List ℕ) (n : ℕ) (s t : ThreadState) → PrivateSteps code n s t → KeepsOwnParts s t
private_steps_keep code n s t p = subst (KeepsOwnParts s) (sym p.steps) (private_run_keeps_parts code n s p.each)

-- what is held stays held
pub private_steps_keep_held : (code : List ℕ) (n : ℕ) (s t : ThreadState) → PrivateSteps code n s t → t.held ≡ s.held
private_steps_keep_held code n s t p = (private_steps_keep code n s t p).held
