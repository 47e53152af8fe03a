-- What the steps of a thread ask, by its calls.
use Rattle.std.proofs.Common.{◌≡◌, ◌+◌, ◌<◌, ◌≤◌, ℕ, zero, suc, List, [], ◌∷◌, ◌++◌, refl, sym, ap, ◌∙◌, subst, arith, inl, inr}
use Rattle.std.proofs.lemmas.Bool.{cases_lt}
use Rattle.ir_thread.specs.State as thread
use Rattle.ir_thread.specs.State.{ask_of}
use Rattle.ir_thread.specs.declared.ask.Ask.{Ask}
use Rattle.ir_thread.specs.declared.ask.Ask.TheVariants as ask
use Rattle.ir_thread.specs.declared.ask.Reply.{Reply}
use Rattle.ir_fit.specs.Fit.{FittedTrace}
use Rattle.ir_cut.specs.Positions.{EachRun, thread_at}
use Rattle.ir_weave.specs.Ahead.{ask_at}
use Rattle.ir_event_walk.specs.Calls.{reply_between, call_by, exchange_at, calls_in, AreCalls}
use Rattle.ir_event_walk.specs.declared.exchange.Exchange.{Exchange}
use Rattle.ir_event_walk.proofs.Taken.{calls_in_one_step}

-- ---- one step

no_call_is_private : (q : Ask) (r : Reply) → [] ≡ call_by q r → q ≡ ask.Private
no_call_is_private ask.Private r e = refl
no_call_is_private (ask.Env kind) r e = absurd (cc e)
no_call_is_private (ask.Enter o a) r e = absurd (cc e)
no_call_is_private (ask.Try o) r e = absurd (cc e)
no_call_is_private (ask.Leave o a) r e = absurd (cc e)
no_call_is_private (ask.Get o i) r e = absurd (cc e)
no_call_is_private (ask.Put o i w) r e = absurd (cc e)
no_call_is_private ask.Print r e = absurd (cc e)
no_call_is_private (ask.End z) r e = absurd (cc e)
no_call_is_private ask.Done r e = absurd (cc e)

-- what the first of some calls asks
abbrev first_asked : Ask → List Exchange → Ask
first_asked q [] = q
first_asked q (c ∷ cs) = c.asked

single_call_is_asked : (q : Ask) (r : Reply) (c : Exchange) → c ∷ [] ≡ call_by q r → q ≡ c.asked
single_call_is_asked ask.Private r c e = absurd (cc e)
single_call_is_asked (ask.Env kind) r c e = sym (ap (first_asked ask.Private) e)
single_call_is_asked (ask.Enter o a) r c e = sym (ap (first_asked ask.Private) e)
single_call_is_asked (ask.Try o) r c e = sym (ap (first_asked ask.Private) e)
single_call_is_asked (ask.Leave o a) r c e = sym (ap (first_asked ask.Private) e)
single_call_is_asked (ask.Get o i) r c e = sym (ap (first_asked ask.Private) e)
single_call_is_asked (ask.Put o i w) r c e = sym (ap (first_asked ask.Private) e)
single_call_is_asked ask.Print r c e = sym (ap (first_asked ask.Private) e)
single_call_is_asked (ask.End z) r c e = sym (ap (first_asked ask.Private) e)
single_call_is_asked ask.Done r c e = sym (ap (first_asked ask.Private) e)

-- ---- some steps

empty_append_parts : (xs ys : List Exchange) → [] ≡ xs ++ ys → ([] ≡ xs) × ([] ≡ ys)
empty_append_parts [] ys e = (refl, e)
empty_append_parts (x ∷ xs) ys e = absurd (cc e)

no_calls_asks_private : (code : List ℕ) (at : ℕ → thread.ThreadState) (k n : ℕ) → [] ≡ calls_in code at k n → (j : ℕ) → k ≤ j → j < k + n
    → ask_of code (at j) ≡ ask.Private
unfolding calls_in
no_calls_asks_private code at k zero e j from to = absurd (omega (arith, from, to))
no_calls_asks_private code at k (suc n) e j from to = elim (cases_lt j (k + n)) [
  | inl before ↦ no_calls_asks_private code at k n (empty_append_parts (calls_in code at k n) (exchange_at code at (k + n)) e).0 j from before
  | inr past ↦
      let last : k + n ≡ j = omega (arith, past, to) in
      subst (λ i. ask_of code (at i) ≡ ask.Private) last
      (no_call_is_private (ask_of code (at (k + n))) (reply_between code (at (k + n)) (at (suc (k + n))))
      (empty_append_parts (calls_in code at k n) (exchange_at code at (k + n)) e).1)
]

-- steps of a thread with no call are private
pub no_call_steps_private : (f : FittedTrace) (t k n : ℕ) → AreCalls f t k n [] → (j : ℕ) → k ≤ j → j < k + n → EachRun f (λ run. ask_at f run t j ≡ ask.Private)
no_call_steps_private f t k n calls j from to run of = no_calls_asks_private f.guest.code (thread_at f run t) k n (calls.same run of) j from to

-- a step with a call asks so
pub call_step_asks_call : (f : FittedTrace) (t k n : ℕ) (c : Exchange) → AreCalls f t k n (c ∷ []) → n ≡ 1 → EachRun f (λ run. ask_at f run t k ≡ c.asked)
call_step_asks_call f t k n c calls one run of =
    single_call_is_asked (ask_at f run t k) (reply_between f.guest.code (thread_at f run t k) (thread_at f run t (suc k))) c
    (calls.same run of ∙ ap (calls_in f.guest.code (thread_at f run t) k) one ∙ calls_in_one_step f.guest.code (thread_at f run t) k)
