-- The calls of a thread, and what they were answered.
use Rattle.std.specs.Prelude.{◌≡◌, ℕ, zero, suc, ◌+◌, List, [], ◌∷◌, ◌++◌}
use Rattle.std.specs.List.{AllByRecursion}
use Rattle.ir_thread.specs.State.{ThreadState, ask_of, a0, reply_of}
use Rattle.ir_thread.specs.Permitted.{ReplySuits}
use Rattle.ir_thread.specs.declared.ask.Ask.{Ask}
use Rattle.ir_thread.specs.declared.ask.Ask.TheVariants as ask
use Rattle.ir_thread.specs.declared.ask.Reply.{Reply}
use Rattle.ir_fit.specs.Fit.{FittedTrace}
use Rattle.ir_cut.specs.Positions.{EachRun, thread_at}
use Rattle.ir_event_walk.specs.declared.exchange.Exchange.{Exchange}

-- what a step was answered, by the thread before it and the thread after it
abbrev pub reply_between : List ℕ → ThreadState → ThreadState → Reply
reply_between code before next = reply_of (ask_of code before) (a0 next)

-- a step's call; none, if the step is private
abbrev pub call_by : Ask → Reply → List Exchange
call_by ask.Private reply = []
call_by asked reply = record { asked = asked; reply = reply } ∷ []

-- the call of step k of a thread that is `at` k after k of its steps
abbrev pub exchange_at : List ℕ → (ℕ → ThreadState) → ℕ → List Exchange
exchange_at code at k = call_by (ask_of code (at k)) (reply_between code (at k) (at (suc k)))

-- the calls of its n steps from step k on
unfoldable pub calls_in : List ℕ → (ℕ → ThreadState) → ℕ → ℕ → List Exchange
calls_in code at k zero = []
calls_in code at k (suc n) = calls_in code at k n ++ exchange_at code at (k + n)

-- each reply fits what was asked
abbrev pub AllSuit : List Exchange → Type 0
AllSuit calls = AllByRecursion (λ (c : Exchange). ReplySuits c.asked c.reply) calls

-- the calls of n steps of thread t from position k on
pub record AreCalls (f : FittedTrace) (t k n : ℕ) (calls : List Exchange) : Type 0 where
  pub same : EachRun f (λ run. calls ≡ calls_in f.guest.code (thread_at f run t) k n)
  pub suit : AllSuit calls
