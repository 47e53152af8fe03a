-- A thread run alone: its environment and its objects are a list of values.
use Rattle.std.specs.Prelude.{◌≡◌, ℕ, zero, suc, List, [], ◌∷◌, length, Option, Some, None, option_and_then, ⊤}
use Rattle.ir_thread.specs.Permitted.{ReplySuits}
use Rattle.ir_thread.specs.State.{ThreadState, ask_of, after_reply}
use Rattle.ir_thread.specs.declared.ask.Ask.{Ask}
use Rattle.ir_thread.specs.declared.ask.Ask.TheVariants as ask
use Rattle.ir_thread.specs.declared.ask.Reply.{Reply}
use Rattle.ir_thread.specs.declared.ask.Reply.TheVariants.{Go, Value}

-- a thread, and the values that its calls of the environment, its tries and its reads of objects are still to be answered
pub record Lone : Type 0 where
  pub thread : ThreadState
  pub values : List ℕ

-- the reply with the next value, and the values after it
abbrev pub next_value : List ℕ → Option (Reply × List ℕ)
next_value [] = None
next_value (value ∷ values) = Some (Value value, values)

-- the reply to what is asked, and the values after it; none where there is no step, or the values are used up
abbrev pub lone_reply : Ask → List ℕ → Option (Reply × List ℕ)
lone_reply (ask.Env kind) values = next_value values
lone_reply (ask.Try object) values = next_value values
lone_reply (ask.Get object index) values = next_value values
lone_reply ask.Done values = None
lone_reply _ values = Some (Go, values)

-- the thread after the reply, if there is one
abbrev pub lone_after : List ℕ → ThreadState → Option (Reply × List ℕ) → Option Lone
lone_after code s None = None
lone_after code s (Some next) = Some (record { thread = after_reply code s next.0; values = next.1 })

-- the next step
abbrev pub lone_step : List ℕ → Lone → Option Lone
lone_step code l = lone_after code l.thread (lone_reply (ask_of code l.thread) l.values)

-- n steps, if the thread has them
abbrev pub lone_run : List ℕ → ℕ → Lone → Option Lone
lone_run code zero l = Some l
lone_run code (suc steps) l = option_and_then (lone_run code steps) (lone_step code l)

-- each reply fits what the thread asks when it comes
abbrev pub AllSuit : List ℕ → ThreadState → List Reply → Type 0
AllSuit code s [] = ⊤
AllSuit code s (reply ∷ replies) = ReplySuits (ask_of code s) reply × AllSuit code (after_reply code s reply) replies

-- the thread after these replies
abbrev pub after_replies : List ℕ → ThreadState → List Reply → ThreadState
after_replies code s [] = s
after_replies code s (reply ∷ replies) = after_replies code (after_reply code s reply) replies

-- the values, with that of the reply before them
abbrev pub value_before : Reply → List ℕ → List ℕ
value_before Go values = values
value_before (Value value) values = value ∷ values

-- the values among the replies
abbrev pub values_of : List Reply → List ℕ
values_of [] = []
values_of (reply ∷ replies) = value_before reply (values_of replies)

-- whoever answers a thread, it is the thread run alone with the values that it was answered
abbrev pub RunsAlone : Type 0
RunsAlone = (code : List ℕ) (s : ThreadState) (replies : List Reply) → AllSuit code s replies
    → lone_run code (length replies) (record { thread = s; values = values_of replies }) ≡ Some
    (record { thread = after_replies code s replies; values = [] })
