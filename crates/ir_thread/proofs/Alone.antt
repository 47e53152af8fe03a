-- Whoever answers a thread, it is the thread run alone.
use Rattle.std.proofs.Common.{◌≡◌, ℕ, List, [], ◌∷◌, length, Option, Some, refl, inl, inr, ap, ◌∙◌}
use Rattle.std.specs.Prelude.{option_and_then}
use Rattle.ir_thread.specs.Alone.{lone_reply, lone_after, lone_run, AllSuit, after_replies, value_before, values_of}
use Rattle.ir_thread.specs.Permitted.{ReplySuits}
use Rattle.ir_thread.specs.State.{ThreadState, ask_of, after_reply}
use Rattle.ir_thread.specs.declared.ask.Ask.{Ask}
use Rattle.ir_thread.specs.declared.ask.Ask.TheVariants.{Private, Env, Enter, Try, Leave, Get, Put, Print, End, Done}
use Rattle.ir_thread.specs.declared.ask.Reply.{Reply}
use Rattle.ir_thread.specs.declared.ask.Reply.TheVariants.{Go, Value}

go_reply_takes_no_value : (r : Reply) (vs : List ℕ) → r ≡ Go → ◌≡◌ {A = Option (Reply × List ℕ)} (Some (Go, value_before r vs)) (Some (r, vs))
go_reply_takes_no_value Go vs e = refl
go_reply_takes_no_value (Value v) vs e = absurd (cc e)

lone_reply_of_suiting : (q : Ask) (r : Reply) (vs : List ℕ) → ReplySuits q r → lone_reply q (value_before r vs) ≡ Some (r, vs)
lone_reply_of_suiting Private r vs e = go_reply_takes_no_value r vs e
lone_reply_of_suiting (Env kind) Go vs e = absurd e
lone_reply_of_suiting (Env kind) (Value v) vs e = refl
lone_reply_of_suiting (Enter object access) r vs e = go_reply_takes_no_value r vs e
lone_reply_of_suiting (Try object) Go vs e = elim e [ inl one ↦ absurd (cc one) | inr none ↦ absurd (cc none) ]
lone_reply_of_suiting (Try object) (Value v) vs e = refl
lone_reply_of_suiting (Leave object access) r vs e = go_reply_takes_no_value r vs e
lone_reply_of_suiting (Get object index) Go vs e = absurd e
lone_reply_of_suiting (Get object index) (Value v) vs e = refl
lone_reply_of_suiting (Put object index value) r vs e = go_reply_takes_no_value r vs e
lone_reply_of_suiting Print r vs e = go_reply_takes_no_value r vs e
lone_reply_of_suiting (End x) r vs e = go_reply_takes_no_value r vs e
lone_reply_of_suiting Done r vs e = absurd e

pub lone_run_after_replies : (code : List ℕ) (s : ThreadState) (replies : List Reply) → AllSuit code s replies
    → lone_run code (length replies) (record { thread = s; values = values_of replies }) ≡ Some
    (record { thread = after_replies code s replies; values = [] })
lone_run_after_replies code s [] ok = refl
lone_run_after_replies code s (r ∷ rs) ok =
    ap (λ next. option_and_then (lone_run code (length rs)) (lone_after code s next)) (lone_reply_of_suiting (ask_of code s) r (values_of rs) ok.0)
    ∙ lone_run_after_replies code (after_reply code s r) rs ok.1
