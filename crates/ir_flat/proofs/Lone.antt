-- A thread with its replies is the thread run alone.
use Rattle.std.proofs.Common.{◌≡◌, ℕ, zero, suc, List, [], ◌∷◌, Some, refl, inl, inr, ap, ◌∙◌}
use Rattle.ir_thread.specs.Alone.{AllSuit, after_replies}
use Rattle.ir_thread.specs.State.{ask_of, shared_ask, reply_of, thread_machine}
use Rattle.ir_thread.specs.Permitted.{ReplySuits}
use Rattle.ir_runs.specs.Machine.{act_of}
use Rattle.ir_thread.specs.State as thread
use Rattle.ir_thread.specs.declared.ask.Ask.{Ask}
use Rattle.ir_thread.specs.declared.ask.Ask.TheVariants.{Private, Env, Enter, Try, Leave, Get, Put, Print, End, Done}
use Rattle.ir_thread.proofs.CallerLemmas.{lone_run_after_replies}
use Rattle.ir_flat.specs.Splice.{replies_to, AloneIsLone}
use Rattle.ir_flat.specs.Flat.{MayReply, MayRun, alone_after}

allowed_reply_suits : (code : List ℕ) (q : Ask) (v : ℕ) → MayReply (thread_machine code) (act_of (shared_ask q) v) v → ReplySuits q (reply_of q v)
allowed_reply_suits code Private v may = refl
allowed_reply_suits code (Env kind) v may = tt
allowed_reply_suits code (Enter object access) v may = refl
allowed_reply_suits code (Try object) zero may = inr refl
allowed_reply_suits code (Try object) (suc zero) may = inl refl
allowed_reply_suits code (Try object) (suc (suc v)) may = absurd may
allowed_reply_suits code (Leave object access) v may = refl
allowed_reply_suits code (Get object index) v may = tt
allowed_reply_suits code (Put object index value) v may = refl
allowed_reply_suits code Print v may = refl
allowed_reply_suits code (End e) v may = refl
allowed_reply_suits code Done v may = absurd may

allowed_replies_suit : (code : List ℕ) (x : thread.ThreadState) (vs : List ℕ) → MayRun (thread_machine code) x vs → AllSuit code x (replies_to code x vs)
allowed_replies_suit code x [] may = tt
allowed_replies_suit code x (v ∷ vs) may = (allowed_reply_suits code (ask_of code x) v may.0, allowed_replies_suit code ((thread_machine code).take x v) vs may.1)

replies_are_alone_after : (code : List ℕ) (x : thread.ThreadState) (vs : List ℕ)
    → after_replies code x (replies_to code x vs) ≡ alone_after (thread_machine code) x vs
replies_are_alone_after code x [] = refl
replies_are_alone_after code x (v ∷ vs) = replies_are_alone_after code ((thread_machine code).take x v) vs

pub lone_run_is_alone : AloneIsLone
lone_run_is_alone code x vs may = lone_run_after_replies code x (replies_to code x vs) (allowed_replies_suit code x vs may)
    ∙ ap (λ z. Some (record { thread = z; values = [] })) (replies_are_alone_after code x vs)
