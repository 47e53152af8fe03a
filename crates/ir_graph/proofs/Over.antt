-- States in which all threads have ended and hold nothing.
use Rattle.std.proofs.Common.{◌≡◌, ℕ, zero, suc, ◌<◌, Bool, true, false, Option, Some, None, List, [], ◌∷◌, length, get_or, refl, sym, ap, ◌∙◌, subst, arith, inl, inr}
use Rattle.std.specs.Prelude.{◌&&◌, is_some, is_none}
use Rattle.std.proofs.lemmas.Bool.{cases_lt}
use Rattle.ir_runs.specs.Run.{IsDone}
use Rattle.ir_runs.specs.declared.access.Access.{Access}
use Rattle.ir_thread.specs.Permitted.{Permits}
use Rattle.ir_thread.specs.State.{highest, ThreadState, ask_of, ask_by, release_ask, shared_ask}
use Rattle.ir_thread.specs.declared.ask.Ask.TheVariants as ask
use Rattle.ir_thread.specs.declared.end.End.{End}
use Rattle.ir_thread.proofs.CallerLemmas.{ask_of_permitted}
use Rattle.ir_flat.specs.Flat.{Flat, machine, tables, thread_of, idle}
use Rattle.ir_thread_bytes.specs.Frozen.{is_over}
use Rattle.ir_state_store.specs.Table.{all_over}
use Rattle.ir_graph.proofs.Leads.{past_threads_ask_done}
use Rattle.ir_likeness.proofs.CallerLemmas.{shared_done_ask_done}

-- a thread that is over asks for nothing
pub over_asks_done : (code : List ℕ) (s : ThreadState) → is_over s ≡ true → ask_of code s ≡ ask.Done
over_asks_done code s is = by s.ended (highest s.held) refl is
  where
    by : (e : Option End) (h : Option (ℕ × Access)) → highest s.held ≡ h → (is_some e && is_none h) ≡ true → ask_by code e s ≡ ask.Done
    by None h q never = absurd (cc never)
    by (Some e) None q never = ap release_ask q
    by (Some e) (Some top) q never = absurd (cc never)

-- who asks for nothing is over
over_if_ask_is_done : (code : List ℕ) (s : ThreadState) → ask_of code s ≡ ask.Done → is_over s ≡ true
over_if_ask_is_done code s is = by s.ended (highest s.held) refl refl (subst (Permits s) is (ask_of_permitted code s))
  where
    by : (e : Option End) (h : Option (ℕ × Access)) → s.ended ≡ e → highest s.held ≡ h → Permits s ask.Done → (is_some e && is_none h) ≡ true
    by None h p q permits = absurd (permits.0 p)
    by (Some e) None p q permits = refl
    by (Some e) (Some top) p q permits = absurd (cc (sym q ∙ permits.1))

thread_is_over_step : (s : ThreadState) (threads : List ThreadState) (t : ℕ) (d : ThreadState) (b : Bool) → is_over s ≡ b → (b && all_over threads) ≡ true
    → t < suc (length threads) → ((u : ℕ) → all_over threads ≡ true → u < length threads → is_over (get_or threads u d) ≡ true)
    → is_over (get_or (s ∷ threads) t d) ≡ true
thread_is_over_step s threads zero d true is all lt rest = is
thread_is_over_step s threads (suc t) d true is all lt rest = rest t all (omega (arith, lt))
thread_is_over_step s threads t d false is all lt rest = absurd (cc all)

all_over_thread_is_over : (threads : List ThreadState) (t : ℕ) (d : ThreadState) → all_over threads ≡ true → t < length threads → is_over (get_or threads t d) ≡ true
all_over_thread_is_over [] t d all lt = absurd (omega (arith, lt))
all_over_thread_is_over (s ∷ threads) t d all lt = thread_is_over_step s threads t d (is_over s) refl all lt (λ u. all_over_thread_is_over threads u d)

all_over_each : (threads : List ThreadState) (d : ThreadState) → ((t : ℕ) → t < length threads → is_over (get_or threads t d) ≡ true) → all_over threads ≡ true
all_over_each [] d each = refl
all_over_each (s ∷ threads) d each =
    (λ i. each 0 (omega arith) i && all_over_each threads d (λ t lt. each (suc t) (omega (arith, lt))) i)

pub is_done_if_all_over : (f : Flat) → all_over f.threads ≡ true → IsDone (machine f) (tables f)
is_done_if_all_over f all t = elim (cases_lt t (length f.threads)) [
  | inl l ↦ ap shared_ask (over_asks_done f.code (thread_of f t) (all_over_thread_is_over f.threads t idle all l))
  | inr l ↦ ap shared_ask (past_threads_ask_done f t l)
]

pub not_done_not_all_over : (f : Flat) → all_over f.threads ≡ false → IsDone (machine f) (tables f) → ⊥
not_done_not_all_over f never done =
    cc (sym never ∙ all_over_each f.threads idle
    (λ t lt. over_if_ask_is_done f.code (thread_of f t) (shared_done_ask_done (ask_of f.code (thread_of f t)) (done t))))
