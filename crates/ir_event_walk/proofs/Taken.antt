-- Steps of a thread in a run, and the calls among them.
use Rattle.std.proofs.Common.{◌≡◌, ◌⊎◌, ◌+◌, ◌-◌, ◌<◌, ◌≤◌, ℕ, zero, suc, List, [], ◌∷◌, ◌++◌, length, set, refl, sym, ap, ◌∙◌, subst}
use Rattle.std.proofs.Common.{arith, inl, inr, length-set, get_or-set_same, append-nil, append_assoc}
use Rattle.std.specs.Prelude.{slice_index, slice_set}
use Rattle.std.proofs.lemmas.Bool.{cases_lt}
use Rattle.std.proofs.lemmas.List.{get_or_past}
use Rattle.ir_thread.specs.State as thread
use Rattle.ir_thread.specs.State.{ask_of, a0, after_ask, after_reply, shared_ask, reply_of}
use Rattle.ir_thread.specs.Permitted.{step_of, run_of, ReplySuits}
use Rattle.ir_thread.specs.Private.{PrivateSteps}
use Rattle.ir_thread.specs.declared.ask.Ask.{Ask}
use Rattle.ir_thread.specs.declared.ask.Ask.TheVariants as ask
use Rattle.ir_thread.specs.declared.ask.Reply.{Reply}
use Rattle.ir_thread.specs.declared.ask.Reply.TheVariants.{Go, Value}
use Rattle.ir_runs.specs.Machine.{act_of, Object, Admits, reply}
use Rattle.ir_runs.specs.Run.{Step, count}
use Rattle.ir_flat.specs.Flat.{thread_of}
use Rattle.ir_fit.specs.Fit.{FittedTrace, IsRunOf}
use Rattle.ir_cut.specs.Positions.{machine_of, start_of, thread_at}
use Rattle.ir_weave.specs.Ahead.{ask_at}
use Rattle.ir_weave.specs.Standing.{Standing, StandsAtCut, flat_in, positions}
use Rattle.ir_weave.specs.Stepping.{HasGone}
use Rattle.ir_weave.proofs.CallerLemmas.{StepOf, emitting_is_step_of, step_below_count_emits}
use Rattle.ir_event_walk.specs.Calls.{reply_between, call_by, exchange_at, calls_in, AllSuit, AreCalls}
use Rattle.ir_event_walk.specs.declared.exchange.Exchange.{Exchange}

-- ---- a step

-- what is read after a word was set, which is 0 where there is no such place
slice_index_set_or_zero : (xs : List ℕ) (i v : ℕ) → (slice_index (slice_set xs i v) i ≡ v) ⊎ (slice_index (slice_set xs i v) i ≡ 0)
slice_index_set_or_zero xs i v = elim (cases_lt i (length xs)) [
  | inl l ↦ inl (get_or-set_same xs i v 0 l)
  | inr past ↦ inr (get_or_past (set xs i v) i 0 (let n = length-set xs i v in omega (arith, n, past)))
]

-- an answer of 1 or 0 to a try is read as such
try_reply_one_or_zero : (xs : List ℕ) (v a : ℕ) → (v ≡ 1) ⊎ (v ≡ 0) → a ≡ slice_index (slice_set xs 10 v) 10 → (Value a ≡ Value 1) ⊎ (Value a ≡ Value 0)
try_reply_one_or_zero xs v a (inl one) e = elim (slice_index_set_or_zero xs 10 v) [
  | inl same ↦ inl (ap Value (e ∙ same ∙ one))
  | inr none ↦ inr (ap Value (e ∙ none))
]
try_reply_one_or_zero xs v a (inr zeroed) e = elim (slice_index_set_or_zero xs 10 v) [
  | inl same ↦ inr (ap Value (e ∙ same ∙ zeroed))
  | inr none ↦ inr (ap Value (e ∙ none))
]

-- what is read of an answer fits what was asked
register_reply_suits : (f : FittedTrace) (code : List ℕ) (x y : thread.ThreadState) (q : Ask) (r : ℕ) (b : Object) → Admits (machine_of f) (act_of (shared_ask q) r) b
    → y ≡ after_ask code x q (reply_of q (reply (act_of (shared_ask q) r) b)) → ReplySuits q (reply_of q (a0 y))
register_reply_suits f code x y ask.Private r b can e = refl
register_reply_suits f code x y (ask.Env kind) r b can e = tt
register_reply_suits f code x y (ask.Enter o a) r b can e = refl
register_reply_suits f code x y (ask.Try o) zero b can e = try_reply_one_or_zero x.core.registers 0 (a0 y) (inr refl) (ap a0 e)
register_reply_suits f code x y (ask.Try o) (suc zero) b can e = try_reply_one_or_zero x.core.registers 1 (a0 y) (inl refl) (ap a0 e)
register_reply_suits f code x y (ask.Try o) (suc (suc r)) b can e = absurd can
register_reply_suits f code x y (ask.Leave o a) r b can e = refl
register_reply_suits f code x y (ask.Get o i) r b can e = tt
register_reply_suits f code x y (ask.Put o i w) r b can e = refl
register_reply_suits f code x y ask.Print r b can e = refl
register_reply_suits f code x y (ask.End z) r b can e = refl
register_reply_suits f code x y ask.Done r b can e = absurd can

next_thread_after_ask : (f : FittedTrace) (run : List Step) → IsRunOf f.guest f.recorded run → (t k : ℕ) → k < count (machine_of f) (start_of f) run t
    → (v : ℕ) × (thread_at f run t (suc k) ≡ after_ask f.guest.code (thread_at f run t k) (ask_at f run t k) (reply_of (ask_at f run t k) v))
    × ReplySuits (ask_at f run t k) (reply_between f.guest.code (thread_at f run t k) (thread_at f run t (suc k)))
unfolding after_reply
next_thread_after_ask f run of t k l =
    let at = step_below_count_emits f run t k l in
    let z : StepOf (machine_of f) (thread_at f run t k) (thread_at f run t (suc k)) at.0 =
    emitting_is_step_of (machine_of f) (start_of f) run of.1.runs t k at.0 at.1 in (
      reply (act_of (shared_ask (ask_at f run t k)) z.result) z.object,
      z.next,
      register_reply_suits f f.guest.code (thread_at f run t k) (thread_at f run t (suc k)) (ask_at f run t k) z.result z.object z.can z.next,
    )

-- ---- private steps

private_next_is_step : (code : List ℕ) (x y : thread.ThreadState) (q : Ask) (v : ℕ) → q ≡ ask_of code x → y ≡ after_ask code x q (reply_of q v)
    → q ≡ ask.Private → y ≡ step_of code x
unfolding step_of after_reply
private_next_is_step code x y q v is e private =
    e ∙ ap (λ (z : Ask). after_ask code x z (reply_of z v)) private ∙ ap (λ (z : Ask). after_ask code x z Go) (sym private ∙ is)

-- a thread of the run after private steps
run_thread_after_private : (f : FittedTrace) (run : List Step) → IsRunOf f.guest f.recorded run → (t k n : ℕ)
    → k + n ≤ count (machine_of f) (start_of f) run t
    → ((j : ℕ) → j < n → ask_of f.guest.code (run_of f.guest.code j (thread_at f run t k)) ≡ ask.Private)
    → (j : ℕ) → j ≤ n → thread_at f run t (k + j) ≡ run_of f.guest.code j (thread_at f run t k)
unfolding run_of
run_thread_after_private f run of t k n within each zero l = let on : k + zero ≡ k = omega arith in ap (thread_at f run t) on
run_thread_after_private f run of t k n within each (suc j) l =
    let on : k + suc j ≡ suc (k + j) = omega arith in
    let before = run_thread_after_private f run of t k n within each j (omega (arith, l)) in
    let s = next_thread_after_ask f run of t (k + j) (omega (arith, l, within)) in
    let private : ask_at f run t (k + j) ≡ ask.Private = ap (ask_of f.guest.code) before ∙ each j (omega (arith, l)) in
    ap (thread_at f run t) on
    ∙ private_next_is_step f.guest.code (thread_at f run t (k + j)) (thread_at f run t (suc (k + j))) (ask_at f run t (k + j)) s.0 refl s.1 private
    ∙ ap (step_of f.guest.code) before

-- there is no call among private steps
private_has_no_calls : (code : List ℕ) (at : ℕ → thread.ThreadState) (k n : ℕ) → ((j : ℕ) → j < n → ask_of code (at (k + j)) ≡ ask.Private)
    → calls_in code at k n ≡ []
unfolding calls_in
private_has_no_calls code at k zero each = refl
private_has_no_calls code at k (suc n) each =
    ap (λ (z : List Exchange × Ask). z.0 ++ call_by z.1 (reply_between code (at (k + n)) (at (suc (k + n)))))
    (λ i. (private_has_no_calls code at k n (λ j l. each j (omega (arith, l))) i, each n (omega arith) i))

-- thread t of a state goes on over private steps
pub private_calls_nothing : (f : FittedTrace) (code : List ℕ) (old new : Standing) (t n : ℕ) → code ≡ f.guest.code
    → StandsAtCut f (positions (flat_in f old)) old → StandsAtCut f (positions (flat_in f new)) new → HasGone (flat_in f old) (flat_in f new) t n
    → PrivateSteps code n (thread_of (flat_in f old) t) (thread_of (flat_in f new) t) → AreCalls f t (positions (flat_in f old) t) n []
private_calls_nothing f code old new t n is stands stands' gone steps = record {
  same = λ run of.
      let k : ℕ = positions (flat_in f old) t in
      let x : thread_of (flat_in f old) t ≡ thread_at f run t k = (stands.at.each run of).threads t in
      let each : ((j : ℕ) → j < n → ask_of f.guest.code (run_of f.guest.code j (thread_at f run t k)) ≡ ask.Private) =
      λ j l. subst (λ (z : List ℕ × thread.ThreadState). ask_of z.0 (run_of z.0 j z.1) ≡ ask.Private) (λ i. (is i, x i)) (steps.each j l) in
      let within : k + n ≤ count (machine_of f) (start_of f) run t =
      (let a = (stands'.at.each run of).cut t in let b = gone.own in omega (arith, a, b)) in
      sym (private_has_no_calls f.guest.code (thread_at f run t) k n (λ j l. ap (ask_of f.guest.code) (run_thread_after_private f run of t k n within each j (omega (arith, l)))
      ∙ each j l));
  suit = tt;
}

-- ---- a step, by what is asked before and is answered behind it

pub calls_in_one_step : (code : List ℕ) (at : ℕ → thread.ThreadState) (k : ℕ) → calls_in code at k 1 ≡ exchange_at code at k
unfolding calls_in
calls_in_one_step code at k = let on : k + zero ≡ k = omega arith in ap (exchange_at code at) on

calls_in_no_step : (code : List ℕ) (at : ℕ → thread.ThreadState) (k : ℕ) → [] ≡ calls_in code at k 0
unfolding calls_in
calls_in_no_step code at k = refl

-- none was taken
pub no_step_no_calls : (f : FittedTrace) (t k n : ℕ) → n ≡ 0 → AreCalls f t k n []
no_step_no_calls f t k n e = record {
  same = λ run of. calls_in_no_step f.guest.code (thread_at f run t) k ∙ ap (calls_in f.guest.code (thread_at f run t) k) (sym e);
  suit = tt;
}

suiting_call_suits : (q : Ask) (r : Reply) → ReplySuits q r → AllSuit (call_by q r)
suiting_call_suits ask.Private r s = tt
suiting_call_suits (ask.Env kind) r s = (s, tt)
suiting_call_suits (ask.Enter o a) r s = (s, tt)
suiting_call_suits (ask.Try o) r s = (s, tt)
suiting_call_suits (ask.Leave o a) r s = (s, tt)
suiting_call_suits (ask.Get o i) r s = (s, tt)
suiting_call_suits (ask.Put o i w) r s = (s, tt)
suiting_call_suits ask.Print r s = (s, tt)
suiting_call_suits (ask.End z) r s = (s, tt)
suiting_call_suits ask.Done r s = (s, tt)

pub calls_taken_in_one_step : (f : FittedTrace) (code : List ℕ) (run : List Step) (old new : Standing) (t n : ℕ) (asked : Ask) (x y : thread.ThreadState) (calls : List Exchange)
    → IsRunOf f.guest f.recorded run → code ≡ f.guest.code
    → StandsAtCut f (positions (flat_in f old)) old → StandsAtCut f (positions (flat_in f new)) new → HasGone (flat_in f old) (flat_in f new) t n
    → n ≡ 1 → x ≡ thread_of (flat_in f old) t → asked ≡ ask_of code x → y ≡ thread_of (flat_in f new) t
    → calls ≡ call_by asked (reply_of asked (a0 y)) → AreCalls f t (positions (flat_in f old) t) n calls
calls_taken_in_one_step f code run0 old new t n asked x y calls of0 is stands stands' gone one before asks behind made = record {
  same = λ run of. (here run of).0;
  suit = (here run0 of0).1;
}
  where
    here : (run : List Step) → IsRunOf f.guest f.recorded run
        → (calls ≡ calls_in f.guest.code (thread_at f run t) (positions (flat_in f old) t) n) × AllSuit calls
    here run of =
        let k : ℕ = positions (flat_in f old) t in
        let x' : x ≡ thread_at f run t k = before ∙ (stands.at.each run of).threads t in
        let up : positions (flat_in f new) t ≡ suc k = (let a = gone.own in omega (arith, a, one)) in
        let y' : y ≡ thread_at f run t (suc k) = behind ∙ (stands'.at.each run of).threads t ∙ ap (thread_at f run t) up in
        let asks' : asked ≡ ask_at f run t k = asks ∙ (λ i. ask_of (is i) (x' i)) in
        let call : calls ≡ exchange_at f.guest.code (thread_at f run t) k =
        made ∙ (λ i. call_by (asks' i) (reply_of (asks' i) (a0 (y' i)))) in
        let less : k < count (machine_of f) (start_of f) run t = (let a = (stands'.at.each run of).cut t in omega (arith, a, up)) in (
          call ∙ sym (calls_in_one_step f.guest.code (thread_at f run t) k) ∙ ap (calls_in f.guest.code (thread_at f run t) k) (sym one),
          subst AllSuit (sym call) (suiting_call_suits (ask_at f run t k) (reply_between f.guest.code (thread_at f run t k) (thread_at f run t (suc k)))
              (next_thread_after_ask f run of t k less).2),
        )

-- ---- calls after others

calls_in_sum_of_steps : (code : List ℕ) (at : ℕ → thread.ThreadState) (k n more : ℕ)
    → calls_in code at k (n + more) ≡ calls_in code at k n ++ calls_in code at (k + n) more
unfolding calls_in
calls_in_sum_of_steps code at k n zero =
    let on : n + zero ≡ n = omega arith in ap (calls_in code at k) on ∙ sym (append-nil (calls_in code at k n))
calls_in_sum_of_steps code at k n (suc more) =
    let on : n + suc more ≡ suc (n + more) = omega arith in
    let there : k + (n + more) ≡ k + n + more = omega arith in
    ap (calls_in code at k) on ∙ ap (λ (z : List Exchange). z ++ exchange_at code at (k + (n + more))) (calls_in_sum_of_steps code at k n more)
    ∙ append_assoc (calls_in code at k n) (calls_in code at (k + n) more) (exchange_at code at (k + (n + more)))
    ∙ ap (λ j. calls_in code at k n ++ (calls_in code at (k + n) more ++ exchange_at code at j)) there

-- those of the steps to `mid`, and of the steps from there to `to`
pub calls_in_split : (code : List ℕ) (at : ℕ → thread.ThreadState) (from mid to : ℕ) → from ≤ mid → mid ≤ to
    → calls_in code at from (to - from) ≡ calls_in code at from (mid - from) ++ calls_in code at mid (to - mid)
calls_in_split code at from mid to l l' =
    let on : to - from ≡ (mid - from) + (to - mid) = omega (arith, l, l') in
    let there : from + (mid - from) ≡ mid = omega (arith, l) in
    ap (calls_in code at from) on ∙ calls_in_sum_of_steps code at from (mid - from) (to - mid)
    ∙ ap (λ j. calls_in code at from (mid - from) ++ calls_in code at j (to - mid)) there

pub all_suit_append : (xs ys : List Exchange) → AllSuit xs → AllSuit ys → AllSuit (xs ++ ys)
all_suit_append [] ys a b = b
all_suit_append (x ∷ xs) ys a b = (a.0, all_suit_append xs ys a.1 b)
