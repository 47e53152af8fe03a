-- The last step that puts a word, one stretch on and at the leave.
use Rattle.std.proofs.Common.{◌≡◌, ◌+◌, ◌<◌, ◌≤◌, ℕ, Bool, true, false, refl, sym, ap, ◌∙◌, subst, arith, inl, inr, eq-eqb}
use Rattle.std.specs.Prelude.{◌==◌, ◌&&◌, Option, Some, None, option_to_list}
use Rattle.std.proofs.lemmas.Bool.{cases_lt, eqb-true}
use Rattle.ir_lemmas.proofs.CallerLemmas.{conjuncts_are_true, true_is_not_false}
use Rattle.ir_thread.specs.declared.ask.Ask.{Ask}
use Rattle.ir_thread.specs.declared.ask.Ask.TheVariants as ask
use Rattle.ir_fit.specs.Fit.{FittedTrace, HasRun}
use Rattle.ir_cut.specs.Positions.{EachRun}
use Rattle.ir_weave.specs.Ahead.{ask_at}
use Rattle.ir_event_walk.specs.Calls.{AreCalls}
use Rattle.ir_event_walk.specs.declared.exchange.Exchange.{Exchange}
use Rattle.ir_event_walk.proofs.CallerLemmas.{no_call_steps_private, call_step_asks_call}
use Rattle.ir_who_word.specs.Words.{puts_word, PutsAt, IsLastPut, IsPutIn}
use Rattle.ir_who_word.specs.declared.object_word.ObjectWord.{ObjectWord}

-- ---- whether a call puts the word

-- one that does
puts_word_is_put : (w : ObjectWord) (q : Ask) → puts_word w q ≡ true → (value : ℕ) × (q ≡ ask.Put w.object w.index value)
puts_word_is_put w ask.Private e = absurd (cc e)
puts_word_is_put w (ask.Env kind) e = absurd (cc e)
puts_word_is_put w (ask.Enter o a) e = absurd (cc e)
puts_word_is_put w (ask.Try o) e = absurd (cc e)
puts_word_is_put w (ask.Leave o a) e = absurd (cc e)
puts_word_is_put w (ask.Get o i) e = absurd (cc e)
puts_word_is_put w (ask.Put o i value) e =
    let same = conjuncts_are_true (o == w.object) (i == w.index) e in
    (value, λ k. ask.Put (eqb-true o w.object same.0 k) (eqb-true i w.index same.1 k) value)
puts_word_is_put w ask.Print e = absurd (cc e)
puts_word_is_put w (ask.End z) e = absurd (cc e)
puts_word_is_put w ask.Done e = absurd (cc e)

put_puts_word : (w : ObjectWord) (value : ℕ) → puts_word w (ask.Put w.object w.index value) ≡ true
put_puts_word w value = ap (λ (z : Bool × Bool). z.0 && z.1) (λ i. (eq-eqb w.object w.object refl i, eq-eqb w.index w.index refl i))

-- a step that puts the word asks to in the run that there is
step_puts_word : (f : FittedTrace) (w : ObjectWord) (t k : ℕ) (q : Ask) → HasRun f → EachRun f (λ run. ask_at f run t k ≡ q) → PutsAt f w t k
    → puts_word w q ≡ true
step_puts_word f w t k q h asks at =
    let here = at h.run h.whole in
    sym (ap (puts_word w) (sym here.1 ∙ asks h.run h.whole)) ∙ put_puts_word w here.0

-- ---- further on

-- no step more puts the word
pub put_in_more_steps : (f : FittedTrace) (w : ObjectWord) (t from k to : ℕ) (put : Option ℕ) → k ≤ to
    → ((j : ℕ) → k ≤ j → j < to → PutsAt f w t j → ⊥) → IsPutIn f w t from k put → IsPutIn f w t from to put
put_in_more_steps f w t from k to None up none is = λ j past before at. elim (cases_lt j k) [
  | inl less ↦ is j past less at
  | inr more ↦ none j more before at
]
put_in_more_steps f w t from k to (Some s) up none is = record {
  past = is.past;
  before = let l = is.before in omega (arith, l, up);
  puts = is.puts;
  last = λ j past before at. elim (cases_lt j k) [
    | inl less ↦ is.last j past less at
    | inr more ↦ none j more before at
  ];
}

-- there is none before the steps that are looked at
pub put_in_empty_range : (f : FittedTrace) (w : ObjectWord) (t from k to : ℕ) (put : Option ℕ) → k ≤ from → to ≤ from → IsPutIn f w t from k put
    → IsPutIn f w t from to put
put_in_empty_range f w t from k to None before within is = λ j past l. absurd (omega (arith, past, l, within))
put_in_empty_range f w t from k to (Some s) before within is = absurd (let p = is.past in let l = is.before in omega (arith, before, p, l))

-- n steps more, with a call or with none
pub put_in_after_one_call : (f : FittedTrace) (w : ObjectWord) (t from k n : ℕ) (put new : Option ℕ) (call : Option Exchange) → HasRun f
    → AreCalls f t k n (option_to_list call) → ((c : Exchange) → call ≡ Some c → n ≡ 1)
    → ((c : Exchange) → call ≡ Some c → puts_word w c.asked ≡ true → new ≡ Some k)
    → (((c : Exchange) → call ≡ Some c → puts_word w c.asked ≡ false) → new ≡ put)
    → from ≤ k → IsPutIn f w t from k put → IsPutIn f w t from (k + n) new
put_in_after_one_call f w t from k n put new None h calls one some none within is =
    subst (IsPutIn f w t from (k + n)) (sym (none (λ c e. absurd (cc e))))
    (put_in_more_steps f w t from k (k + n) put (omega arith)
    (λ j past before at. cc (step_puts_word f w t j ask.Private h (no_call_steps_private f t k n calls j past before) at)) is)
put_in_after_one_call f w t from k n put new (Some c) h calls one some none within is = by (puts_word w c.asked) refl
  where
    n1 : n ≡ 1
    n1 = one c refl

    asks : EachRun f (λ run. ask_at f run t k ≡ c.asked)
    asks = call_step_asks_call f t k n c calls n1

    by : (b : Bool) → puts_word w c.asked ≡ b → IsPutIn f w t from (k + n) new
    by true e =
        let q = puts_word_is_put w c.asked e in
        subst (IsPutIn f w t from (k + n)) (sym (some c refl e)) (record {
          past = within;
          before = omega (arith, n1);
          puts = λ run of. (q.0, asks run of ∙ q.1);
          last = λ j past before at. absurd (omega (arith, past, before, n1));
        })
    by false e =
        subst (IsPutIn f w t from (k + n)) (sym (none (λ d same. subst (λ (z : Exchange). puts_word w z.asked ≡ false) (same_call c d same) e)))
        (put_in_more_steps f w t from k (k + n) put (omega arith) (λ j past before at. true_is_not_false (puts_word w c.asked)
        (step_puts_word f w t j c.asked h (subst (λ i. EachRun f (λ run. ask_at f run t i ≡ c.asked)) (same_step j past before) asks) at) e) is)
      where
        same_call : (c d : Exchange) → Some c ≡ Some d → c ≡ d
        same_call c d same = cc same

        same_step : (j : ℕ) → k ≤ j → j < k + n → k ≡ j
        same_step j past before = omega (arith, past, before, n1)

-- ---- past an entry

pub put_after_entry_is_kept : (f : FittedTrace) (w : ObjectWord) (t from to entry k : ℕ) (put : Option ℕ) → put ≡ Some k → entry < k → IsPutIn f w t from to put
    → IsPutIn f w t (entry + 1) to (Some k)
put_after_entry_is_kept f w t from to entry k put here past is =
    let last : IsLastPut f w t from to k = subst (IsPutIn f w t from to) here is in record {
      past = omega (arith, past);
      before = last.before;
      puts = last.puts;
      last = last.last;
    }

pub put_after_entry_is_none : (f : FittedTrace) (w : ObjectWord) (t from to entry : ℕ) (put : Option ℕ) → from ≤ entry + 1
    → ((k : ℕ) → put ≡ Some k → k ≤ entry) → IsPutIn f w t from to put → IsPutIn f w t (entry + 1) to None
put_after_entry_is_none f w t from to entry None low below is = λ j past before. is j (omega (arith, low, past)) before
put_after_entry_is_none f w t from to entry (Some k) low below is = λ j past before. is.last j (let l = below k refl in omega (arith, l, past)) before
