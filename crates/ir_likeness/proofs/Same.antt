-- Threads that look the same.
use Rattle.std.proofs.Common.{◌≡◌, ℕ, List, inl, inr, None, sym, ap, ◌∙◌, subst}
use Rattle.ir_runs.specs.Machine.{Done}
use Rattle.ir_runs.specs.Lawful.{Holds}
use Rattle.ir_liveness.specs.Agreement.{DifferInDead}
use Rattle.ir_liveness.proofs.CallerLemmas.{differ_in_dead_lasts, differ_in_dead_sym, differ_in_dead_trans}
use Rattle.ir_thread.specs.State.{held_at, ThreadState, ask_of, after_reply, reply_of, shared_ask}
use Rattle.ir_thread.proofs.CallerLemmas.{thread_machine_lawful}
use Rattle.ir_search_laws.specs.Looks.{LookSame}
use Rattle.ir_search_laws.specs.Sources.{Giving, answer_of, left_of_source, sourced, by_source}
use Rattle.ir_likeness.specs.Seen.{view, seen_machine, AreDoneAlike, Same}

-- what no thread can see of itself is no live register
views_differ_in_dead : (code : List ℕ) (x y : ThreadState) → DifferInDead code x y → DifferInDead code (view x) (view y)
views_differ_in_dead code x y d = record { rest = ap view d.rest; cores = d.cores }

asks_equal_dead_differ : (code : List ℕ) (x y : ThreadState) → DifferInDead code x y → (seen_machine code).ask x ≡ (seen_machine code).ask y
asks_equal_dead_differ code x y d = ap shared_ask (differ_in_dead_lasts code x y d).0

takes_differ_in_dead : (code : List ℕ) (x y : ThreadState) → DifferInDead code x y → (r : ℕ)
    → DifferInDead code ((seen_machine code).take x r) ((seen_machine code).take y r)
takes_differ_in_dead code x y d r = views_differ_in_dead code (after_reply code x (reply_of (ask_of code x) r)) (after_reply code y (reply_of (ask_of code y) r))
    ((differ_in_dead_lasts code x y d).1 r)

-- who differs only so from who is done is done alike
done_alike_dead_differ : (code : List ℕ) (x y z : ThreadState) → DifferInDead code x y → AreDoneAlike code y z → AreDoneAlike code x z
done_alike_dead_differ code x y z d (done, other, ends, outputs) =
    (asks_equal_dead_differ code x y d ∙ done, other, ap (λ s. s.ended) d.rest ∙ ends, ap (λ s. s.output) d.rest ∙ outputs)

done_alike_is_symmetric : (code : List ℕ) (x y : ThreadState) → AreDoneAlike code x y → AreDoneAlike code y x
done_alike_is_symmetric code x y (done, other, ends, outputs) = (other, done, sym ends, sym outputs)

module _ {S : Type 0} (code : List ℕ) (given : Giving S) where
  none_held : (x : ThreadState) → (seen_machine code).ask x ≡ Done → (o : ℕ) → held_at x.held o ≡ None
  none_held x done o = subst (λ q. Holds q (held_at x.held)) done ((thread_machine_lawful code).holds x) o

  none_given : (x : ThreadState × S) → (seen_machine code).ask x.0 ≡ Done → answer_of given ((seen_machine code).ask x.0) x.1 ≡ 0
  none_given x done = ap (λ q. answer_of given q x.1) done

  same_after_dead_differ : (x y z : ThreadState × S) → DifferInDead code x.0 y.0 → x.1 ≡ y.1 → Same code y z → Same code x z
  same_after_dead_differ x y z d s (inl e) = subst (Same code x) e (inr (inl (d, s)))
  same_after_dead_differ x y z d s (inr (inl (c, r))) = inr (inl (differ_in_dead_trans code x.0 y.0 z.0 d c, s ∙ r))
  same_after_dead_differ x y z d s (inr (inr h)) = inr (inr (done_alike_dead_differ code x.0 y.0 z.0 d h))

  same_after_done_alike : (x y z : ThreadState × S) → AreDoneAlike code x.0 y.0 → Same code y z → Same code x z
  same_after_done_alike x y z d (inl e) = subst (Same code x) e (inr (inr d))
  same_after_done_alike x y z d (inr (inl (c, r))) =
      inr (inr (done_alike_is_symmetric code z.0 x.0 (done_alike_dead_differ code z.0 y.0 x.0 (differ_in_dead_sym code y.0 z.0 c)
      (done_alike_is_symmetric code x.0 y.0 d))))
  same_after_done_alike x y z d (inr (inr h)) = inr (inr (d.0, h.1, d.2 ∙ h.2, d.3 ∙ h.3))

  -- what such threads ask, hold and are answered is the same, and after a reply they look the same again
  pub look_same : LookSame (sourced (seen_machine code) given) (by_source (seen_machine code) given) (Same code)
  look_same = record {
    asks = λ x y h. elim h [
      | inl e ↦ ap (λ z. (seen_machine code).ask z.0) e
      | inr (inl d) ↦ asks_equal_dead_differ code x.0 y.0 d.0
      | inr (inr d) ↦ d.0 ∙ sym d.1
    ];
    holds = λ x y h o. elim h [
      | inl e ↦ ap (λ z. held_at z.0.held o) e
      | inr (inl d) ↦ ap (λ s. held_at s.held o) d.0.rest
      | inr (inr d) ↦ none_held x.0 d.0 o ∙ sym (none_held y.0 d.1 o)
    ];
    answered = λ x y h t. elim h [
      | inl e ↦ ap (λ z. answer_of given ((seen_machine code).ask z.0) z.1) e
      | inr (inl d) ↦ (λ i. answer_of given (asks_equal_dead_differ code x.0 y.0 d.0 i) (d.1 i))
      | inr (inr d) ↦ none_given x d.0 ∙ sym (none_given y d.1)
    ];
    takes = λ x y h ne r. elim h [
      | inl e ↦ inl (ap (λ z. (sourced (seen_machine code) given).take z r) e)
      | inr (inl d) ↦ inr (inl (takes_differ_in_dead code x.0 y.0 d.0 r, (λ i. left_of_source given (asks_equal_dead_differ code x.0 y.0 d.0 i) (d.1 i))))
      | inr (inr d) ↦ absurd (ne d.0)
    ];
    backwards = λ x y h. elim h [
      | inl e ↦ inl (sym e)
      | inr (inl d) ↦ inr (inl (differ_in_dead_sym code x.0 y.0 d.0, sym d.1))
      | inr (inr d) ↦ inr (inr (done_alike_is_symmetric code x.0 y.0 d))
    ];
    onwards = λ x y z h k. elim h [
      | inl e ↦ subst (λ u. Same code u z) (sym e) k
      | inr (inl d) ↦ same_after_dead_differ x y z d.0 d.1 k
      | inr (inr d) ↦ same_after_done_alike x y z d k
    ];
  }
