-- What comes of a thread's calls, one call on and at the end.
use Rattle.std.proofs.Common.{◌≡◌, ◌<◌, ◌≤◌, ◌+◌, ◌-◌, ℕ, suc, zero, Bool, true, false, List, [], ◌∷◌, length, drop, get_or, refl, sym, ap, subst, ◌∙◌, arith}
use Rattle.std.specs.Prelude.{◌&&◌, ◌==◌, if◌then◌else◌, slice_index, Option, Some, None}
use Rattle.std.proofs.lemmas.List.{drop_more, drop_all}
use Rattle.ir_thread.specs.State.{ThreadState, ask_of, after_reply}
use Rattle.ir_thread.specs.Permitted.{step_of, run_of, ReplySuits, IsValue}
use Rattle.ir_thread.specs.Private.{PrivateSteps}
use Rattle.ir_thread.specs.declared.ask.Ask.{Ask}
use Rattle.ir_thread.specs.declared.ask.Ask.TheVariants as ask
use Rattle.ir_thread.specs.declared.ask.Reply.{Reply}
use Rattle.ir_thread.specs.declared.ask.Reply.TheVariants.{Value}
use Rattle.ir_event_walk.specs.Calls.{AllSuit}
use Rattle.ir_stale_run.proofs.Same.{reply_suits_same_call}
use Rattle.ir_stale_run.specs.WhatIf.{hold_after, answer, answer_by, same_call, difference, is_other_value, is_writing_hold, is_private, call_or_later, what_if}
use Rattle.ir_event_walk.specs.declared.exchange.Exchange.{Exchange}
use Rattle.ir_stale_run.specs.declared.hold.Hold.{Hold}
use Rattle.ir_stale_run.specs.declared.hold.Hold.TheVariants.{Reading, Between, Writing}
use Rattle.ir_stale_run.specs.declared.reason.Reason.{Reason}
use Rattle.ir_stale_run.specs.declared.reason.Reason.TheVariants as reason

-- ---- private steps

what_if_private_run : (code : List ℕ) (o : ℕ) (fresh : List ℕ) (h : Hold) (n left : ℕ) (x : ThreadState) (c : Exchange) (cs : List Exchange)
    → ((k : ℕ) → k < n → ask_of code (run_of code k x) ≡ ask.Private)
    → what_if code o fresh h (n + left) x (c ∷ cs) ≡ what_if code o fresh h left (run_of code n x) (c ∷ cs)
unfolding what_if run_of
what_if_private_run code o fresh h zero left x c cs each =
    let all : zero + left ≡ left = omega arith in ap (λ (k : ℕ). what_if code o fresh h k x (c ∷ cs)) all
what_if_private_run code o fresh h (suc n) left x c cs each =
    let more : suc n + left ≡ n + suc left = omega arith in
    let here : ask_of code (run_of code n x) ≡ ask.Private = each n (omega arith) in
    ap (λ (k : ℕ). what_if code o fresh h k x (c ∷ cs)) more
    ∙ what_if_private_run code o fresh h n (suc left) x c cs (λ k l. each k (omega (arith, l)))
    ∙ ap (λ (q : Ask). if is_private q then what_if code o fresh h left (step_of code (run_of code n x)) (c ∷ cs)
    else call_or_later (difference h o q c.asked)
    (what_if code o fresh (hold_after o c h) left (after_reply code (run_of code n x) (answer h o fresh c)) cs)) here

-- what comes of the calls after private steps
what_if_private_steps : (code : List ℕ) (o : ℕ) (fresh : List ℕ) (h : Hold) (n fuel : ℕ) (x y : ThreadState) (c : Exchange) (cs : List Exchange)
    → n ≤ fuel → PrivateSteps code n x y
    → what_if code o fresh h fuel x (c ∷ cs) ≡ what_if code o fresh h (fuel - n) y (c ∷ cs)
what_if_private_steps code o fresh h n fuel x y c cs within steps =
    let all : fuel ≡ n + (fuel - n) = omega (arith, within) in
    ap (λ (k : ℕ). what_if code o fresh h k x (c ∷ cs)) all
    ∙ what_if_private_run code o fresh h n (fuel - n) x c cs steps.each
    ∙ ap (λ (s : ThreadState). what_if code o fresh h (fuel - n) s (c ∷ cs)) (sym steps.steps)

is_private_false : (q : Ask) → (q ≡ ask.Private → ⊥) → is_private q ≡ false
is_private_false ask.Private n = absurd (n refl)
is_private_false (ask.Env kind) n = refl
is_private_false (ask.Enter object access) n = refl
is_private_false (ask.Try object) n = refl
is_private_false (ask.Leave object access) n = refl
is_private_false (ask.Get object index) n = refl
is_private_false (ask.Put object index value) n = refl
is_private_false ask.Print n = refl
is_private_false (ask.End e) n = refl
is_private_false ask.Done n = refl

-- a call, where there is a step left
what_if_at_call : (code : List ℕ) (o : ℕ) (fresh : List ℕ) (h : Hold) (left : ℕ) (x : ThreadState) (c : Exchange) (cs : List Exchange)
    → (ask_of code x ≡ ask.Private → ⊥)
    → what_if code o fresh h (suc left) x (c ∷ cs) ≡ call_or_later (difference h o (ask_of code x) c.asked)
    (what_if code o fresh (hold_after o c h) left (after_reply code x (answer h o fresh c)) cs)
unfolding what_if
what_if_at_call code o fresh h left x c cs not = ap (λ (b : Bool). if b then what_if code o fresh h left (step_of code x) (c ∷ cs)
    else call_or_later (difference h o (ask_of code x) c.asked)
    (what_if code o fresh (hold_after o c h) left (after_reply code x (answer h o fresh c)) cs)) (is_private_false (ask_of code x) not)

what_if_without_fuel : (code : List ℕ) (o : ℕ) (fresh : List ℕ) (h : Hold) (x : ThreadState) (c : Exchange) (cs : List Exchange)
    → what_if code o fresh h 0 x (c ∷ cs) ≡ Some reason.Way
unfolding what_if
what_if_without_fuel code o fresh h x c cs = refl

what_if_no_calls : (code : List ℕ) (o : ℕ) (fresh : List ℕ) (h : Hold) (fuel : ℕ) (x : ThreadState) → what_if code o fresh h fuel x [] ≡ None
unfolding what_if
what_if_no_calls code o fresh h fuel x = refl

-- ---- in the loop: what came of the calls from place n on, with so many steps left

-- the steps are spent on private ones
pub what_if_spent_fuel : (code : List ℕ) (o : ℕ) (fresh : List ℕ) (h : Hold) (n taken left : ℕ) (x y : ThreadState) (cs : List Exchange) (c : Exchange)
    (whole : Option Reason) → whole ≡ what_if code o fresh h left x (drop n cs) → n < length cs → PrivateSteps code taken x y → taken ≡ left
    → Some reason.Way ≡ whole
what_if_spent_fuel code o fresh h n taken left x y cs c whole e l steps all =
    let k : left - taken ≡ 0 = omega (arith, all) in
    sym (e ∙ ap (what_if code o fresh h left x) (drop_more cs n c l)
    ∙ what_if_private_steps code o fresh h taken left x y (get_or cs n c) (drop (n + 1) cs) (omega (arith, all)) steps
    ∙ ap (λ (j : ℕ). what_if code o fresh h j y (get_or cs n c ∷ drop (n + 1) cs)) k
    ∙ what_if_without_fuel code o fresh h y (get_or cs n c) (drop (n + 1) cs))

what_if_next_call : (code : List ℕ) (o : ℕ) (fresh : List ℕ) (h : Hold) (n taken left : ℕ) (x y : ThreadState) (cs : List Exchange) (c : Exchange)
    (whole : Option Reason) → whole ≡ what_if code o fresh h left x (drop n cs) → n < length cs → PrivateSteps code taken x y → taken < left
    → (ask_of code y ≡ ask.Private → ⊥)
    → whole ≡ call_or_later (difference h o (ask_of code y) (get_or cs n c).asked) (what_if code o fresh (hold_after o (get_or cs n c) h)
    (left - (taken + 1)) (after_reply code y (answer h o fresh (get_or cs n c))) (drop (n + 1) cs))
what_if_next_call code o fresh h n taken left x y cs c whole e l steps some not =
    let k : left - taken ≡ suc (left - (taken + 1)) = omega (arith, some) in
    e ∙ ap (what_if code o fresh h left x) (drop_more cs n c l)
    ∙ what_if_private_steps code o fresh h taken left x y (get_or cs n c) (drop (n + 1) cs) (omega (arith, some)) steps
    ∙ ap (λ (j : ℕ). what_if code o fresh h j y (get_or cs n c ∷ drop (n + 1) cs)) k
    ∙ what_if_at_call code o fresh h (left - (taken + 1)) y (get_or cs n c) (drop (n + 1) cs) not

-- the thread differs at a call
pub what_if_differs_at_call : (code : List ℕ) (o : ℕ) (fresh : List ℕ) (h : Hold) (n taken left : ℕ) (x y : ThreadState) (cs : List Exchange) (c : Exchange)
    (asked : Ask) (whole : Option Reason) (r : Reason) → whole ≡ what_if code o fresh h left x (drop n cs) → n < length cs
    → PrivateSteps code taken x y → taken < left → asked ≡ ask_of code y → (asked ≡ ask.Private → ⊥)
    → difference h o asked (get_or cs n c).asked ≡ Some r → Some r ≡ whole
what_if_differs_at_call code o fresh h n taken left x y cs c asked whole r e l steps some is not differ =
    sym (what_if_next_call code o fresh h n taken left x y cs c whole e l steps some (λ p. not (is ∙ p))
    ∙ ap (λ (d : Option Reason). call_or_later d (what_if code o fresh (hold_after o (get_or cs n c) h)
    (left - (taken + 1)) (after_reply code y (answer h o fresh (get_or cs n c))) (drop (n + 1) cs)))
    (ap (λ (q : Ask). difference h o q (get_or cs n c).asked) (sym is) ∙ differ))

-- it doesn't, and takes the answer
pub what_if_goes_on : (code : List ℕ) (o : ℕ) (fresh : List ℕ) (h g : Hold) (n taken left : ℕ) (x y z : ThreadState) (cs : List Exchange) (c : Exchange)
    (asked : Ask) (reply : Reply) (whole : Option Reason) → whole ≡ what_if code o fresh h left x (drop n cs) → n < length cs
    → PrivateSteps code taken x y → taken < left → asked ≡ ask_of code y → (asked ≡ ask.Private → ⊥)
    → difference h o asked (get_or cs n c).asked ≡ None → reply ≡ answer h o fresh (get_or cs n c) → z ≡ after_reply code y reply
    → g ≡ hold_after o (get_or cs n c) h
    → whole ≡ what_if code o fresh g (left - (taken + 1)) z (drop (n + 1) cs)
what_if_goes_on code o fresh h g n taken left x y z cs c asked reply whole e l steps some is not same answered next holds =
    what_if_next_call code o fresh h n taken left x y cs c whole e l steps some (λ p. not (is ∙ p))
    ∙ ap (λ (d : Option Reason). call_or_later d (what_if code o fresh (hold_after o (get_or cs n c) h)
    (left - (taken + 1)) (after_reply code y (answer h o fresh (get_or cs n c))) (drop (n + 1) cs)))
    (ap (λ (q : Ask). difference h o q (get_or cs n c).asked) (sym is) ∙ same)
    ∙ ap (λ (z : Hold × ThreadState). what_if code o fresh z.0 (left - (taken + 1)) z.1 (drop (n + 1) cs))
    (λ i. (sym holds i, sym (next ∙ ap (after_reply code y) answered) i))

-- no call is left
pub what_if_none_left : (code : List ℕ) (o : ℕ) (fresh : List ℕ) (h : Hold) (n left : ℕ) (x : ThreadState) (cs : List Exchange) (whole : Option Reason)
    → whole ≡ what_if code o fresh h left x (drop n cs) → length cs ≤ n → None ≡ whole
what_if_none_left code o fresh h n left x cs whole e all =
    sym (e ∙ ap (what_if code o fresh h left x) (drop_all n cs all) ∙ what_if_no_calls code o fresh h left x)

-- ---- replies that fit

no_choice_test_true : (b : Bool) (x : Option Reason) → (if b then x else Some reason.Way) ≡ None → b ≡ true
no_choice_test_true true x e = refl
no_choice_test_true false x e = absurd (cc e)

-- a GET of the object in the read's hold is answered by a word, as it was
answer_by_suits : (h : Hold) (o : ℕ) (fresh : List ℕ) (asked : Ask) (reply : Reply) → ReplySuits asked reply
    → ReplySuits asked (answer_by h o fresh asked reply)
answer_by_suits Between o fresh asked reply s = s
answer_by_suits Writing o fresh asked reply s = s
answer_by_suits Reading o fresh (ask.Get object index) reply s = by (object == o)
  where
    by : (b : Bool) → IsValue (if b then Value (slice_index fresh index) else reply)
    by true = tt
    by false = s
answer_by_suits Reading o fresh ask.Private reply s = s
answer_by_suits Reading o fresh (ask.Env kind) reply s = s
answer_by_suits Reading o fresh (ask.Enter object access) reply s = s
answer_by_suits Reading o fresh (ask.Try object) reply s = s
answer_by_suits Reading o fresh (ask.Leave object access) reply s = s
answer_by_suits Reading o fresh (ask.Put object index value) reply s = s
answer_by_suits Reading o fresh ask.Print reply s = s
answer_by_suits Reading o fresh (ask.End end) reply s = s
answer_by_suits Reading o fresh ask.Done reply s = s

-- the answer fits what the thread asks, where that is no other call
pub no_difference_suits : (h : Hold) (o : ℕ) (fresh : List ℕ) (n : ℕ) (cs : List Exchange) (c : Exchange) (asked : Ask) (reply : Reply) → n < length cs
    → AllSuit (drop n cs) → difference h o asked (get_or cs n c).asked ≡ None → reply ≡ answer h o fresh (get_or cs n c) → ReplySuits asked reply
no_difference_suits h o fresh n cs c asked reply l all same answered =
    let first : AllSuit (get_or cs n c ∷ drop (n + 1) cs) = subst AllSuit (drop_more cs n c l) all in
    reply_suits_same_call asked (get_or cs n c).asked reply
    (no_choice_test_true (same_call asked (get_or cs n c).asked) (if is_writing_hold h && is_other_value o asked (get_or cs n c).asked then Some reason.Value else None) same)
    (subst (ReplySuits (get_or cs n c).asked) (sym answered) (answer_by_suits h o fresh (get_or cs n c).asked (get_or cs n c).reply first.0))

-- so do the others
pub remaining_calls_suit : (n : ℕ) (cs : List Exchange) (c : Exchange) → n < length cs → AllSuit (drop n cs) → AllSuit (drop (n + 1) cs)
remaining_calls_suit n cs c l all = (subst AllSuit (drop_more cs n c l) all).1
