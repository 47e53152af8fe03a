-- What is found among calls, one call on and at the end.
use Rattle.std.proofs.Common.{◌≡◌, ◌<◌, ◌≤◌, ◌+◌, ◌-◌, ℕ, suc, zero, Bool, true, false, List, length, drop, get_or, refl, sym, ap, ◌∙◌, arith}
use Rattle.std.specs.Prelude.{◌&&◌, ◌||◌, Option, Some, None}
use Rattle.std.proofs.lemmas.List.{at_drop_more, at_drop_all}
use Rattle.ir_stale_run.specs.WhatIf.{hold_after, is_reading, is_get, gets, is_writing_hold, is_put_call, puts, least_below, found_or}
use Rattle.ir_event_walk.specs.declared.exchange.Exchange.{Exchange}
use Rattle.ir_stale_run.specs.declared.hold.Hold.{Hold}

or_true_left : (b c whole : Bool) → whole ≡ (b || c) → b ≡ true → true ≡ whole
or_true_left b c whole e h = sym (e ∙ rw (h) refl)

or_false_left : (b c whole : Bool) → whole ≡ (b || c) → b ≡ false → whole ≡ c
or_false_left b c whole e h = e ∙ rw (h) refl

gets_of_drop_step : (o i : ℕ) (h : Hold) (n : ℕ) (cs : List Exchange) (c : Exchange) → n < length cs → gets o i h (drop n cs) ≡
    ((is_reading h && is_get o i (get_or cs n c).asked) || gets o i (hold_after o (get_or cs n c) h) (drop (n + 1) cs))
unfolding gets
gets_of_drop_step o i h n cs c l = at_drop_more (gets o i h) cs n c l

-- the next call gets the word
pub gets_true_at_call : (o i : ℕ) (h : Hold) (n : ℕ) (cs : List Exchange) (c : Exchange) (whole : Bool) → whole ≡ gets o i h (drop n cs)
    → n < length cs → (is_reading h && is_get o i (get_or cs n c).asked) ≡ true → true ≡ whole
gets_true_at_call o i h n cs c whole e l is = or_true_left _ _ whole (e ∙ gets_of_drop_step o i h n cs c l) is

-- it doesn't
pub gets_step_no_get : (o i : ℕ) (h g : Hold) (n : ℕ) (cs : List Exchange) (c : Exchange) (whole : Bool) → whole ≡ gets o i h (drop n cs)
    → n < length cs → (is_reading h && is_get o i (get_or cs n c).asked) ≡ false → g ≡ hold_after o (get_or cs n c) h
    → whole ≡ gets o i g (drop (n + 1) cs)
gets_step_no_get o i h g n cs c whole e l missed same = or_false_left _ _ whole (e ∙ gets_of_drop_step o i h n cs c l) missed
    ∙ ap (λ (x : Hold). gets o i x (drop (n + 1) cs)) (sym same)

-- no call is left
pub gets_false_at_end : (o i : ℕ) (h : Hold) (n : ℕ) (cs : List Exchange) (whole : Bool) → whole ≡ gets o i h (drop n cs) → length cs ≤ n
    → false ≡ whole
unfolding gets
gets_false_at_end o i h n cs whole e l = sym (e ∙ at_drop_all (gets o i h) cs n l)

puts_of_drop_step : (o : ℕ) (h : Hold) (n : ℕ) (cs : List Exchange) (c : Exchange) → n < length cs → puts o h (drop n cs) ≡
    ((is_writing_hold h && is_put_call o (get_or cs n c).asked) || puts o (hold_after o (get_or cs n c) h) (drop (n + 1) cs))
unfolding puts
puts_of_drop_step o h n cs c l = at_drop_more (puts o h) cs n c l

-- the next call puts a word
pub puts_true_at_call : (o : ℕ) (h : Hold) (n : ℕ) (cs : List Exchange) (c : Exchange) (whole : Bool) → whole ≡ puts o h (drop n cs)
    → n < length cs → (is_writing_hold h && is_put_call o (get_or cs n c).asked) ≡ true → true ≡ whole
puts_true_at_call o h n cs c whole e l is = or_true_left _ _ whole (e ∙ puts_of_drop_step o h n cs c l) is

-- it doesn't
pub puts_step_no_put : (o : ℕ) (h g : Hold) (n : ℕ) (cs : List Exchange) (c : Exchange) (whole : Bool) → whole ≡ puts o h (drop n cs)
    → n < length cs → (is_writing_hold h && is_put_call o (get_or cs n c).asked) ≡ false → g ≡ hold_after o (get_or cs n c) h
    → whole ≡ puts o g (drop (n + 1) cs)
puts_step_no_put o h g n cs c whole e l missed same = or_false_left _ _ whole (e ∙ puts_of_drop_step o h n cs c l) missed
    ∙ ap (λ (x : Hold). puts o x (drop (n + 1) cs)) (sym same)

-- no call is left
pub puts_false_at_end : (o : ℕ) (h : Hold) (n : ℕ) (cs : List Exchange) (whole : Bool) → whole ≡ puts o h (drop n cs) → length cs ≤ n
    → false ≡ whole
unfolding puts
puts_false_at_end o h n cs whole e l = sym (e ∙ at_drop_all (puts o h) cs n l)

-- ---- the least number

-- there is none below 0
pub least_below_zero : (is : ℕ → Bool) → least_below is 0 ≡ None
unfolding least_below
least_below_zero is = refl

least_below_successor : (is : ℕ → Bool) (n : ℕ) → least_below is (n + 1) ≡ found_or (least_below is n) (is n) n
unfolding least_below
least_below_successor is n = let on : n + 1 ≡ suc n = omega arith in ap (least_below is) on

found_or_keeps_found : (x : Option ℕ) (b : Bool) (n i : ℕ) → x ≡ Some i → found_or x b n ≡ Some i
found_or_keeps_found x b n i e = ap (λ (z : Option ℕ). found_or z b n) e

-- once it is found it stays
least_below_stays : (is : ℕ → Bool) (i n more : ℕ) → least_below is n ≡ Some i → least_below is (n + more) ≡ Some i
least_below_stays is i n zero e = (let on : n + zero ≡ n = omega arith in ap (least_below is) on) ∙ e
least_below_stays is i n (suc more) e =
    (let on : n + suc more ≡ n + more + 1 = omega arith in ap (least_below is) on) ∙ least_below_successor is (n + more)
    ∙ found_or_keeps_found (least_below is (n + more)) (is (n + more)) (n + more) i (least_below_stays is i n more e)

found_or_finds_next : (x : Option ℕ) (b : Bool) (n : ℕ) → x ≡ None → b ≡ true → found_or x b n ≡ Some n
found_or_finds_next x b n none here = ap (λ (z : Option ℕ × Bool). found_or z.0 z.1 n) (λ i. (none i, here i))

found_or_skips_next : (x : Option ℕ) (b : Bool) (n : ℕ) → x ≡ None → b ≡ false → found_or x b n ≡ None
found_or_skips_next x b n none here = ap (λ (z : Option ℕ × Bool). found_or z.0 z.1 n) (λ i. (none i, here i))

-- the next number is one, and none below it
pub least_below_first : (is : ℕ → Bool) (i n : ℕ) → least_below is i ≡ None → is i ≡ true → i < n → least_below is n ≡ Some i
least_below_first is i n none here l =
    let more : n ≡ i + 1 + (n - (i + 1)) = omega (arith, l) in
    ap (least_below is) more
    ∙ least_below_stays is i (i + 1) (n - (i + 1)) (least_below_successor is i ∙ found_or_finds_next (least_below is i) (is i) i none here)

-- it isn't
pub least_below_suc_none : (is : ℕ → Bool) (i : ℕ) → least_below is i ≡ None → is i ≡ false → least_below is (i + 1) ≡ None
least_below_suc_none is i none here = least_below_successor is i ∙ found_or_skips_next (least_below is i) (is i) i none here
