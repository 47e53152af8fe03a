-- Ends of threads, one by one.
use Rattle.std.proofs.Common.{◌≡◌, ◌≢◌, ◌<◌, ◌+◌, ◌-◌, ◌∙◌, ℕ, zero, suc, Bool, true, false, List, Option, Some, None, refl, sym, ap, arith, if◌then◌else◌}
use Rattle.std.specs.Prelude.{◌&&◌, ◌==◌, not, option_map, ⊤}
use Rattle.std.proofs.lemmas.Bool.{eqb-true, eqb-false}
use Rattle.ir_lemmas.proofs.CallerLemmas.{conjunction_with_false}
use Rattle.ir_fit.specs.Fit.{FittedTrace}
use Rattle.ir_cut.specs.Positions.{cut_of, threads_of, last_of}
use Rattle.ir_packet.specs.declared.reply.Signal.{Signal}
use Rattle.ir_gdb.specs.declared.stopped.Told.{Told}
use Rattle.ir_gdb.specs.Endings.{signal_of, end_of_thread, told_ended, bad_end, comes_to_end, own_end, are_ended, is_end_of_thread, or_told, first_bad_end, last_end, is_thread_over}

-- ---- whether all are at their last positions

equal_numbers_test_true : (b : Bool) (n m : ℕ) → (n == m) ≡ b → n ≡ m → b ≡ true
equal_numbers_test_true true n m is same = refl
equal_numbers_test_true false n m is same = absurd (eqb-false n m is same)

other_numbers_test_false : (b : Bool) (n m : ℕ) → (n == m) ≡ b → n ≢ m → b ≡ false
other_numbers_test_false true n m is other = absurd (other (eqb-true n m is))
other_numbers_test_false false n m is other = refl

are_ended_step : (f : FittedTrace) (cut : List ℕ) (t : ℕ) → are_ended f cut (t + 1) ≡ (are_ended f cut t && (cut_of cut t == last_of f t))
unfolding are_ended
are_ended_step f cut t = let same : t + 1 ≡ suc t = omega arith in ap (λ (n : ℕ). are_ended f cut n) same

pub no_threads_are_ended : (f : FittedTrace) (cut : List ℕ) → are_ended f cut 0 ≡ true
unfolding are_ended
no_threads_are_ended f cut = refl

pub are_ended_if_next_ended : (f : FittedTrace) (cut : List ℕ) (t : ℕ) → are_ended f cut t ≡ true → cut_of cut t ≡ last_of f t → are_ended f cut (t + 1) ≡ true
are_ended_if_next_ended f cut t so at =
    are_ended_step f cut t ∙ ap (λ (b : Bool). b && (cut_of cut t == last_of f t)) so ∙ equal_numbers_test_true (cut_of cut t == last_of f t) (cut_of cut t) (last_of f t) refl at

one_unended_not_all_ended : (f : FittedTrace) (cut : List ℕ) (t more : ℕ) → cut_of cut t ≢ last_of f t → are_ended f cut (more + (t + 1)) ≡ false
one_unended_not_all_ended f cut t zero other =
    let same : zero + (t + 1) ≡ t + 1 = omega arith in
    ap (λ (n : ℕ). are_ended f cut n) same ∙ are_ended_step f cut t
    ∙ ap (λ (b : Bool). are_ended f cut t && b) (other_numbers_test_false (cut_of cut t == last_of f t) (cut_of cut t) (last_of f t) refl other)
    ∙ conjunction_with_false (are_ended f cut t)
one_unended_not_all_ended f cut t (suc more) other =
    let same : suc more + (t + 1) ≡ more + (t + 1) + 1 = omega arith in
    ap (λ (n : ℕ). are_ended f cut n) same ∙ are_ended_step f cut (more + (t + 1))
    ∙ ap (λ (b : Bool). b && (cut_of cut (more + (t + 1)) == last_of f (more + (t + 1)))) (one_unended_not_all_ended f cut t more other)

pub one_false_not_all_ended : (f : FittedTrace) (cut : List ℕ) (t n : ℕ) → cut_of cut t ≢ last_of f t → t < n → are_ended f cut n ≡ false
one_false_not_all_ended f cut t n other below =
    let same : n ≡ n - (t + 1) + (t + 1) = omega (arith, below) in
    ap (λ (k : ℕ). are_ended f cut k) same ∙ one_unended_not_all_ended f cut t (n - (t + 1)) other

-- ---- the first bad end

first_bad_step : (f : FittedTrace) (t : ℕ) → first_bad_end f (t + 1) ≡ or_told (first_bad_end f t) (bad_end f t)
unfolding first_bad_end
first_bad_step f t = let same : t + 1 ≡ suc t = omega arith in ap (λ (n : ℕ). first_bad_end f n) same

pub no_threads_end_badly : (f : FittedTrace) → first_bad_end f 0 ≡ None
unfolding first_bad_end
no_threads_end_badly f = refl

pub none_bad_if_next_good : (f : FittedTrace) (t : ℕ) → first_bad_end f t ≡ None → bad_end f t ≡ None → first_bad_end f (t + 1) ≡ None
none_bad_if_next_good f t none good = first_bad_step f t ∙ ap (λ (x : Option Told). or_told x (bad_end f t)) none ∙ good

first_bad_found : (f : FittedTrace) (t more : ℕ) (told : Told) → first_bad_end f t ≡ None → bad_end f t ≡ Some told → first_bad_end f (more + (t + 1)) ≡ Some told
first_bad_found f t zero told none bad =
    let same : zero + (t + 1) ≡ t + 1 = omega arith in
    ap (λ (n : ℕ). first_bad_end f n) same ∙ first_bad_step f t ∙ ap (λ (x : Option Told). or_told x (bad_end f t)) none ∙ bad
first_bad_found f t (suc more) told none bad =
    let same : suc more + (t + 1) ≡ more + (t + 1) + 1 = omega arith in
    ap (λ (n : ℕ). first_bad_end f n) same ∙ first_bad_step f (more + (t + 1))
    ∙ ap (λ (x : Option Told). or_told x (bad_end f (more + (t + 1)))) (first_bad_found f t more told none bad)

pub first_bad_end_is_next : (f : FittedTrace) (t n : ℕ) (told : Told) → first_bad_end f t ≡ None → bad_end f t ≡ Some told → t < n
    → first_bad_end f n ≡ Some told
first_bad_end_is_next f t n told none bad below =
    let same : n ≡ n - (t + 1) + (t + 1) = omega (arith, below) in
    ap (λ (k : ℕ). first_bad_end f k) same ∙ first_bad_found f t (n - (t + 1)) told none bad

-- ---- no bad end

or_told_none_parts : (a b : Option Told) → or_told a b ≡ None → (a ≡ None) × (b ≡ None)
or_told_none_parts None b none = (refl, none)
or_told_none_parts (Some told) b none = absurd cc

none_bad_if_none_told : (f : FittedTrace) (t more : ℕ) → first_bad_end f (more + (t + 1)) ≡ None → bad_end f t ≡ None
none_bad_if_none_told f t zero none =
    let same : zero + (t + 1) ≡ t + 1 = omega arith in
    (or_told_none_parts (first_bad_end f t) (bad_end f t) (sym (first_bad_step f t) ∙ ap (λ (n : ℕ). first_bad_end f n) (sym same) ∙ none)).1
none_bad_if_none_told f t (suc more) none =
    let same : suc more + (t + 1) ≡ more + (t + 1) + 1 = omega arith in
    none_bad_if_none_told f t more
    (or_told_none_parts (first_bad_end f (more + (t + 1))) (bad_end f (more + (t + 1)))
    (sym (first_bad_step f (more + (t + 1))) ∙ ap (λ (n : ℕ). first_bad_end f n) (sym same) ∙ none)).0

pub no_bad_end : (f : FittedTrace) (t n : ℕ) → t < n → first_bad_end f n ≡ None → bad_end f t ≡ None
no_bad_end f t n below none =
    let same : n ≡ n - (t + 1) + (t + 1) = omega (arith, below) in
    none_bad_if_none_told f t (n - (t + 1)) (ap (λ (k : ℕ). first_bad_end f k) (sym same) ∙ none)

-- ---- a bad end isn't told as the end of history

abbrev pub IsNotOver : Option Told → Type 0
IsNotOver None = ⊤
IsNotOver (Some told) = is_thread_over told.reason ≡ false

told_end_is_not_over : (t : ℕ) (how : Option Signal) → IsNotOver (option_map (told_ended t) how)
told_end_is_not_over t None = tt
told_end_is_not_over t (Some how) = refl

or_told_is_not_over : (a b : Option Told) → IsNotOver a → IsNotOver b → IsNotOver (or_told a b)
or_told_is_not_over None b one other = other
or_told_is_not_over (Some told) b one other = one

first_bad_is_not_over : (f : FittedTrace) (n : ℕ) → IsNotOver (first_bad_end f n)
unfolding first_bad_end
first_bad_is_not_over f zero = tt
first_bad_is_not_over f (suc n) = or_told_is_not_over (first_bad_end f n) (bad_end f n) (first_bad_is_not_over f n) (told_end_is_not_over n (signal_of (end_of_thread f n)))

conditional_is_not_over : (b : Bool) (x : Option Told) → IsNotOver x → IsNotOver (if b then x else None)
conditional_is_not_over true x is = is
conditional_is_not_over false x is = tt

pub own_end_is_not_over : (f : FittedTrace) (from to : List ℕ) (t : ℕ) → IsNotOver (own_end f from to t)
own_end_is_not_over f from to t = conditional_is_not_over (comes_to_end f from to t) (bad_end f t) (told_end_is_not_over t (signal_of (end_of_thread f t)))

pub last_end_is_not_over : (f : FittedTrace) (from to : List ℕ) (out : Bool) → IsNotOver (last_end f from to out)
last_end_is_not_over f from to out =
    conditional_is_not_over (out && (is_end_of_thread f to && not (is_end_of_thread f from))) (first_bad_end f (threads_of f)) (first_bad_is_not_over f (threads_of f))
