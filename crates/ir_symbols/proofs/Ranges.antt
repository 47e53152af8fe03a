-- The symbols of a range.
use Rattle.std.proofs.Common.{◌≡◌, ◌+◌, ◌<◌, ◌≤◌, ℕ, suc, Bool, true, false, List, [], ◌∷◌, length, take, drop, get_or, refl, sym, ap, subst, ◌∙◌, arith, take-append-drop, append-nil}
use Rattle.std.specs.Prelude.{filter}
use Rattle.std.specs.List.{AllPass}
use Rattle.std.proofs.lemmas.Bool.Decides.{nat_tests}
use Rattle.std.proofs.lemmas.List.{length-drop, length-take-le, get_or-take, get_or-drop}
use Rattle.std.proofs.lemmas.List.Elements.{filter-append, All-head, All-tail}
use Rattle.ir_symbols.specs.Symbols.{Symbol, symbol_address}
use Rattle.ir_symbols.specs.Tables.{is_within, symbols_within}
use Rattle.ir_symbols.proofs.Counts.{IsCountBelow}

-- where each passes, all are kept
filter_of_all_passing : (p : Symbol → Bool) (xs : List Symbol) → AllPass p xs → filter p xs ≡ xs
filter_of_all_passing p [] h = refl
filter_of_all_passing p (x ∷ xs) h = rw (All-head (λ y. p y ≡ true) x xs h) (ap (λ (l : List Symbol). x ∷ l) (filter_of_all_passing p xs (All-tail (λ y. p y ≡ true) x xs h)))

-- where none passes, none is kept
pub filter_of_none_passing : (p : Symbol → Bool) (xs : List Symbol) → ((k : ℕ) (d : Symbol) → k < length xs → p (get_or xs k d) ≡ false) → filter p xs ≡ []
filter_of_none_passing p [] h = refl
filter_of_none_passing p (x ∷ xs) h = rw (h 0 x (omega arith)) (filter_of_none_passing p xs (λ k d l. h (suc k) d (omega (arith, l))))

-- those below the range, those in it and those above
pub drop_take_is_within : (xs : List Symbol) (start end n i : ℕ) → n ≤ length xs → IsCountBelow xs end n → i ≤ length (take n xs)
    → IsCountBelow (take n xs) start i → drop i (take n xs) ≡ symbols_within start end xs
drop_take_is_within xs start end n i le high le2 low =
    let p : Symbol → Bool = is_within start end in
    let ys : List Symbol = take n xs in
    let size : length ys ≡ n = length-take-le n xs le in
    let above : filter p (drop n xs) ≡ [] = filter_of_none_passing p (drop n xs) (λ k d l.
    rw (get_or-drop n xs k d)
    (let far : end ≤ symbol_address (get_or xs (n + k) d) = high.1 (n + k) d (omega arith) (omega (arith, l, length-drop n xs, le)) in grind (arith, nat_tests))) in
    let below : filter p (take i ys) ≡ [] = filter_of_none_passing p (take i ys) (λ k d l.
    let here : k < i = omega (arith, l, length-take-le i ys le2) in
    rw (get_or-take i ys k d here)
    (let near : symbol_address (get_or ys k d) < start = low.0 k d (omega arith) here in grind (arith, nat_tests))) in
    let inside : filter p (drop i ys) ≡ drop i ys = filter_of_all_passing p (drop i ys) (λ k d l.
    let there : i + k < length ys = omega (arith, l, length-drop i ys, le2) in
    let first : start ≤ symbol_address (get_or ys (i + k) d) = low.1 (i + k) d (omega arith) there in
    let second : symbol_address (get_or ys (i + k) d)
    < end = subst (λ (s : Symbol). symbol_address s < end) (sym (get_or-take n xs (i + k) d (omega (arith, there, size))))
    (high.0 (i + k) d (omega arith) (omega (arith, there, size)))
    in
    rw (get_or-drop i ys k d) (grind (arith, nat_tests))) in
    let parted : filter p ys ≡ drop i ys = ap (filter p) (sym (take-append-drop i ys)) ∙ filter-append p (take i ys) (drop i ys) ∙ rw (below, inside) refl in
    sym (ap (filter p) (sym (take-append-drop n xs)) ∙ filter-append p ys (drop n xs) ∙ rw (above, parted) (append-nil (drop i ys)))
