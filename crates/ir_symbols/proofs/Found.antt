-- How the nearest symbol is found.
use Rattle.std.proofs.Common.{◌≡◌, ◌+◌, ◌-◌, ◌/◌, ◌<◌, ◌≤◌, ℕ, true, List, ◌∷◌, ◌++◌, length, take, drop, get_or, sym, ap, subst, ◌∙◌, arith, take-append-drop, inl, inr}
use Rattle.std.specs.Prelude.{IsTrue, not}
use Rattle.std.specs.List.Sorted.{IsNonDecreasingBy}
use Rattle.std.proofs.lemmas.Bool.{cases_lt}
use Rattle.std.proofs.lemmas.Bool.Decides.{nat_tests}
use Rattle.std.proofs.lemmas.List.{length-drop, length-take-le, get_or-take, get_or-drop, get_or_default, drop_more}
use Rattle.ir_symbols.specs.Symbols.{Symbol, symbol_address}
use Rattle.ir_symbols.specs.Tables.{reaches, IsNearestSymbol}
use Rattle.ir_symbols.proofs.Counts.{IsCountBelow, IsCountUpTo}
use Rattle.ir_symbols.proofs.Nearest.{NoneReaches, not_true_and_negated}

-- the last of the first n symbols
pub last_of_counted_symbols : (symbols : List Symbol) (n : ℕ) (last : Symbol) → n ≤ length symbols → 0 < length (take n symbols)
    → ((d : Symbol) → last ≡ get_or (take n symbols) (length (take n symbols) - 1) d) → (0 < n) × (last ≡ get_or symbols (n - 1) last)
last_of_counted_symbols symbols n last le some at =
    let size : length (take n symbols) ≡ n = length-take-le n symbols le in
    let more : 0 < n = omega (arith, some, size) in
    (more, at last ∙ ap (λ (k : ℕ). get_or (take n symbols) (k - 1) last) size ∙ get_or-take n symbols (n - 1) last (omega (arith, more)))

-- fewer symbols than those are below the last of them
pub count_below_last_less : (symbols : List Symbol) (n i : ℕ) (last : Symbol) → n ≤ length symbols → 0 < n → last ≡ get_or symbols (n - 1) last
    → IsCountBelow (take n symbols) last.address i → i ≤ length (take n symbols) → i < n
count_below_last_less symbols n i last le some at below most =
    let size : length (take n symbols) ≡ n = length-take-le n symbols le in
    elim (cases_lt i n) [
      | inl under ↦ under
      | inr over ↦
          let top : symbol_address (get_or (take n symbols) (n - 1) last) < last.address = below.0 (n - 1) last (omega arith) (omega (arith, over, some)) in
          let itself : last.address < last.address = subst (λ (s : Symbol). symbol_address s < last.address)
          (get_or-take n symbols (n - 1) last (omega (arith, some)) ∙ sym at) top in
          absurd (omega (arith, itself))
    ]

-- a symbol above the address doesn't reach it
above_does_not_reach : (address : ℕ) (s : Symbol) → address < s.address → not (reaches address s) ≡ true
above_does_not_reach address s h = grind (arith, nat_tests)

-- nor does one below a symbol at or before the address that doesn't
below_range_no_reach : (address highest : ℕ) (s : Symbol) → s.address ≤ highest → highest ≤ address
    → (highest / 65536 ≡ address / 65536 → ⊥) → not (reaches address s) ≡ true
below_range_no_reach address highest s h k other =
    let apart : s.address / 65536 ≡ address / 65536 → ⊥ = λ e. other (omega (arith, e)) in
    grind (arith, nat_tests, apart)

-- of symbols of which the last at or before the address is in other 64 KiB, none reaches it
pub other_range_no_reach : (symbols : List Symbol) (address n : ℕ) (last : Symbol) → IsNonDecreasingBy symbol_address symbols → n ≤ length symbols
    → IsCountUpTo symbols address n → 0 < n → last ≡ get_or symbols (n - 1) last
    → (last.address / 65536 ≡ address / 65536 → ⊥) → NoneReaches address symbols
other_range_no_reach symbols address n last rising le count some at other k d l =
    elim (cases_lt k n) [
      | inl under ↦
          let there : get_or symbols (n - 1) d ≡ last = get_or_default symbols (n - 1) d last (omega (arith, le, some)) ∙ sym at in
          let top : symbol_address (get_or symbols (n - 1) d) ≤ address = count.0 (n - 1) d (omega arith) (omega (arith, some)) in
          let order : symbol_address (get_or symbols k d) ≤ symbol_address (get_or symbols (n - 1) d) = rising k (n - 1) d (omega (arith, under)) (omega (arith, le, some)) in
          below_range_no_reach address last.address (get_or symbols k d)
          (subst (λ (s : Symbol). symbol_address (get_or symbols k d) ≤ symbol_address s) there order)
          (subst (λ (s : Symbol). symbol_address s ≤ address) there top) other
      | inr over ↦ above_does_not_reach address (get_or symbols k d) (count.1 k d over l)
    ]

-- of no symbol at or before the address, none reaches it
pub none_counted_no_reach : (symbols : List Symbol) (address n : ℕ) → IsCountUpTo symbols address n → n ≡ 0 → NoneReaches address symbols
none_counted_no_reach symbols address n count none k d l = above_does_not_reach address (get_or symbols k d) (count.1 k d (omega (arith, none)) l)

-- no symbol that reaches the address is above the last one at or before it
reaching_le_last : (symbols : List Symbol) (address n k : ℕ) (last s d : Symbol) → IsNonDecreasingBy symbol_address symbols → n ≤ length symbols
    → IsCountUpTo symbols address n → last ≡ get_or symbols (n - 1) last → k < length symbols → s.address ≡ last.address
    → IsTrue (reaches address (get_or symbols k d)) → (get_or symbols k d).address ≤ s.address
reaching_le_last symbols address n k last s d rising le count at fits same reach =
    elim (cases_lt k n) [
      | inl under ↦
          let there : get_or symbols (n - 1) d ≡ last = get_or_default symbols (n - 1) d last (omega (arith, le, under)) ∙ sym at in
          let order : symbol_address (get_or symbols k d) ≤ symbol_address (get_or symbols (n - 1) d) = rising k (n - 1) d (omega (arith, under)) (omega (arith, le, under)) in
          let order_last : symbol_address (get_or symbols k d) ≤ last.address = subst (λ (t : Symbol). symbol_address (get_or symbols k d) ≤ symbol_address t) there order in
          omega (arith, order_last, same)
      | inr over ↦
          let far : address < symbol_address (get_or symbols k d) = count.1 k d over fits in
          absurd (not_true_and_negated (reaches address (get_or symbols k d)) reach (above_does_not_reach address (get_or symbols k d) far))
    ]

-- the first symbol at the address of the last one at or before the address
pub first_at_last_nearest : (symbols : List Symbol) (address n i : ℕ) (last s : Symbol) → IsNonDecreasingBy symbol_address symbols → n ≤ length symbols
    → IsCountUpTo symbols address n → 0 < n → last ≡ get_or symbols (n - 1) last → last.address / 65536 ≡ address / 65536
    → IsCountBelow (take n symbols) last.address i → i < n → s ≡ get_or (take n symbols) i s → IsNearestSymbol symbols address s
first_at_last_nearest symbols address n i last s rising le count some at near below inside is =
    let size : length (take n symbols) ≡ n = length-take-le n symbols le in
    let here : s ≡ get_or symbols i s = is ∙ get_or-take n symbols i s inside in
    let fits : i < length symbols = omega (arith, inside, le) in
    let there : get_or symbols (n - 1) s ≡ last = get_or_default symbols (n - 1) s last (omega (arith, le, some)) ∙ sym at in
    let low : last.address ≤ s.address = subst (λ (t : Symbol). last.address ≤ symbol_address t) (sym is) (below.1 i s (omega arith) (omega (arith, size, inside))) in
    let high : s.address ≤ last.address =
    subst (λ (t : Symbol). symbol_address t ≤ last.address) (sym here)
    (subst (λ (t : Symbol). symbol_address (get_or symbols i s) ≤ symbol_address t) there (rising i (n - 1) s (omega (arith, inside)) (omega (arith, le, some)))) in
    let same : s.address ≡ last.address = omega (arith, low, high) in
    let top : last.address ≤ address = subst (λ (t : Symbol). symbol_address t ≤ address) there (count.0 (n - 1) s (omega arith) (omega (arith, some))) in
    record {
      before = take i symbols;
      after = drop (i + 1) symbols;
      parts = sym (take-append-drop i symbols) ∙ ap (λ (l : List Symbol). take i symbols ++ l) (drop_more symbols i s fits ∙ ap (λ (t : Symbol). t ∷ drop (i + 1) symbols) (sym here));
      reached = grind (arith, nat_tests);
      first = λ k d l _.
          let k_inside : k < i = omega (arith, l, length-take-le i symbols (omega (arith, fits))) in
          rw (get_or-take i symbols k d k_inside, same)
          (subst (λ (t : Symbol). symbol_address t < last.address) (get_or-take n symbols k d (omega (arith, k_inside, inside))) (below.0 k d (omega arith) k_inside));
      greatest = λ k d l reach.
          rw (get_or-drop (i + 1) symbols k d)
          (reaching_le_last symbols address n (i + 1 + k) last s d rising le count at (omega (arith, l, length-drop (i + 1) symbols)) same
          (subst (λ (t : Symbol). IsTrue (reaches address t)) (get_or-drop (i + 1) symbols k d) reach));
    }
