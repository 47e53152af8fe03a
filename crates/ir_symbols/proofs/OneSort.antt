-- There is one way to sort symbols.
use Rattle.std.proofs.Common.{◌≡◌, ◌<◌, ◌≤◌, suc, Bool, true, false, cond, List, [], ◌∷◌, get_or, refl, sym, ap, subst, ◌∙◌, arith, inl, inr}
use Rattle.std.specs.Prelude.{filter}
use Rattle.std.specs.Ordering.{nat_cmp, is_lt}
use Rattle.std.specs.List.Sorted.{IsNonDecreasingBy, ties}
use Rattle.std.proofs.lemmas.Bool.{cases_lt}
use Rattle.std.proofs.lemmas.Bool.Decides.{nat_tests}
use Rattle.std.proofs.lemmas.List.Sorted.{IsPermutation-refl}
use Rattle.ir_symbols.specs.Symbols.{Symbol, symbol_address}
use Rattle.ir_symbols.specs.Tables.{IsSortOf}
use Rattle.ir_symbols.proofs.Ranges.{filter_of_none_passing}

-- two symbols have one address
abbrev have_one_address : Symbol → Symbol → Bool
have_one_address = ties (λ x y. is_lt (nat_cmp (symbol_address x) (symbol_address y)))

same_has_one_address : (s t : Symbol) → s.address ≡ t.address → have_one_address s t ≡ true
same_has_one_address s t e = grind (arith, nat_tests)

below_other_address : (s t : Symbol) → s.address < t.address → have_one_address s t ≡ false
below_other_address s t l = grind (arith, nat_tests)

-- of symbols that are all above another, none has its address
filter_below_first : (s t : Symbol) (symbols : List Symbol) → IsNonDecreasingBy symbol_address (t ∷ symbols) → s.address < t.address
    → filter (have_one_address s) (t ∷ symbols) ≡ []
filter_below_first s t symbols rising l = filter_of_none_passing (have_one_address s) (t ∷ symbols)
    (λ k d m. below_other_address s (get_or (t ∷ symbols) k d)
    (let up : t.address ≤ symbol_address (get_or (t ∷ symbols) k d) = rising 0 k d (omega arith) m in omega (arith, l, up)))

tail_is_nondecreasing : (s : Symbol) (symbols : List Symbol) → IsNonDecreasingBy symbol_address (s ∷ symbols) → IsNonDecreasingBy symbol_address symbols
tail_is_nondecreasing s symbols rising i j d le l = rising (suc i) (suc j) d (omega (arith, le)) (omega (arith, l))

-- the first symbols of two sorts are at one address
first_address_lowest : (s t : Symbol) (first second : List Symbol) → IsNonDecreasingBy symbol_address (t ∷ second)
    → filter (have_one_address s) (s ∷ first) ≡ filter (have_one_address s) (t ∷ second) → t.address ≤ s.address
first_address_lowest s t first second rising same = elim (cases_lt s.address t.address) [
  | inl l ↦ absurd (some_none s (filter (have_one_address s) first)
      (ap (λ (b : Bool). cond b (s ∷ filter (have_one_address s) first) (filter (have_one_address s) first)) (sym (same_has_one_address s s refl))
      ∙ same ∙ filter_below_first s t second rising l))
  | inr le ↦ le
]
  where
    some_none : (x : Symbol) (l : List Symbol) → x ∷ l ≡ [] → ⊥
    some_none x l e = cc e

conditional_tails_equal : (s : Symbol) (b : Bool) (first second : List Symbol) → cond b (s ∷ first) first ≡ cond b (s ∷ second) second → first ≡ second
conditional_tails_equal s true first second e = cc e
conditional_tails_equal s false first second e = e

conditional_heads_equal : (s t : Symbol) (b c : Bool) (first second : List Symbol) → b ≡ true → c ≡ true
    → cond b (s ∷ first) first ≡ cond c (t ∷ second) second → s ≡ t
conditional_heads_equal s t true true first second e f g = cc g
conditional_heads_equal s t true false first second e f g = cc f
conditional_heads_equal s t false c first second e f g = cc e

sorted_by_address_equal : (first second : List Symbol) → IsNonDecreasingBy symbol_address first → IsNonDecreasingBy symbol_address second
    → ((s : Symbol) → filter (have_one_address s) first ≡ filter (have_one_address s) second) → first ≡ second
sorted_by_address_equal [] [] up rising same = refl
sorted_by_address_equal [] (t ∷ second) up rising same =
    cc (same t ∙ ap (λ (b : Bool). cond b (t ∷ filter (have_one_address t) second) (filter (have_one_address t) second))
    (same_has_one_address t t refl))
sorted_by_address_equal (s ∷ first) [] up rising same =
    cc (sym (same s)
    ∙ ap (λ (b : Bool). cond b (s ∷ filter (have_one_address s) first) (filter (have_one_address s) first))
    (same_has_one_address s s refl))
sorted_by_address_equal (s ∷ first) (t ∷ second) up rising same =
    let low : t.address ≤ s.address = first_address_lowest s t first second rising (same s) in
    let high : s.address ≤ t.address = first_address_lowest t s second first up (sym (same t)) in
    let head : s ≡ t = conditional_heads_equal s t (have_one_address s s) (have_one_address s t) (filter (have_one_address s) first) (filter (have_one_address s) second)
    (same_has_one_address s s refl) (same_has_one_address s t (omega (arith, low, high))) (same s) in
    let rest : first ≡ second = sorted_by_address_equal first second (tail_is_nondecreasing s first up) (tail_is_nondecreasing t second rising)
    (λ z. conditional_tails_equal s (have_one_address z s) (filter (have_one_address z) first) (filter (have_one_address z) second)
    (subst (λ (x : Symbol). filter (have_one_address z) (s ∷ first) ≡ filter (have_one_address z) (x ∷ second)) (sym head) (same z))) in
    ap (λ (x : Symbol). x ∷ first) head ∙ ap (λ (l : List Symbol). t ∷ l) rest

pub sorts_of_symbols_equal : (given first second : List Symbol) → IsSortOf given first → IsSortOf given second → first ≡ second
sorts_of_symbols_equal given first second f g = sorted_by_address_equal first second f.rising g.rising (λ s. f.stable s ∙ sym (g.stable s))

-- sorted symbols are their own sort
pub sorted_is_own_sort : (symbols : List Symbol) → IsNonDecreasingBy symbol_address symbols → IsSortOf symbols symbols
sorted_is_own_sort symbols rising = record { permutation = IsPermutation-refl symbols; rising = rising; stable = λ s. refl }
