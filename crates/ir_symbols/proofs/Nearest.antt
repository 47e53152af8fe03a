-- What the nearest symbol is.
use Rattle.std.proofs.Common.{◌≡◌, ◌+◌, ◌<◌, ◌≤◌, ℕ, Bool, true, false, cond, ltb, ltb-true, ltb-false, List, [], ◌∷◌, ◌++◌, length, get_or, refl, sym, ap, subst, ◌∙◌, arith}
use Rattle.std.specs.Prelude.{Option, Some, None, IfSome, IfNone, MatchOption, option_map, IsTrue, not, ◌↔◌}
use Rattle.std.specs.List.{All, AllPass}
use Rattle.std.proofs.lemmas.Bool.Decides.{nat_tests}
use Rattle.std.proofs.lemmas.List.{get_or_at, length-append}
use Rattle.std.proofs.lemmas.List.Elements.{All-head, All-tail, All-cons, All-append, All-nil, All-weaker}
use Rattle.ir_symbols.specs.Symbols.{Symbol}
use Rattle.ir_symbols.specs.Tables.{reaches, IsNearestSymbol, greater_of, nearest}

-- at n or below it, if it reaches the address
abbrev AtMostIfReaching : ℕ → ℕ → Symbol → Type 0
AtMostIfReaching address n s = IsTrue (reaches address s) → s.address ≤ n

-- below n, if it reaches the address
abbrev BelowIfReaching : ℕ → ℕ → Symbol → Type 0
BelowIfReaching address n s = IsTrue (reaches address s) → s.address < n

-- it doesn't reach the address
abbrev IsUnreaching : ℕ → Symbol → Type 0
IsUnreaching address s = not (reaches address s) ≡ true

-- none reaches the address
abbrev pub NoneReaches : ℕ → List Symbol → Type 0
NoneReaches address symbols = AllPass (λ s. not (reaches address s)) symbols

pub not_true_and_negated : (b : Bool) → b ≡ true → not b ≡ true → ⊥
not_true_and_negated true e f = cc f
not_true_and_negated false e f = cc e

-- ---- from the symbol to the definition

greater_of_at_most : (n : ℕ) (s : Symbol) (o : Option Symbol) → s.address ≤ n → IfSome o (λ t. t.address ≤ n) → (greater_of s o).address ≤ n
greater_of_at_most n s None h k = h
greater_of_at_most n s (Some t) h k = by_test (ltb s.address t.address)
  where
    by_test : (b : Bool) → (cond b t s).address ≤ n
    by_test true = k
    by_test false = h

conditional_greater_le : (n : ℕ) (s : Symbol) (o : Option Symbol) (b : Bool) → (b ≡ true → s.address ≤ n) → IfSome o (λ t. t.address ≤ n)
    → IfSome (cond b (Some (greater_of s o)) o) (λ t. t.address ≤ n)
conditional_greater_le n s o true h rest = greater_of_at_most n s o (h refl) rest
conditional_greater_le n s o false h rest = rest

nearest_at_most_bound : (address n : ℕ) (symbols : List Symbol) → All (AtMostIfReaching address n) symbols → IfSome (nearest symbols address) (λ t. t.address ≤ n)
unfolding nearest
nearest_at_most_bound address n [] h = tt
nearest_at_most_bound address n (s ∷ symbols) h = conditional_greater_le n s (nearest symbols address) (reaches address s) (All-head (AtMostIfReaching address n) s symbols h)
    (nearest_at_most_bound address n symbols (All-tail (AtMostIfReaching address n) s symbols h))

greater_of_is_first : (s : Symbol) (o : Option Symbol) → IfSome o (λ t. t.address ≤ s.address) → greater_of s o ≡ s
greater_of_is_first s None h = refl
greater_of_is_first s (Some t) h = let e : ltb s.address t.address ≡ false = grind (arith, nat_tests) in rw e refl

greater_of_is_second : (s t : Symbol) → s.address < t.address → greater_of s (Some t) ≡ t
greater_of_is_second s t h = let e : ltb s.address t.address ≡ true = grind (arith, nat_tests) in rw e refl

-- a symbol that is below one after it
conditional_greater_some : (s t : Symbol) (o : Option Symbol) (b : Bool) → (b ≡ true → t.address < s.address) → o ≡ Some s
    → cond b (Some (greater_of t o)) o ≡ Some s
conditional_greater_some s t o true h e = ap (λ (p : Option Symbol). Some (greater_of t p)) e ∙ ap Some (greater_of_is_second t s (h refl))
conditional_greater_some s t o false h e = e

nearest_between : (address : ℕ) (s : Symbol) (before after : List Symbol) → IsTrue (reaches address s) → All (BelowIfReaching address s.address) before
    → All (AtMostIfReaching address s.address) after → nearest (before ++ s ∷ after) address ≡ Some s
unfolding nearest
nearest_between address s [] after here first rest = rw here (ap Some (greater_of_is_first s (nearest after address) (nearest_at_most_bound address s.address after rest)))
nearest_between address s (t ∷ before) after here first rest =
    conditional_greater_some s t (nearest (before ++ s ∷ after) address) (reaches address t) (All-head (BelowIfReaching address s.address) t before first)
    (nearest_between address s before after here (All-tail (BelowIfReaching address s.address) t before first) rest)

pub nearest_is_some : (symbols : List Symbol) (address : ℕ) (s : Symbol) → IsNearestSymbol symbols address s → nearest symbols address ≡ Some s
nearest_is_some symbols address s h =
    ap (λ (l : List Symbol). nearest l address) h.parts ∙ nearest_between address s h.before h.after h.reached h.first h.greatest

conditional_greater_nil : (s : Symbol) (o : Option Symbol) (b : Bool) → not b ≡ true → o ≡ None → cond b (Some (greater_of s o)) o ≡ None
conditional_greater_nil s o true h e = cc h
conditional_greater_nil s o false h e = e

pub nearest_is_none : (symbols : List Symbol) (address : ℕ) → NoneReaches address symbols → nearest symbols address ≡ None
unfolding nearest
nearest_is_none [] address h = refl
nearest_is_none (s ∷ symbols) address h =
    conditional_greater_nil s (nearest symbols address) (reaches address s) (All-head (IsUnreaching address) s symbols h)
    (nearest_is_none symbols address (All-tail (IsUnreaching address) s symbols h))

-- where none reaches the address, there is no nearest symbol
pub none_reaches_not_nearest : (symbols : List Symbol) (address : ℕ) → NoneReaches address symbols → (s : Symbol) → IsNearestSymbol symbols address s → ⊥
none_reaches_not_nearest symbols address h s n =
    let at : get_or symbols (length n.before) s ≡ s = ap (λ (l : List Symbol). get_or l (length n.before) s) n.parts
    ∙ get_or_at n.before s n.after s (length n.before) refl in
    let size : length symbols ≡ length n.before + length (s ∷ n.after) = ap length n.parts ∙ length-append n.before (s ∷ n.after) in
    let fails : not (reaches address s) ≡ true = subst (λ (t : Symbol). not (reaches address t) ≡ true) at
    (h (length n.before) s (omega (arith, size))) in
    not_true_and_negated (reaches address s) n.reached fails

-- the clauses of the look-up, by its cases
pub not_found_not_nearest : {R : Type 0} (o : Option R) (now : R → Symbol) (symbols : List Symbol) (address : ℕ)
    → MatchOption o (NoneReaches address symbols) (λ r. IsNearestSymbol symbols address (now r))
    → IfNone o ((s : Symbol) → IsNearestSymbol symbols address s → ⊥)
not_found_not_nearest None now symbols address h = none_reaches_not_nearest symbols address h
not_found_not_nearest (Some r) now symbols address h = tt

pub look_up_is_nearest : {R : Type 0} (o : Option R) (now : R → Symbol) (symbols : List Symbol) (address : ℕ)
    → MatchOption o (NoneReaches address symbols) (λ r. IsNearestSymbol symbols address (now r))
    → option_map now o ≡ nearest symbols address
look_up_is_nearest None now symbols address h = sym (nearest_is_none symbols address h)
look_up_is_nearest (Some r) now symbols address h = sym (nearest_is_some symbols address (now r) h)

-- ---- from the definition to the symbol

some_is_injective : (s t : Symbol) → Some s ≡ Some t → s ≡ t
some_is_injective s t e = cc e

greater_none_parts : (s : Symbol) (o : Option Symbol) (b : Bool) → cond b (Some (greater_of s o)) o ≡ None → (not b ≡ true) × (o ≡ None)
greater_none_parts s o true e = cc e
greater_none_parts s o false e = (refl, e)

nearest_none_no_reach : (symbols : List Symbol) (address : ℕ) → nearest symbols address ≡ None → NoneReaches address symbols
unfolding nearest
nearest_none_no_reach [] address e = All-nil (IsUnreaching address)
nearest_none_no_reach (s ∷ symbols) address e =
    let p = greater_none_parts s (nearest symbols address) (reaches address s) e in
    All-cons (IsUnreaching address) s symbols p.0 (nearest_none_no_reach symbols address p.1)

unreaching_is_at_most : (address n : ℕ) (s : Symbol) → IsUnreaching address s → AtMostIfReaching address n s
unreaching_is_at_most address n s h reached = absurd (not_true_and_negated (reaches address s) reached h)

unreaching_is_below : (address n : ℕ) (s : Symbol) → IsUnreaching address s → BelowIfReaching address n s
unreaching_is_below address n s h reached = absurd (not_true_and_negated (reaches address s) reached h)

-- one symbol more before the others, of which the nearest is t
nearest_behind_lower : (address : ℕ) (s t : Symbol) (symbols : List Symbol) → BelowIfReaching address t.address s → IsNearestSymbol symbols address t
    → IsNearestSymbol (s ∷ symbols) address t
nearest_behind_lower address s t symbols h n = record {
  before = s ∷ n.before;
  after = n.after;
  parts = ap (λ (l : List Symbol). s ∷ l) n.parts;
  reached = n.reached;
  first = All-cons (BelowIfReaching address t.address) s n.before h n.first;
  greatest = n.greatest;
}

-- no symbol that reaches the address is above the nearest
reaching_le_nearest : (address : ℕ) (t : Symbol) (symbols : List Symbol) → IsNearestSymbol symbols address t → All (AtMostIfReaching address t.address) symbols
reaching_le_nearest address t symbols n = subst (All (AtMostIfReaching address t.address)) (sym n.parts)
    (All-append (AtMostIfReaching address t.address) n.before (t ∷ n.after)
    (All-weaker (BelowIfReaching address t.address) (AtMostIfReaching address t.address) (λ s h reached. let l = h reached in omega (arith, l)) n.before n.first)
    (All-cons (AtMostIfReaching address t.address) t n.after (λ reached. omega arith) n.greatest))

first_nearest_of_lower : (address : ℕ) (s : Symbol) (symbols : List Symbol) → IsTrue (reaches address s) → All (AtMostIfReaching address s.address) symbols
    → IsNearestSymbol (s ∷ symbols) address s
first_nearest_of_lower address s symbols reached h = record {
  before = [];
  after = symbols;
  parts = refl;
  reached = reached;
  first = All-nil (BelowIfReaching address s.address);
  greatest = h;
}

-- the first symbol or the nearest of the others
greater_nearest_of_both : (address : ℕ) (s t u : Symbol) (symbols : List Symbol) (b : Bool) → ltb s.address t.address ≡ b → IsTrue (reaches address s)
    → IsNearestSymbol symbols address t → cond b t s ≡ u → IsNearestSymbol (s ∷ symbols) address u
greater_nearest_of_both address s t u symbols true e reached n f =
    subst (IsNearestSymbol (s ∷ symbols) address) f (nearest_behind_lower address s t symbols (λ _. ltb-true _ _ e) n)
greater_nearest_of_both address s t u symbols false e reached n f =
    subst (IsNearestSymbol (s ∷ symbols) address) f (first_nearest_of_lower address s symbols reached
    (All-weaker (AtMostIfReaching address t.address) (AtMostIfReaching address s.address)
    (λ x h over. let le = h over in let back = ltb-false _ _ e in omega (arith, le, back)) symbols (reaching_le_nearest address t symbols n)))

greater_reaching_first : (address : ℕ) (s t : Symbol) (symbols : List Symbol) (o : Option Symbol) → nearest symbols address ≡ o → IsTrue (reaches address s)
    → ((u : Symbol) → nearest symbols address ≡ Some u → IsNearestSymbol symbols address u) → greater_of s o ≡ t → IsNearestSymbol (s ∷ symbols) address t
greater_reaching_first address s t symbols None e reached others f =
    subst (IsNearestSymbol (s ∷ symbols) address) f (first_nearest_of_lower address s symbols reached
    (All-weaker (IsUnreaching address) (AtMostIfReaching address s.address) (unreaching_is_at_most address s.address) symbols (nearest_none_no_reach symbols address e)))
greater_reaching_first address s t symbols (Some u) e reached others f =
    greater_nearest_of_both address s u t symbols (ltb s.address u.address) refl reached (others u e) f

conditional_nearest : (address : ℕ) (s t : Symbol) (symbols : List Symbol) (b : Bool) → reaches address s ≡ b
    → ((u : Symbol) → nearest symbols address ≡ Some u → IsNearestSymbol symbols address u)
    → cond b (Some (greater_of s (nearest symbols address))) (nearest symbols address) ≡ Some t → IsNearestSymbol (s ∷ symbols) address t
conditional_nearest address s t symbols true e others f =
    greater_reaching_first address s t symbols (nearest symbols address) refl e others (some_is_injective _ _ f)
conditional_nearest address s t symbols false e others f =
    nearest_behind_lower address s t symbols (unreaching_is_below address t.address s (ap not e)) (others t f)

some_is_nearest : (symbols : List Symbol) (address : ℕ) (s : Symbol) → nearest symbols address ≡ Some s → IsNearestSymbol symbols address s
unfolding nearest
some_is_nearest [] address s e = cc e
some_is_nearest (t ∷ symbols) address s e =
    conditional_nearest address t s symbols (reaches address t) refl (λ u f. some_is_nearest symbols address u f) e

pub nearest_iff_is_nearest : (symbols : List Symbol) (address : ℕ) (s : Symbol) → (nearest symbols address ≡ Some s) ↔ IsNearestSymbol symbols address s
nearest_iff_is_nearest symbols address s = (some_is_nearest symbols address s, nearest_is_some symbols address s)
