-- Kept cuts, found and left out by their numbers.
use Rattle.std.proofs.Common.{◌≡◌, ◌<◌, ◌≤◌, ◌+◌, ◌==◌, ℕ, Bool, true, false, List, [], ◌∷◌, ◌++◌, length, drop, Option, Some, None, refl, sym, ap, ◌∙◌, subst, get_or}
use Rattle.std.specs.Prelude.{find, cond, option_map, is_some, MatchOption, IsSome, IfSome, flat_map}
use Rattle.std.proofs.lemmas.List.{at_drop_more, at_drop_all}
use Rattle.ir_fit.specs.Fit.{FittedTrace}
use Rattle.ir_timeline.specs.Hand.{IsCutOf}
use Rattle.ir_debug.specs.Machine.{Kept, kept_cut, kept_line}
use Rattle.ir_debug.specs.Debugging.{AllKept}

conditional_kept_is_cut : (f : FittedTrace) (k : Kept) (c : List ℕ) (rest : Option Kept) (b : Bool) → IsCutOf f k.cut
    → (option_map (λ z. z.cut) rest ≡ Some c → IsCutOf f c) → option_map (λ z. z.cut) (cond b (Some k) rest) ≡ Some c → IsCutOf f c
conditional_kept_is_cut f k c rest true one others is = let same : k.cut ≡ c = cc is in subst (IsCutOf f) same one
conditional_kept_is_cut f k c rest false one others is = others is

-- one of them is consistent
pub kept_of_number_is_cut : (f : FittedTrace) (ks : List Kept) (n : ℕ) (c : List ℕ) → AllKept f ks → kept_cut ks n ≡ Some c → IsCutOf f c
kept_of_number_is_cut f [] n c all is = absurd cc
kept_of_number_is_cut f (k ∷ ks) n c all is = conditional_kept_is_cut f k c (find (λ z. z.number == n) ks) (k.number == n) all.0 (kept_of_number_is_cut f ks n c all.1) is

-- ---- what was found

-- a cut that is kept is found
pub kept_cut_is_found : {A : Type 0} (o : Option A) (value : A → List ℕ) (ks : List Kept) (n : ℕ)
    → MatchOption o (kept_cut ks n ≡ None) (λ c. kept_cut ks n ≡ Some (value c)) → is_some (kept_cut ks n) ≡ true → IsSome o
kept_cut_is_found None value ks n none is = absurd (let no : false ≡ true = ap is_some (sym none) ∙ is in cc no)
kept_cut_is_found (Some x) value ks n some is = refl

-- and is the one
pub found_cut_is_kept_cut : {A : Type 0} (o : Option A) (value : A → List ℕ) (ks : List Kept) (n : ℕ) (x : A)
    → MatchOption o (kept_cut ks n ≡ None) (λ c. kept_cut ks n ≡ Some (value c)) → o ≡ Some x → kept_cut ks n ≡ Some (value x)
found_cut_is_kept_cut o value ks n x found is = subst (λ z. MatchOption z (kept_cut ks n ≡ None) (λ c. kept_cut ks n ≡ Some (value c))) is found

-- a kept cut is one
pub found_kept_cut_is_cut : {A : Type 0} (o : Option A) (value : A → List ℕ) (f : FittedTrace) (ks : List Kept) (n : ℕ) → AllKept f ks
    → MatchOption o (kept_cut ks n ≡ None) (λ x. kept_cut ks n ≡ Some (value x)) → IfSome o (λ x. IsCutOf f (value x))
found_kept_cut_is_cut None value f ks n all is = tt
found_kept_cut_is_cut (Some x) value f ks n all is = kept_of_number_is_cut f ks n (value x) all is

-- ---- their lines

-- the first, which is in a text that was empty, and the others
pub kept_text_step : (ks : List Kept) (i : ℕ) (k : Kept) (first line : List ℕ) → i < length ks → k ≡ get_or ks i k → first ≡ []
    → line ≡ first ++ kept_line k → flat_map kept_line (drop i ks) ≡ line ++ flat_map kept_line (drop (i + 1) ks)
kept_text_step ks i k first line some at none same =
    let rest : List ℕ = flat_map kept_line (drop (i + 1) ks) in
    at_drop_more (flat_map kept_line) ks i k some
    ∙ ap (λ (x : List ℕ). x ++ rest) (ap kept_line (sym at) ∙ sym (same ∙ ap (λ (x : List ℕ). x ++ kept_line k) none))

-- none is left after the last
pub kept_text_at_end : (ks : List Kept) (i : ℕ) → length ks ≤ i → flat_map kept_line (drop i ks) ≡ []
kept_text_at_end ks i l = at_drop_all (flat_map kept_line) ks i l
