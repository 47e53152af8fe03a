-- Tables that are joined.
use Rattle.std.proofs.Common.{◌≡◌, ℕ, List, [], ◌∷◌, ◌++◌, Option, Some, Bool, true, false, cond, refl, sym}
use Rattle.std.specs.Prelude.{bytes_eq}
use Rattle.ir_asm.specs.Names.{named, first_name}

choice_before_first_of : {A : Type 0} (t : Bool) (x : A) (r s o : Option A) → r ≡ first_name s o → cond t (Some x) r ≡ first_name (cond t (Some x) s) o
choice_before_first_of true x r s o e = refl
choice_before_first_of false x r s o e = e

pub named_append : {A : Type 0} (xs ys : List (List ℕ × A)) (name : List ℕ)
    → named (xs ++ ys) name ≡ first_name (named xs name) (named ys name)
named_append [] ys name = refl
named_append (x ∷ xs) ys name = choice_before_first_of (bytes_eq name x.0) x.1 (named (xs ++ ys) name) (named xs name) (named ys name)
    (named_append xs ys name)

-- two tables, as a chain of tests gives them
pub first_of_named_append : {A : Type 0} (xs ys : List (List ℕ × A)) (name : List ℕ) (r s : Option A) → r ≡ named xs name → s ≡ named ys name
    → first_name r s ≡ named (xs ++ ys) name
first_of_named_append xs ys name r s e f = rw (e, f) (sym (named_append xs ys name))
