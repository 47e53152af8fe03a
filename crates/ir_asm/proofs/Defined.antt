-- Labels, by the entries of the map that keeps them.
use Rattle.std.proofs.Common.{◌≡◌, ℕ, cond, List, [], ◌∷◌, ◌++◌, refl, ap, Some}
use Rattle.std.specs.Prelude.{map, bytes_eq}
use Rattle.std.specs.Map.{lookup}
use Rattle.ir_asm.specs.Names.{named}

module _ {K X : Type 0} (text : K → List ℕ) where
  -- a name and what is beside it, as they are seen
  abbrev pub seen : K × X → List ℕ × X
  seen e = (text e.0, e.1)

  -- what is seen is looked up alike
  pub lookup_seen : (name : List ℕ) (es : List (K × X)) → lookup (λ k. bytes_eq name (text k)) es ≡ named (map seen es) name
  lookup_seen name [] = refl
  lookup_seen name (e ∷ es) = ap (cond (bytes_eq name (text e.0)) (Some e.1)) (lookup_seen name es)

  pub seen_append : (es fs : List (K × X)) → map seen (es ++ fs) ≡ map seen es ++ map seen fs
  seen_append [] fs = refl
  seen_append (e ∷ es) fs = ap (λ l. seen e ∷ l) (seen_append es fs)
