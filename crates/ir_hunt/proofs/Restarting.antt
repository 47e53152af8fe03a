-- Worlds that are started again.
use Rattle.std.proofs.Common.{◌≡◌, ◌<◌, ◌+◌, ℕ, List, [], ◌∷◌, ◌++◌, length, map, take, set, sym, ap, ◌∙◌, arith, add-one}
use Rattle.std.specs.Prelude.{replicate}
use Rattle.std.proofs.lemmas.List.{map-set, length-map, take_more_set}
use Rattle.ir_lemmas.proofs.CallerLemmas.{replicate_append_one}

-- one world more is as it was
pub take_map_replicate_step : {W A : Type 0} (f : W → A) (worlds : List W) (place : ℕ) (new : W) (x : A) → place < length worlds
    → take place (map f worlds) ≡ replicate place x → f new ≡ x → take (place + 1) (map f (set worlds place new)) ≡ replicate (place + 1) x
take_map_replicate_step f worlds place new x l before here =
    ap (take (place + 1)) (map-set f worlds place new)
    ∙ take_more_set (map f worlds) place (f new) (let n = length-map worlds f in omega (arith, n, l))
    ∙ ap (λ z. z ++ f new ∷ []) before ∙ ap (λ z. replicate place x ++ z ∷ []) here
    ∙ replicate_append_one place x ∙ ap (λ n. replicate n x) (sym (add-one place))
