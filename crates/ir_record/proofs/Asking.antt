-- Worlds that are asked.
use Rattle.std.proofs.Common.{◌≡◌, ℕ, ◌<◌, true, false, Bool, List, [], ◌∷◌, ◌++◌, length, map, set, get_or, refl, sym, ap, ◌∙◌, subst}
use Rattle.std.proofs.Common.{arith, inl, inr, get_or-set_same, get_or-set_other, length-append, ◌+◌, zero, suc}
use Rattle.std.proofs.lemmas.Bool.{cases_eq}
use Rattle.std.proofs.lemmas.List.{get_or-map, map-set, length-map}
use Rattle.ir_record.specs.Worlds.{AnsweredCall, NoneFailed, IsFirstFailed, answers_at}

-- a world that is asked has not failed
pub asked_has_not_failed : {W : Type 0} (broken : W → Bool) (worlds : List W) (t : ℕ) (w : W) → NoneFailed (map broken worlds) → t < length worlds
    → w ≡ get_or worlds t w → broken w ≡ false
asked_has_not_failed broken worlds t w works l e = ap broken e ∙ sym (get_or-map broken worlds t w false l) ∙ works t

pub answers_set_world : {W : Type 0} (answers : W → List AnsweredCall) (worlds : List W) (t : ℕ) (w new : W) (given : AnsweredCall) → t < length worlds
    → w ≡ get_or worlds t w → answers new ≡ answers w ++ given ∷ []
    → map answers (set worlds t new) ≡ set (map answers worlds) t (answers_at (map answers worlds) t ++ given ∷ [])
answers_set_world answers worlds t w new given l e h =
    map-set answers worlds t new ∙ ap (set (map answers worlds) t)
    (h ∙ ap (λ z. z ++ given ∷ []) (ap answers e ∙ sym (get_or-map answers worlds t w [] l)))

pub none_failed_set : {W : Type 0} (broken : W → Bool) (worlds : List W) (t : ℕ) (new : W) → NoneFailed (map broken worlds) → t < length worlds
    → broken new ≡ false → NoneFailed (map broken (set worlds t new))
none_failed_set broken worlds t new works l h u = subst (λ z. get_or z u false ≡ false) (sym (map-set broken worlds t new))
    (elim (cases_eq u t) [
      | inl e ↦ ap (λ z. get_or (set (map broken worlds) t (broken new)) z false) e
          ∙ get_or-set_same (map broken worlds) t (broken new) false (let n = length-map worlds broken in omega (arith, n, l)) ∙ h
      | inr ne ↦ get_or-set_other (map broken worlds) t u (broken new) false ne ∙ works u
    ])

pub broken_is_first_failed : {W : Type 0} (broken : W → Bool) (worlds : List W) (t : ℕ) (new : W) → NoneFailed (map broken worlds) → t < length worlds
    → broken new ≡ true → IsFirstFailed (map broken (set worlds t new)) t
broken_is_first_failed broken worlds t new works l h = subst (λ z. IsFirstFailed z t) (sym (map-set broken worlds t new)) (
  get_or-set_same (map broken worlds) t (broken new) false (let n = length-map worlds broken in omega (arith, n, l)) ∙ h,
  λ u below. get_or-set_other (map broken worlds) t u (broken new) false (λ e. omega (arith, e, below)) ∙ works u,
)

-- one world more that has not failed
pub none_failed_push : {W : Type 0} (broken : W → Bool) (worlds new : List W) (w : W) → NoneFailed (map broken worlds) → new ≡ worlds ++ w
    ∷ [] → broken w ≡ false → NoneFailed (map broken new)
none_failed_push {W} broken worlds new w works e h t = ap (λ z. get_or (map broken z) t false) e ∙ go worlds t (works t)
  where
    go : (xs : List W) (t : ℕ) → get_or (map broken xs) t false ≡ false → get_or (map broken (xs ++ w ∷ [])) t false ≡ false
    go [] zero k = h
    go [] (suc t) k = refl
    go (x ∷ xs) zero k = k
    go (x ∷ xs) (suc t) k = go xs t k

pub length_of_push : {W : Type 0} (worlds new : List W) (w : W) (n : ℕ) → length worlds ≡ n → new ≡ worlds ++ w ∷ [] → length new ≡ n + 1
length_of_push worlds new w n h e = let k = length-append worlds (w ∷ []) in let m : length new ≡ length (worlds ++ w ∷ []) =
    ap (λ xs. length xs) e in omega (arith, h, k, m)

-- a world that is as before, seen by a function
pub map_set_alike : {W B : Type 0} (f : W → B) (worlds : List W) (t : ℕ) (w new : W) → w ≡ get_or worlds t w → f new ≡ f w
    → map f (set worlds t new) ≡ map f worlds
map_set_alike f [] t w new e h = refl
map_set_alike f (x ∷ worlds) zero w new e h = ap (λ z. z ∷ map f worlds) (h ∙ ap f e)
map_set_alike f (x ∷ worlds) (suc t) w new e h = ap (λ z. f x ∷ z) (map_set_alike f worlds t w new e h)
