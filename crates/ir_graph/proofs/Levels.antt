-- A node's level is at most the number of switches of each way to it.
use Rattle.std.proofs.Common.{◌≡◌, ℕ, zero, suc, ◌+◌, ◌<◌, ◌≤◌, Bool, true, cond, eq-eqb, ne_eqb, Some, List, [], ◌∷◌, inl, inr, sym, ap, ◌∙◌, subst, arith}
use Rattle.std.specs.Prelude.{slice_get}
use Rattle.std.proofs.lemmas.Bool.{cases_eq, cases_lt}
use Rattle.std.proofs.lemmas.Option.{same_Some}
use Rattle.ir_search.specs.declared.origin.Origin.{Origin}
use Rattle.ir_search.specs.Following.{Leading, BothWays, GoesTo}
use Rattle.ir_search.specs.Levels.{Covered, AreGoneOver}
use Rattle.ir_search.specs.Meaning.{Steps}
use Rattle.ir_runs.specs.Machine.{Machine}
use Rattle.ir_runs.specs.Run.{State, Step, act, Can}
use Rattle.ir_search_laws.specs.Nodes.{Path}
use Rattle.ir_search_laws.specs.Orders.{is_refusal}
use Rattle.ir_search_laws.specs.Outcomes.{changes, switches}

module _ {T : Type 0} (m : Machine T) (state_of : ℕ → State T) (noted : ℕ → BothWays) (threads size : ℕ)
    (idle : (v : ℕ) → v < size → (e : Step) → threads ≤ e.0 → Can m (state_of v) e → ⊥) (origins : List Origin) where
  goes_there : (leading : Leading) (Those : ℕ → Type 0) (v x : ℕ) → leading v ≡ Some (Some x) → GoesTo leading Those v → Those x
  goes_there leading Those v x to g = elim g [
    | inl none ↦ absurd (cc (sym none ∙ to))
    | inr (w, is, there) ↦ subst Those (same_Some w x (same_Some (Some w) (Some x) (sym is ∙ to))) there
  ]

  path_level : (c : ℕ) → (h : Covered noted threads origins c) → (ts : List ℕ) (k v t w : ℕ) → t < threads → h.levels k v t ≡ true
      → changes t ts + k ≤ c → Path (Steps m state_of noted size) v ts w
      → (u : ℕ) × (u < threads) × (h.levels (changes t ts + k) w u ≡ true)
  path_level c h [] k v t w few is most path =
      (t, few, subst (λ z. h.levels (0 + k) z t ≡ true) path (let e : k ≡ 0 + k = omega arith in subst (λ z. h.levels z v t ≡ true) e is))
  path_level c h (u ∷ ts) k v t w few is most (r, x, (to, l, less, can), path) = elim (cases_lt u threads) [
    | inr many ↦ absurd (idle v l (u, r) many can)
    | inl within ↦ elim (cases_eq u t) [
      | inl same ↦
          let e : changes t (u ∷ ts) ≡ changes t ts = ap (λ b. cond b (changes t ts) (suc (changes u ts))) (eq-eqb u t same) in
          let way : Bool = is_refusal (act m (state_of v) (u, r)) in
          let there = goes_there (noted t way) (λ z. h.levels k z t ≡ true) v x (subst (λ z. noted z way v ≡ Some (Some x)) same to)
          (h.followed k v t (omega (arith, most)) few is way) in
          let p = path_level c h ts k x t w few there (omega (arith, most, e)) path in
          (p.0, p.1, subst (λ z. h.levels (z + k) w p.0 ≡ true) (sym e) p.2)
      | inr other ↦
          let e : changes t (u ∷ ts) ≡ suc (changes u ts) = ap (λ b. cond b (changes t ts) (suc (changes u ts))) (ne_eqb u t other) in
          let turned = h.turned k v t u few within is (omega (arith, most, e)) in
          let way : Bool = is_refusal (act m (state_of v) (u, r)) in
          let there = goes_there (noted u way) (λ z. h.levels (suc k) z u ≡ true) v x to
          (h.followed (suc k) v u (omega (arith, most, e)) within turned way) in
          let p = path_level c h ts (suc k) x u w within there (omega (arith, most, e)) path in
          let f : changes u ts + suc k ≡ changes t (u ∷ ts) + k = omega (arith, e) in
          (p.0, p.1, subst (λ z. h.levels z w p.0 ≡ true) f p.2)
    ]
  ]

  -- no way over the levels that are gone over has fewer switches than its last node's level
  pub node_level : (levels : ℕ) → AreGoneOver noted threads origins levels
      → ((v : ℕ) (n : Origin) → slice_get origins v ≡ Some n → n.level ≤ levels)
      → ((n : Origin) → slice_get origins 0 ≡ Some n → n.level ≡ 0) → (ts : List ℕ) (w : ℕ) (n : Origin)
      → Path (Steps m state_of noted size) 0 ts w → slice_get origins w ≡ Some n → n.level ≤ switches ts
  node_level zero gone most first ts w n path at = let l = most w n at in omega (arith, l)
  node_level (suc c) h most first [] w n path at =
      let l = first n (subst (λ z. slice_get origins z ≡ Some n) (sym path) at) in omega (arith, l)
  node_level (suc c) h most first (t ∷ ts) w n (r, x, (to, l, less, can), path) at = elim (cases_lt c (changes t ts)) [
    | inl high ↦ let a = most w n at in omega (arith, a, high)
    | inr low ↦ elim (cases_lt t threads) [
      | inr many ↦ absurd (idle 0 l (t, r) many can)
      | inl few ↦
          let way : Bool = is_refusal (act m (state_of 0) (t, r)) in
          let there = goes_there (noted t way) (λ z. h.levels 0 z t ≡ true) 0 x to (h.followed 0 0 t (omega arith) few (h.opens t few) way) in
          let p = path_level c h ts 0 x t w few there (omega (arith, low)) path in
          let m = h.within (changes t ts + 0) w p.0 (omega (arith, low)) p.1 p.2 in
          let one : m.0 ≡ n = same_Some m.0 n (sym m.1 ∙ at) in
          let a = m.2 in
          let b = ap (λ z. z.level) one in
          omega (arith, a, b)
    ]
  ]
