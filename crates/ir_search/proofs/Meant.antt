-- What a search over numbers has gone over is gone over of the machine.
use Rattle.std.proofs.Common.{◌≡◌, ℕ, suc, zero, ◌<◌, ◌≤◌, Bool, true, cond, eq-eqb, ne_eqb, Some, List, [], ◌∷◌, ◌++◌, ◌⊎◌, inl, inr, length, refl, sym, ap, ◌∙◌, subst, arith}
use Rattle.std.specs.Prelude.{map, slice_get, replicate}
use Rattle.std.proofs.lemmas.Bool.{cases_eq, cases_lt}
use Rattle.ir_runs.specs.Machine.{Machine}
use Rattle.ir_runs.specs.Run.{State, act, IsDone}
use Rattle.ir_search_laws.specs.Counting.{AnswersCall}
use Rattle.ir_search_laws.specs.Nodes.{Path}
use Rattle.ir_search_laws.specs.Orders.{is_refusal}
use Rattle.ir_search_laws.specs.Outcomes.{changes, switches, IsFinished, Covers, HasWay}
use Rattle.ir_search_laws.proofs.CallerLemmas.{path_append}
use Rattle.ir_search.specs.declared.origin.Origin.{Origin}
use Rattle.ir_search.specs.declared.origin.Refusal.{Refusal}
use Rattle.ir_search.specs.Following.{BothWays, IsNodeOpen}
use Rattle.ir_search.specs.Levels.{AreAsked, Covered}
use Rattle.ir_search.specs.Meaning.{Means, Steps}
use Rattle.ir_search.specs.Origins.{Goes, BeginsAt, first_origin, AreReached, LeadsByWay}
use Rattle.ir_search.specs.Ways.{LeadsOver, HasMarked}
use Rattle.ir_search.proofs.Reached.{slice_get_some_below}
use Rattle.ir_search.proofs.Gone.{origin_below_length}

-- one thread's turn at an order's end is a switch at most
changes_of_repeated : (t n : ℕ) → changes t (replicate n t) ≡ 0
changes_of_repeated t zero = refl
changes_of_repeated t (suc n) = ap (λ b. cond b (changes t (replicate n t)) (suc (changes t (replicate n t)))) (eq-eqb t t refl) ∙ changes_of_repeated t n

repeat_changes_le_suc : (t : ℕ) (ts : List ℕ) (u n : ℕ) → changes t (ts ++ replicate n u) ≤ suc (changes t ts)
repeat_changes_le_suc t [] u zero = omega arith
repeat_changes_le_suc t [] u (suc n) = elim (cases_eq u t) [
  | inl same ↦
      let e = ap (λ b. cond b (changes t (replicate n u)) (suc (changes u (replicate n u)))) (eq-eqb u t same) in
      let none : changes t (replicate n u) ≡ 0 = subst (λ z. changes t (replicate n z) ≡ 0) (sym same) (changes_of_repeated t n) in
      omega (arith, e, none)
  | inr other ↦
      let e = ap (λ b. cond b (changes t (replicate n u)) (suc (changes u (replicate n u)))) (ne_eqb u t other) in
      let none = changes_of_repeated u n in
      omega (arith, e, none)
]
repeat_changes_le_suc t (v ∷ ts) u n = elim (cases_eq v t) [
  | inl same ↦
      let p = eq-eqb v t same in
      let e = ap (λ b. cond b (changes t (ts ++ replicate n u)) (suc (changes v (ts ++ replicate n u)))) p in
      let f = ap (λ b. cond b (changes t ts) (suc (changes v ts))) p in
      let h = repeat_changes_le_suc t ts u n in
      omega (arith, e, f, h)
  | inr other ↦
      let p = ne_eqb v t other in
      let e = ap (λ b. cond b (changes t (ts ++ replicate n u)) (suc (changes v (ts ++ replicate n u)))) p in
      let f = ap (λ b. cond b (changes t ts) (suc (changes v ts))) p in
      let h = repeat_changes_le_suc v ts u n in
      omega (arith, e, f, h)
]

pub repeat_switches_le_suc : (ts : List ℕ) (u n : ℕ) → switches (ts ++ replicate n u) ≤ suc (switches ts)
repeat_switches_le_suc [] u zero = omega arith
repeat_switches_le_suc [] u (suc n) = let h = changes_of_repeated u n in omega (arith, h)
repeat_switches_le_suc (t ∷ ts) u n = repeat_changes_le_suc t ts u n

pub switches_of_repeated : (u n : ℕ) → switches (replicate n u) ≤ 0
switches_of_repeated u zero = omega arith
switches_of_repeated u (suc n) = let h = changes_of_repeated u n in omega (arith, h)

module _ {T : Type 0} (m : Machine T) (answers : AnswersCall T) (Alike : State T → State T → Type 0) (s : State T) (state_of : ℕ → State T)
    (noted : ℕ → BothWays) (threads size : ℕ) (means : Means m answers Alike s state_of noted threads size) where
  -- a thread's turn is a path
  goes_path : (t : ℕ) (ways : List Bool) (v w : ℕ) → v < size → Goes (noted t) size v ways w
      → Path (Steps m state_of noted size) v (replicate (length ways) t) w
  goes_path t [] v w l g = g
  goes_path t (refused ∷ ways) v w l g =
      let c = means.can t refused v g.0 l g.1 in
      let is : noted t (is_refusal (act m (state_of v) (t, c.0))) v ≡ Some (Some g.0) = subst (λ z. noted t z v ≡ Some (Some g.0)) (sym c.2) g.1 in
      (c.0, g.0, (is, l, g.2, c.1), goes_path t ways g.0 w g.2 g.3)

  -- An order of threads leads to each node, with as many switches at most as its level.
  pub node_order : (nodes : List Origin) (refusals : List Refusal) → AreReached noted refusals nodes → length nodes ≡ size → 0 < size
      → (k v : ℕ) (n : Origin) → slice_get nodes v ≡ Some n → n.level ≡ k
      → (ts : List ℕ) × LeadsByWay refusals nodes k v ts × Path (Steps m state_of noted size) 0 ts v × (switches ts ≤ k)
  node_order nodes refusals reached all some zero v n is same =
      let r = reached v n is in
      let first : n.from ≡ 0 = subst (λ z. BeginsAt nodes z n.from) same r.0 in
      let goes : Goes (noted n.thread) size 0 r.1 v =
      subst (λ z. Goes (noted n.thread) size z r.1 v) first
      (subst (λ z. Goes (noted n.thread) z n.from r.1 v) all r.3) in (
        replicate (length r.1) n.thread,
        (n, is, r.1, r.2, refl),
        goes_path n.thread r.1 0 v some goes,
        switches_of_repeated n.thread (length r.1),
      )
  node_order nodes refusals reached all some (suc k) v n is same =
      let r = reached v n is in
      let before : BeginsAt nodes (suc k) n.from = subst (λ z. BeginsAt nodes z n.from) same r.0 in
      let from = node_order nodes refusals reached all some k n.from before.0 before.1 before.2 in
      let l : n.from < size = (let h = slice_get_some_below nodes n.from before.0 before.1 in omega (arith, h, all)) in
      let goes = subst (λ z. Goes (noted n.thread) z n.from r.1 v) all r.3 in (
        from.0 ++ replicate (length r.1) n.thread,
        (n, is, from.0, from.1, r.1, r.2, refl),
        path_append (Steps m state_of noted size) 0 n.from v from.0 (replicate (length r.1) n.thread) from.2
            (goes_path n.thread r.1 n.from v l goes),
        let a = repeat_switches_le_suc from.0 n.thread (length r.1) in let b = from.3 in omega (arith, a, b),
      )

  -- where each thread was asked at each node, the search is finished
  pub asked_finished : (nodes : List Origin) (refusals : List Refusal) → AreReached noted refusals nodes → length nodes ≡ size → 0 < size → AreAsked noted threads size
      → IsFinished m answers Alike s state_of (λ v. v < size) (Steps m state_of noted size) 0
  asked_finished nodes refusals reached all some asked = record {
    begins = means.begins;
    is = some;
    at_rest = means.at_rest;
    leads = λ v l e w n. (n.2, means.leads e.0 (is_refusal (act m (state_of v) e)) v w l n.0 e refl refl n.3);
    followed = λ v l e can. elim (cases_lt e.0 threads) [
      | inl few ↦ elim (asked v e.0 l few (is_refusal (act m (state_of v) e))) [
        | inl none ↦ absurd (means.stays e.0 (is_refusal (act m (state_of v) e)) v l none e refl refl can)
        | inr to ↦ (to.0, (to.1, l, to.2, can))
      ]
      | inr many ↦ absurd (means.idle v l e many can)
    ];
    reached = λ v l.
        let n = origin_below_length nodes v (omega (arith, l, all)) in
        let o = node_order nodes refusals reached all some n.0.level v n.0 n.1 refl in
        (o.0, o.2);
  }

  -- an order that leads to a marked node is a way, where the marked ones are done
  pub marked_way : (marks : List Bool) → length marks ≡ size → ((w : ℕ) → IsNodeOpen marks w → IsDone m (state_of w)) → (v : ℕ)
      → HasMarked noted threads marks v → HasWay m state_of (Steps m state_of noted size) v
  marked_way marks all done v (less, ts, w, path, is) = (map (λ e. e.0) ts, w, by ts v (omega (arith, less, all)) path, done w is)
    where
      by : (ts : List (ℕ × Bool)) (v : ℕ) → v < size → LeadsOver noted threads (length marks) v ts w → Path (Steps m state_of noted size) v (map (λ e. e.0) ts) w
      by [] v l path = path
      by ((t, refused) ∷ ts) v l (x, few, to, within, path) =
          let next : x < size = omega (arith, within, all) in
          let c = means.can t refused v x l to in
          (c.0, x, (subst (λ z. noted t z v ≡ Some (Some x)) (sym c.2) to, l, next, c.1), by ts x next path)

  -- a way is an order that leads to a marked node, where the done ones are marked
  pub way_to_marked : (marks : List Bool) → length marks ≡ size → ((w : ℕ) → w < size → IsDone m (state_of w) → IsNodeOpen marks w) → (v : ℕ)
      → v < size → HasWay m state_of (Steps m state_of noted size) v → HasMarked noted threads marks v
  way_to_marked marks all marked v l (ts, w, path, done) =
      let p = by ts v l path in (omega (arith, l, all), p.0, w, p.1, marked w p.2 done)
    where
      by : (ts : List ℕ) (v : ℕ) → v < size → Path (Steps m state_of noted size) v ts w
          → (us : List (ℕ × Bool)) × LeadsOver noted threads (length marks) v us w × (w < size)
      by [] v l path = ([], path, subst (λ z. z < size) path l)
      by (t ∷ ts) v l (r, x, (to, here, next, can), path) = elim (cases_lt t threads) [
        | inl few ↦
            let p = by ts x next path in
            ((t, is_refusal (act m (state_of v) (t, r))) ∷ p.0, (x, few, to, omega (arith, next, all), p.1), p.2)
        | inr many ↦ absurd (means.idle v l (t, r) many can)
      ]

  -- which nodes are opened for which threads by the end of a level: for one that never has a step, what is opened for each that may
  abbrev pub Opened : (nodes : List Origin) (c : ℕ) → Covered noted threads nodes c → ℕ → ℕ → ℕ → Type 0
  Opened nodes c h k v t = (k ≤ c) × ((n : Origin) × (slice_get nodes v ≡ Some n) × (n.level ≤ k))
      × ((u : ℕ) → u < threads → (t ≡ u) ⊎ (threads ≤ t) → h.levels k v u ≡ true)

  -- the levels that are gone over over numbers are gone over of the machine
  pub covered_covers : (nodes : List Origin) (c : ℕ) → (h : Covered noted threads nodes c) → slice_get nodes 0 ≡ Some first_origin
      → length nodes ≤ size → Covers m answers Alike s state_of (Opened nodes c h) 0 c
  covered_covers nodes c h first wide =
      let inside : (v : ℕ) (n : Origin) → slice_get nodes v ≡ Some n → v < size =
      λ v n is. (let a = slice_get_some_below nodes v n is in omega (arith, a, wide)) in record {
        begins = means.begins;
        opens = λ t. (omega arith, (first_origin, first, omega arith), λ u few same. h.opens u few);
        at_rest = λ k t v o. means.at_rest v (inside v o.1.0 o.1.1);
        followed = λ k v e o can.
            let l : v < size = inside v o.1.0 o.1.1 in
            elim (cases_lt e.0 threads) [
              | inl few ↦ elim (h.followed k v e.0 o.0 few (o.2 e.0 few (inl refl)) (is_refusal (act m (state_of v) e))) [
                | inl none ↦ absurd (means.stays e.0 (is_refusal (act m (state_of v) e)) v l none e refl refl can)
                | inr to ↦ (
                  to.0,
                  (
                    o.0,
                    h.within k to.0 e.0 o.0 few to.2,
                    λ u less same. elim same [
                      | inl is ↦ subst (λ z. h.levels k to.0 z ≡ true) is to.2
                      | inr many ↦ absurd (omega (arith, few, many))
                    ],
                  ),
                  means.leads e.0 (is_refusal (act m (state_of v) e)) v to.0 l to.1 e refl refl can,
                )
              ]
              | inr many ↦ absurd (means.idle v l e many can)
            ];
        turned = λ k t u v o less. (
          less,
          (o.1.0, o.1.1, let a = o.1.2 in omega (arith, a)),
          λ w few same. elim (cases_lt t threads) [
            | inl is ↦ h.turned k v t w is few (o.2 t is (inl refl)) less
            | inr many ↦ h.turned k v w w few few (o.2 w few (inr many)) less
          ],
        );
      }
