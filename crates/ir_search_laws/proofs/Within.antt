-- What a search by levels has met: the outcomes of runs of at most so many switches.
use Rattle.std.proofs.Common.{◌≡◌, ℕ, suc, ◌+◌, ◌≤◌, ◌<◌, Bool, true, false, cond, eqb, List, [], ◌∷◌, ◌++◌, refl, sym, ap, ◌∙◌, subst, arith, inl, inr, ◌⊎◌, eq-eqb, ne_eqb}
use Rattle.std.proofs.lemmas.Bool.{cases_eq, cases_lt, le-leb}
use Rattle.std.proofs.lemmas.Bool.Decides.{leb_tells}
use Rattle.std.proofs.Math.Dec.{leb}
use Rattle.ir_runs.specs.Machine.{Machine}
use Rattle.ir_runs.specs.Lawful.{IsLawful}
use Rattle.ir_runs.specs.Run.{State, Step, Can, end, IsDone}
use Rattle.ir_runs.proofs.CallerLemmas.{StateInvariant}
use Rattle.ir_search_laws.specs.Counting.{AnswersCall, RunCounts, IsAtRest, entering}
use Rattle.ir_search_laws.specs.Nodes.{TellsNothing, LeadsToNode, Noted, Path, IsClosed, Chain, Arrives}
use Rattle.ir_search_laws.specs.Outcomes.{IsOutcomeWithin, changes, switches, Begins, Covers}
use Rattle.ir_search_laws.proofs.Finished.{arrives_along_entries, done_alike_to_node, done_from_alike}

-- a place is the number of switches so far, and the thread whose turn it is: it goes on, or another's turn comes
abbrev pub TurnMoves : ℕ → ℕ × ℕ → ℕ → ℕ × ℕ → Type 0
TurnMoves c p u q = (q.1 ≡ u) × (((u ≡ p.1) × (q.0 ≡ p.0)) ⊎ ((q.0 ≡ suc p.0) × (p.0 < c)))

-- the nodes that are opened by then for that thread
abbrev pub OpenedForTurn : {K : Type 0} → ℕ → (ℕ → K → ℕ → Type 0) → ℕ × ℕ → K → Type 0
OpenedForTurn c Open p v = Open p.0 v p.1 × (p.0 ≤ c)

-- what leads from one node to another
abbrev pub Leading : {T K : Type 0} → Machine T → AnswersCall T → (State T → State T → Type 0) → (K → State T) → Noted K
Leading m answers Alike state_of v e w = LeadsToNode m answers Alike (state_of v) e (state_of w)

covered_are_closed : {T K : Type 0} (m : Machine T) (answers : AnswersCall T) (Alike : State T → State T → Type 0) (s : State T)
    (state_of : K → State T) (Open : ℕ → K → ℕ → Type 0) (first : K) (c : ℕ) → Covers m answers Alike s state_of Open first c
    → IsClosed m answers Alike (TurnMoves c) state_of (OpenedForTurn c Open) (Leading m answers Alike state_of)
covered_are_closed {T} {K} m answers Alike s state_of Open first c h = record {
  at_rest = λ p v o. h.at_rest p.0 p.1 v o.0;
  followed = λ p q v o e moves can. elim moves.1 [
    | inl same ↦
        let f = h.followed p.0 v e (subst (Open p.0 v) (sym same.0) o.0) can in (
          f.0,
          (
            subst (λ z. Open z f.0 q.1) (sym same.1) (subst (Open p.0 f.0) (sym moves.0) f.1),
            let l = o.1 in let e = same.1 in omega (arith, l, e),
          ),
          f.2,
          f.2,
        )
    | inr turn ↦
        let f = h.followed (suc p.0) v e (h.turned p.0 p.1 e.0 v o.0 turn.1) can in (
          f.0,
          (
            subst (λ z. Open z f.0 q.1) (sym turn.0) (subst (Open (suc p.0) f.0) (sym moves.0) f.1),
            let l = turn.1 in let e = turn.0 in omega (arith, l, e),
          ),
          f.2,
          f.2,
        )
  ];
}

-- an order with few switches moves somewhere
turn_moves_chain : (c k t : ℕ) (ts : List ℕ) → changes t ts + k ≤ c → (q : ℕ × ℕ) × Chain (TurnMoves c) (k, t) ts q
turn_moves_chain c k t [] h = ((k, t), refl)
turn_moves_chain c k t (u ∷ ts) h = elim (cases_eq u t) [
  | inl same ↦
      let less : changes t ts + k ≤ c = subst (λ b. cond b (changes t ts) (suc (changes u ts)) + k ≤ c) (eq-eqb u t same) h in
      let r = turn_moves_chain c k u ts (subst (λ z. changes z ts + k ≤ c) (sym same) less) in
      (r.0, ((k, u), (refl, inl (same, refl)), r.1))
  | inr other ↦
      let less : suc (changes u ts) + k ≤ c = subst (λ b. cond b (changes t ts) (suc (changes u ts)) + k ≤ c) (ne_eqb u t other) h in
      let r = turn_moves_chain c (suc k) u ts (omega (arith, less)) in
      (r.0, ((suc k, u), (refl, inr (refl, omega (arith, less))), r.1))
]

first_thread : List ℕ → ℕ
first_thread [] = 0
first_thread (t ∷ ts) = t

turn_moves_from_start : (c : ℕ) (ts : List ℕ) → switches ts ≤ c → (q : ℕ × ℕ) × Chain (TurnMoves c) (0, first_thread ts) ts q
unfolding first_thread
turn_moves_from_start c [] h = ((0, 0), refl)
turn_moves_from_start c (t ∷ ts) h = elim (cases_eq t t) [
  | inl same ↦
      let r = turn_moves_chain c 0 t ts (omega (arith, h)) in
      (r.0, ((0, t), (refl, inl (refl, refl)), r.1))
  | inr other ↦ absurd (other refl)
]

-- a run that counts, with at most c switches, leads to a node that is opened by level c, if c levels are gone over
pub switches_arrive_open : {T K : Type 0} (m : Machine T) → IsLawful m → (answers : AnswersCall T) (Alike : State T → State T → Type 0)
    → TellsNothing m answers Alike
    → (s : State T) → StateInvariant m s → (state_of : K → State T) (Open : ℕ → K → ℕ → Type 0) (first : K) (c : ℕ)
    → Covers m answers Alike s state_of Open first c → (run : List Step) → RunCounts m answers s run → switches (entering m s run) ≤ c
    → (q : ℕ × ℕ) × Arrives m answers Alike state_of (OpenedForTurn c Open) (Leading m answers Alike state_of) s first run q
switches_arrive_open m law answers Alike tells s good state_of Open first c h run ok few =
    let r = turn_moves_from_start c (entering m s run) few in (
      r.0,
      arrives_along_entries m law answers Alike tells (TurnMoves c) state_of (OpenedForTurn c Open) (Leading m answers Alike state_of)
          (covered_are_closed m answers Alike s state_of Open first c h) s first good h.begins
          (0, first_thread (entering m s run)) r.0 (h.opens (first_thread (entering m s run)), omega arith) run ok r.1,
    )

-- the outcome of a complete run that counts, with at most c switches, is that of a done node, if c levels are gone over
pub switches_outcome_done : {T K X : Type 0} (m : Machine T) → IsLawful m → (answers : AnswersCall T) (Alike : State T → State T → Type 0)
    → TellsNothing m answers Alike
    → (s : State T) → StateInvariant m s → (state_of : K → State T) (Open : ℕ → K → ℕ → Type 0) (first : K) (c : ℕ)
    → Covers m answers Alike s state_of Open first c
    → (outcome : State T → X) → ((u v : State T) → Alike u v → outcome u ≡ outcome v) → (x : X)
    → IsOutcomeWithin c m answers s outcome x
    → (k t : ℕ) × (v : K) × (k ≤ c) × Open k v t × IsDone m (state_of v) × (outcome (state_of v) ≡ x)
switches_outcome_done {T} {K} {X} m law answers Alike tells s good state_of Open first c h outcome same x (run, ok, done, is, few) =
    let r = switches_arrive_open m law answers Alike tells s good state_of Open first c h run ok few in
    let a : Arrives m answers Alike state_of (OpenedForTurn c Open) (Leading m answers Alike state_of) s first run r.0 = r.1 in
    let alike : Alike (end m s run) (state_of a.node) =
    done_alike_to_node m answers Alike state_of (OpenedForTurn c Open) (Leading m answers Alike state_of) s first run r.0 done a in (
      r.0.0,
      r.0.1,
      a.node,
      a.is.1,
      a.is.0,
      done_from_alike m answers Alike tells (end m s run) (state_of a.node) alike done,
      sym (same (end m s run) (state_of a.node) alike) ∙ is,
    )

-- what is opened by which level, as tests
abbrev pub Levels : Type 0 → Type 0
Levels K = ℕ → K → ℕ → Bool

-- which pairs are opened by the end of a level
abbrev pub OpenBy : {K : Type 0} → Levels K → ℕ → K → ℕ → Type 0
OpenBy levels k v t = levels k v t ≡ true

-- a level more than c, at whose end these are opened
abbrev pub levels_with_one_added : {K : Type 0} → Levels K → ℕ → (K → ℕ → Bool) → Levels K
levels_with_one_added levels c now k v t = cond (leb k c) (levels k v t) (now v t)

-- All that is opened stands at rest, and is followed: what a thread that goes on alone comes to is opened for that thread.
pub record IsFollowed {T K : Type 0} (m : Machine T) (answers : AnswersCall T) (Alike : State T → State T → Type 0) (state_of : K → State T)
    (now : K → ℕ → Bool) : Type 0 where
  pub at_rest : (v : K) (t : ℕ) → now v t ≡ true → IsAtRest m (state_of v)
  pub followed : (v : K) (e : Step) → now v e.0 ≡ true → Can m (state_of v) e
      → (w : K) × (now w e.0 ≡ true) × LeadsToNode m answers Alike (state_of v) e (state_of w)

-- after the first level, in which the first node is opened for each thread
pub covers_first_level : {T K : Type 0} (m : Machine T) (answers : AnswersCall T) (Alike : State T → State T → Type 0) (s : State T)
    (state_of : K → State T) (now : K → ℕ → Bool) (first : K) → Begins m answers Alike s (state_of first)
    → ((t : ℕ) → now first t ≡ true) → IsFollowed m answers Alike state_of now
    → Covers m answers Alike s state_of (OpenBy (λ _. now)) first 0
covers_first_level m answers Alike s state_of now first begins opens f = record {
  begins = begins;
  opens = opens;
  at_rest = λ k t v o. f.at_rest v t o;
  followed = λ k v e o can. f.followed v e o can;
  turned = λ k t u v o l. absurd (omega (arith, l));
}

old_levels_kept : {K : Type 0} (levels : Levels K) (c : ℕ) (now : K → ℕ → Bool) (k : ℕ) (v : K) (t : ℕ) → k ≤ c
    → levels_with_one_added levels c now k v t ≡ levels k v t
old_levels_kept levels c now k v t l = ap (λ b. cond b (levels k v t) (now v t)) (le-leb k c l)

leb_false_if_above : (a b : ℕ) → b < a → leb a b ≡ false
leb_false_if_above a b l = elim (leb_tells a b) [ inl p ↦ absurd (let h = p.1 in omega (arith, h, l)) | inr p ↦ p.0 ]

new_level_is_above : {K : Type 0} (levels : Levels K) (c : ℕ) (now : K → ℕ → Bool) (k : ℕ) (v : K) (t : ℕ) → c < k
    → levels_with_one_added levels c now k v t ≡ now v t
new_level_is_above levels c now k v t l = ap (λ b. cond b (levels k v t) (now v t)) (leb_false_if_above k c l)

-- after one more level, in which all that was opened for some thread is opened for each
pub covers_after_next_level : {T K : Type 0} (m : Machine T) (answers : AnswersCall T) (Alike : State T → State T → Type 0) (s : State T)
    (state_of : K → State T) (levels : Levels K) (first : K) (c : ℕ) → Covers m answers Alike s state_of (OpenBy levels) first c
    → (now : K → ℕ → Bool) → IsFollowed m answers Alike state_of now
    → ((v : K) (t u : ℕ) → levels c v t ≡ true → now v u ≡ true)
    → Covers m answers Alike s state_of (OpenBy (levels_with_one_added levels c now)) first (suc c)
covers_after_next_level {T} {K} m answers Alike s state_of levels first c h now n turned = record {
  begins = h.begins;
  opens = λ t. old_levels_kept levels c now 0 first t (omega arith) ∙ h.opens t;
  at_rest = λ k t v o. elim (cases_lt c k) [
    | inl l ↦ n.at_rest v t (sym (new_level_is_above levels c now k v t l) ∙ o)
    | inr l ↦ h.at_rest k t v (sym (old_levels_kept levels c now k v t l) ∙ o)
  ];
  followed = λ k v e o can. elim (cases_lt c k) [
    | inl l ↦ let f = n.followed v e (sym (new_level_is_above levels c now k v e.0 l) ∙ o) can in
        (f.0, new_level_is_above levels c now k f.0 e.0 l ∙ f.1, f.2)
    | inr l ↦ let f = h.followed k v e (sym (old_levels_kept levels c now k v e.0 l) ∙ o) can in
        (f.0, old_levels_kept levels c now k f.0 e.0 l ∙ f.1, f.2)
  ];
  turned = λ k t u v o l. elim (cases_lt k c) [
    | inl less ↦ old_levels_kept levels c now (suc k) v u (omega (arith, less))
        ∙ h.turned k t u v (sym (old_levels_kept levels c now k v t (omega (arith, less))) ∙ o) less
    | inr most ↦
        let same : k ≡ c = omega (arith, l, most) in
        new_level_is_above levels c now (suc k) v u (omega (arith, most))
        ∙ turned v t u (subst (λ z. levels z v t ≡ true) same (sym (old_levels_kept levels c now k v t (omega (arith, l))) ∙ o))
  ];
}

-- a path goes on
pub path_append : {K : Type 0} (Next : Noted K) (u v w : K) (ts us : List ℕ) → Path Next u ts v → Path Next v us w
    → Path Next u (ts ++ us) w
path_append Next u v w [] us path more = subst (λ z. Path Next z us w) (sym path) more
path_append Next u v w (t ∷ ts) us path more = (path.0, path.1, path.2, path_append Next path.1 v w ts us path.3 more)

-- the last thread of an order that goes on after t
abbrev pub last_thread_of : ℕ → List ℕ → ℕ
last_thread_of t [] = t
last_thread_of t (u ∷ ts) = last_thread_of u ts

-- one more turn is a switch exactly where it is another thread's
pub changes_push : (t : ℕ) (ts : List ℕ) (u : ℕ) → changes t (ts ++ u ∷ []) ≡ changes t ts + cond (eqb u (last_thread_of t ts)) 0 1
changes_push t [] u = by (eqb u t)
  where
    by : (b : Bool) → cond b 0 1 ≡ 0 + cond b 0 1
    by b = omega arith
changes_push t (v ∷ ts) u = elim (cases_eq v t) [
  | inl same ↦
      let p : eqb v t ≡ true = eq-eqb v t same in
      ap (λ b. cond b (changes t (ts ++ u ∷ [])) (suc (changes v (ts ++ u ∷ [])))) p
      ∙ subst (λ z. changes z (ts ++ u ∷ []) ≡ changes z ts + cond (eqb u (last_thread_of v ts)) 0 1) same (changes_push v ts u)
      ∙ ap (λ b. cond b (changes t ts) (suc (changes v ts)) + cond (eqb u (last_thread_of v ts)) 0 1) (sym p)
  | inr other ↦
      let p : eqb v t ≡ false = ne_eqb v t other in
      let h = changes_push v ts u in
      ap (λ b. cond b (changes t (ts ++ u ∷ [])) (suc (changes v (ts ++ u ∷ [])))) p
      ∙ (let e : suc (changes v (ts ++ u ∷ [])) ≡ suc (changes v ts) + cond (eqb u (last_thread_of v ts)) 0 1 = omega (arith, h) in e)
      ∙ ap (λ b. cond b (changes t ts) (suc (changes v ts)) + cond (eqb u (last_thread_of v ts)) 0 1) (sym p)
]
