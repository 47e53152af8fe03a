-- Nodes opened one after the other: a thread goes on alone from node to node.
use Rattle.std.proofs.Common.{◌≡◌, ℕ, Bool, true, sym, subst, inl, inr, ◌⊎◌}
use Rattle.std.proofs.lemmas.Bool.{cases_eq}
use Rattle.ir_runs.specs.Machine.{Machine}
use Rattle.ir_runs.specs.Run.{State, Step, Can}
use Rattle.ir_search_laws.specs.Counting.{AnswersCall, IsAtRest}
use Rattle.ir_search_laws.specs.Nodes.{LeadsToNode}
use Rattle.ir_search_laws.specs.Outcomes.{Begins, Covers}
use Rattle.ir_search_laws.proofs.Within.{IsFollowed}

-- which nodes, by their numbers, are opened for which threads
abbrev pub OpenedPairs : Type 0
OpenedPairs = ℕ → ℕ → Bool

-- node w is opened for thread t too
pub record IsOpened (now more : OpenedPairs) (w t : ℕ) : Type 0 where
  pub opened : more w t ≡ true
  pub kept : (v u : ℕ) → now v u ≡ true → more v u ≡ true
  pub only : (v u : ℕ) → more v u ≡ true → (now v u ≡ true) ⊎ ((v ≡ w) × (u ≡ t))

-- all that is opened stands at rest, and is followed but for node x and thread h, which are in hand
pub record IsFollowedBut {T : Type 0} (m : Machine T) (answers : AnswersCall T) (Alike : State T → State T → Type 0) (state_of : ℕ → State T)
    (now : OpenedPairs) (x h : ℕ) : Type 0 where
  pub at_rest : (v t : ℕ) → now v t ≡ true → IsAtRest m (state_of v)
  pub followed : (v : ℕ) (e : Step) → now v e.0 ≡ true → ((v ≡ x) × (e.0 ≡ h) → ⊥) → Can m (state_of v) e
      → (w : ℕ) × (now w e.0 ≡ true) × LeadsToNode m answers Alike (state_of v) e (state_of w)

pair_equal_or_not : (v t x h : ℕ) → ((v ≡ x) × (t ≡ h)) ⊎ ((v ≡ x) × (t ≡ h) → ⊥)
pair_equal_or_not v t x h = elim (cases_eq v x) [
  | inl a ↦ elim (cases_eq t h) [ inl b ↦ inl (a, b) | inr n ↦ inr (λ p. n p.1) ]
  | inr n ↦ inr (λ p. n p.0)
]

module _ {T : Type 0} (m : Machine T) (answers : AnswersCall T) (Alike : State T → State T → Type 0) (state_of : ℕ → State T) where
  -- a node is opened for a thread, and is in hand
  pub taken_up : (now more : OpenedPairs) (w t : ℕ) → IsFollowed m answers Alike state_of now → IsOpened now more w t
      → IsAtRest m (state_of w) → IsFollowedBut m answers Alike state_of more w t
  taken_up now more w t f o rest = record {
    at_rest = λ v u is. elim (o.only v u is) [ inl old ↦ f.at_rest v u old | inr p ↦ subst (λ z. IsAtRest m (state_of z)) (sym p.0) rest ];
    followed = λ v e is free can. elim (o.only v e.0 is) [
      | inl old ↦ let n = f.followed v e old can in (n.0, o.kept n.0 e.0 n.1, n.2)
      | inr p ↦ absurd (free p)
    ];
  }

  -- The thread goes on to a node that isn't opened for it yet: that one is opened, and is in hand.
  pub passed_on : (now more : OpenedPairs) (x w t : ℕ) → IsFollowedBut m answers Alike state_of now x t → IsOpened now more w t
      → IsAtRest m (state_of w)
      → ((e : Step) → e.0 ≡ t → Can m (state_of x) e → LeadsToNode m answers Alike (state_of x) e (state_of w))
      → IsFollowedBut m answers Alike state_of more w t
  passed_on now more x w t f o rest leads = record {
    at_rest = λ v u is. elim (o.only v u is) [ inl old ↦ f.at_rest v u old | inr p ↦ subst (λ z. IsAtRest m (state_of z)) (sym p.0) rest ];
    followed = λ v e is free can. elim (o.only v e.0 is) [
      | inl old ↦ elim (pair_equal_or_not v e.0 x t) [
        | inl p ↦ (
          w,
          subst (λ z. more w z ≡ true) (sym p.1) o.opened,
          subst (λ z. LeadsToNode m answers Alike (state_of z) e (state_of w)) (sym p.0)
              (leads e p.1 (subst (λ z. Can m (state_of z) e) p.0 can)),
        )
        | inr n ↦ let k = f.followed v e old n can in (k.0, o.kept k.0 e.0 k.1, k.2)
      ]
      | inr p ↦ absurd (free p)
    ];
  }

  -- it can't go on, or goes on to a node that is opened for it: nothing is in hand
  pub laid_down : (now : OpenedPairs) (x t : ℕ) → IsFollowedBut m answers Alike state_of now x t
      → ((e : Step) → e.0 ≡ t → Can m (state_of x) e
      → (w : ℕ) × (now w t ≡ true) × LeadsToNode m answers Alike (state_of x) e (state_of w))
      → IsFollowed m answers Alike state_of now
  laid_down now x t f leads = record {
    at_rest = f.at_rest;
    followed = λ v e is can. elim (pair_equal_or_not v e.0 x t) [
      | inl p ↦ let k = leads e p.1 (subst (λ z. Can m (state_of z) e) p.0 can) in (
        k.0,
        subst (λ z. now k.0 z ≡ true) (sym p.1) k.1,
        subst (λ z. LeadsToNode m answers Alike (state_of z) e (state_of k.0)) (sym p.0) k.2,
      )
      | inr n ↦ f.followed v e is n can
    ];
  }

-- the list of nodes grows: what was opened stays as it was
pub covers_if_unchanged : {T : Type 0} (m : Machine T) (answers : AnswersCall T) (Alike : State T → State T → Type 0) (s : State T)
    (state_of grown : ℕ → State T) (Open : ℕ → ℕ → ℕ → Type 0) (first c : ℕ)
    → ((k v t : ℕ) → Open k v t → state_of v ≡ grown v) → Covers m answers Alike s state_of Open first c
    → Covers m answers Alike s grown Open first c
covers_if_unchanged m answers Alike s state_of grown Open first c same h = record {
  begins = subst (Begins m answers Alike s) (same 0 first 0 (h.opens 0)) h.begins;
  opens = h.opens;
  at_rest = λ k t v o. subst (IsAtRest m) (same k v t o) (h.at_rest k t v o);
  followed = λ k v e o can.
      let f = h.followed k v e o (subst (λ z. Can m z e) (sym (same k v e.0 o)) can) in (
        f.0,
        f.1,
        subst (λ z. LeadsToNode m answers Alike z e (grown f.0)) (same k v e.0 o)
            (subst (LeadsToNode m answers Alike (state_of v) e) (same k f.0 e.0 f.1) f.2),
      );
  turned = h.turned;
}

pub followed_if_unchanged : {T : Type 0} (m : Machine T) (answers : AnswersCall T) (Alike : State T → State T → Type 0) (state_of grown : ℕ → State T)
    (now : OpenedPairs) (x h : ℕ) → ((v t : ℕ) → now v t ≡ true → state_of v ≡ grown v)
    → IsFollowedBut m answers Alike state_of now x h → IsFollowedBut m answers Alike grown now x h
followed_if_unchanged m answers Alike state_of grown now x h same f = record {
  at_rest = λ v t o. subst (IsAtRest m) (same v t o) (f.at_rest v t o);
  followed = λ v e o free can.
      let n = f.followed v e o free (subst (λ z. Can m z e) (sym (same v e.0 o)) can) in (
        n.0,
        n.1,
        subst (λ z. LeadsToNode m answers Alike z e (grown n.0)) (same v e.0 o)
            (subst (LeadsToNode m answers Alike (state_of v) e) (same n.0 e.0 n.1) n.2),
      );
}
