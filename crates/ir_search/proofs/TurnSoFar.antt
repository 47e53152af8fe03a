-- A thread that goes on alone, as far as it has come.
use Rattle.std.proofs.Common.{◌≡◌, ℕ, suc, zero, ◌<◌, ◌≤◌, Bool, Option, false, true, Some, List, [], ◌∷◌, ◌++◌, ◌⊎◌, inl, inr, length}
use Rattle.std.proofs.Common.{length-set, length-append, get_or, slice_set, refl, sym, ap, ◌∙◌, subst, arith}
use Rattle.std.specs.Prelude.{slice_get, replicate}
use Rattle.std.proofs.lemmas.Option.{same_Some}
use Rattle.ir_lemmas.proofs.CallerLemmas.{slice_get-push_cases, slice_get_append_kept, added_element_is_last}
use Rattle.ir_search.specs.declared.found.Pending.{Pending}
use Rattle.ir_search.specs.declared.origin.Origin.{Origin}
use Rattle.ir_search.specs.declared.origin.Refusal.{Refusal}
use Rattle.ir_search.specs.Following.{BothWays, Stay, IsNodeOpen, GoesTo, IsWayFollowed}
use Rattle.ir_search.specs.TurnSoFar.{HasNode, IsTurnSoFar, IsAfter}
use Rattle.ir_search.specs.Origins.{BeginsAt, AreWaysUnder, Whole, IsReachedBy, AreReached, Adds}
use Rattle.ir_search.proofs.Opens.{goes_to_open_kept, Opening, set_shut_is_opening, adding_is_opening}
use Rattle.ir_search.proofs.Reached.{AllKept, slice_get_some_below, reached_if_grown, reached_by_after_step, reached_if_notes_kept}
use Rattle.ir_search.proofs.Reached.{reached_after_node, table_stays_after_step, step_keeps_origin, adds_reflexive, adds_after_pushed}

-- what is so of either way
pub both_bools_satisfy : (Q : Bool → Type 0) → Q false → Q true → (refused : Bool) → Q refused
both_bools_satisfy Q f t false = f
both_bools_satisfy Q f t true = t

has_node_kept_by_cons : (hand : List Pending) (p : Pending) (v : ℕ) → HasNode hand v → HasNode (p ∷ hand) v
has_node_kept_by_cons hand p v h = (suc h.0, h.1, h.2, h.3)

has_node_kept_by_append : (hand more : List Pending) (v : ℕ) → HasNode hand v → HasNode (hand ++ more) v
has_node_kept_by_append hand more v h = (h.0, h.1, slice_get_append_kept hand more h.0 h.1 h.2, h.3)

hand_has_pushed_node : (hand : List Pending) (p : Pending) → HasNode (hand ++ p ∷ []) p.node
hand_has_pushed_node [] p = (0, p, refl, refl)
hand_has_pushed_node (x ∷ hand) p = has_node_kept_by_cons (hand ++ p ∷ []) x p.node (hand_has_pushed_node hand p)

-- what is so of each of the hand, with one more
each_in_hand_push : (Q : Pending → Type 0) (hand : List Pending) (p : Pending) → ((i : ℕ) (x : Pending) → slice_get hand i ≡ Some x → Q x) → Q p
    → (i : ℕ) (x : Pending) → slice_get (hand ++ p ∷ []) i ≡ Some x → Q x
each_in_hand_push Q hand p all here i x is = elim (slice_get-push_cases hand p i x is) [
  | inl old ↦ all i x old
  | inr new ↦ subst Q new.1 here
]

-- a turn that hasn't begun
so_far_if_followed : (noted : ℕ → BothWays) (thread level : ℕ) (opened : List Bool) (nodes : List Origin) (refusals : List Refusal)
    → length opened ≡ length nodes → AreReached noted refusals nodes → IsWayFollowed (noted thread) opened
    → IsTurnSoFar noted thread level opened nodes refusals []
so_far_if_followed noted thread level opened nodes refusals wide reached followed = record {
  wide = wide;
  reached = reached;
  followed = λ v is. inr (followed v is);
  opens = λ i p is. absurd (cc is);
  comes = λ i p is. absurd (cc is);
  threads = λ i p is. absurd (cc is);
  levels = λ i p is. absurd (cc is);
}

-- a turn that is over
pub followed_if_so_far : (noted : ℕ → BothWays) (thread level : ℕ) (opened : List Bool) (nodes : List Origin) (refusals : List Refusal)
    → IsTurnSoFar noted thread level opened nodes refusals [] → IsWayFollowed (noted thread) opened
followed_if_so_far noted thread level opened nodes refusals g v is = elim (g.followed v is) [
  | inl h ↦ absurd (let e = h.2 in cc e)
  | inr f ↦ f
]

-- a thread that went nowhere has come to where its turn began
no_ways_reaches_start : (noted : ℕ → BothWays) (refusals : List Refusal) (nodes : List Origin) (start : Origin) → (start.last_refusal ≡ 0) × (start.entries ≡ 0)
    → BeginsAt nodes start.level start.from → IsReachedBy noted refusals nodes start.from start
no_ways_reaches_start noted refusals nodes start none begins =
    (begins, [], ([], subst (λ z. AreWaysUnder refusals z []) (sym none.0) Whole, subst (λ z. [] ≡ replicate z false) (sym none.1) refl), refl)

-- the last in hand is taken up
pub so_far_last_put_first : (noted : ℕ → BothWays) (thread level : ℕ) (opened : List Bool) (nodes : List Origin) (refusals : List Refusal) (hand : List Pending)
    (p : Pending) → IsTurnSoFar noted thread level opened nodes refusals (hand ++ p ∷ []) → IsTurnSoFar noted thread level opened nodes refusals (p ∷ hand)
so_far_last_put_first noted thread level opened nodes refusals hand p g = record {
  wide = g.wide;
  reached = g.reached;
  followed = λ v is. elim (g.followed v is) [ inl h ↦ inl (moved v h) | inr f ↦ inr f ];
  opens = all (λ x. IsNodeOpen opened x.node) g.opens;
  comes = all (λ x. IsReachedBy noted refusals nodes x.node x.origin) g.comes;
  threads = all (λ x. x.origin.thread ≡ thread) g.threads;
  levels = all (λ x. x.origin.level ≡ level) g.levels;
}
  where
    moved : (v : ℕ) → HasNode (hand ++ p ∷ []) v → HasNode (p ∷ hand) v
    moved v h = elim (slice_get-push_cases hand p h.0 h.1 h.2) [
      | inl old ↦ (suc h.0, h.1, old, h.3)
      | inr new ↦ (0, p, refl, ap (λ x. x.node) new.1 ∙ h.3)
    ]

    all : (Q : Pending → Type 0) → ((i : ℕ) (x : Pending) → slice_get (hand ++ p ∷ []) i ≡ Some x → Q x) → (i : ℕ) (x : Pending)
        → slice_get (p ∷ hand) i ≡ Some x → Q x
    all Q each zero x is = each (length hand) x (added_element_is_last hand p ∙ is)
    all Q each (suc i) x is = each i x (slice_get_append_kept hand (p ∷ []) i x is)

-- the first in hand is followed by both ways, and laid down
pub so_far_without_first : (noted : ℕ → BothWays) (thread level : ℕ) (opened : List Bool) (nodes : List Origin) (refusals : List Refusal) (hand : List Pending)
    (p : Pending) → IsTurnSoFar noted thread level opened nodes refusals (p ∷ hand)
    → ((refused : Bool) → GoesTo (noted thread refused) (IsNodeOpen opened) p.node) → IsTurnSoFar noted thread level opened nodes refusals hand
so_far_without_first noted thread level opened nodes refusals hand p g ways = record {
  wide = g.wide;
  reached = g.reached;
  followed = λ v is. elim (g.followed v is) [ inl h ↦ without v h.0 h.1 h.2 h.3 | inr f ↦ inr f ];
  opens = λ i. g.opens (suc i);
  comes = λ i. g.comes (suc i);
  threads = λ i. g.threads (suc i);
  levels = λ i. g.levels (suc i);
}
  where
    without : (v i : ℕ) (x : Pending) → slice_get (p ∷ hand) i ≡ Some x → x.node ≡ v
        → HasNode hand v ⊎ ((refused : Bool) → GoesTo (noted thread refused) (IsNodeOpen opened) v)
    without v zero x is at =
        inr (subst (λ z. (refused : Bool) → GoesTo (noted thread refused) (IsNodeOpen opened) z) (ap (λ z. z.node) (same_Some p x is) ∙ at) ways)
    without v (suc i) x is at = inl (i, x, is, at)

-- a turn that goes on as it did, where what was noted stays
pub so_far_if_notes_kept : (noted more : ℕ → BothWays) (thread level : ℕ) (opened : List Bool) (nodes : List Origin) (refusals : List Refusal)
    (hand : List Pending) → AllKept noted more → IsTurnSoFar noted thread level opened nodes refusals hand
    → IsTurnSoFar more thread level opened nodes refusals hand
so_far_if_notes_kept noted more thread level opened nodes refusals hand kept g = record {
  wide = g.wide;
  reached = reached_if_notes_kept noted more refusals refusals nodes kept (λ v x is. is) g.reached;
  followed = λ v is. elim (g.followed v is) [
    | inl h ↦ inl h
    | inr f ↦ inr (λ refused.
        goes_to_open_kept (noted thread refused) (more thread refused) opened opened v (kept thread refused) (λ w o. o) (f refused))
  ];
  opens = g.opens;
  comes = λ i p is.
      reached_if_grown noted more refusals refusals nodes nodes kept (λ v x e. e) (λ v x e. e) (omega arith) p.node p.origin (g.comes i p is);
  threads = g.threads;
  levels = g.levels;
}

-- One node more is opened, and is in hand as the last: what was known of the nodes and of the table stays.
so_far_after_opening : (noted more : ℕ → BothWays) (thread level : ℕ) (opened row : List Bool) (nodes new : List Origin) (refusals table : List Refusal)
    (hand : List Pending) (next : Pending) → IsTurnSoFar noted thread level opened nodes refusals hand → AllKept noted more → Stay nodes new
    → length nodes ≤ length new → Stay refusals table → length row ≡ length new → Opening opened row next.node → AreReached more table new
    → IsReachedBy more table new next.node next.origin → next.origin.thread ≡ thread → next.origin.level ≡ level
    → IsTurnSoFar more thread level row new table (hand ++ next ∷ [])
so_far_after_opening noted more thread level opened row nodes new refusals table hand next g kept stays longer stay wide o reached comes own
    same = record {
      wide = wide;
      reached = reached;
      followed = λ v is. elim (o.only v is) [
        | inl old ↦ elim (g.followed v old) [
          | inl h ↦ inl (has_node_kept_by_append hand (next ∷ []) v h)
          | inr f ↦ inr (λ refused.
              goes_to_open_kept (noted thread refused) (more thread refused) opened row v (kept thread refused) o.stays (f refused))
        ]
        | inr here ↦ inl (subst (HasNode (hand ++ next ∷ [])) (sym here) (hand_has_pushed_node hand next))
      ];
      opens = each_in_hand_push (λ x. IsNodeOpen row x.node) hand next (λ i x is. o.stays x.node (g.opens i x is)) o.opens;
      comes = each_in_hand_push (λ x. IsReachedBy more table new x.node x.origin) hand next
          (λ i x is. reached_if_grown noted more refusals table nodes new kept stay stays longer x.node x.origin (g.comes i x is)) comes;
      threads = each_in_hand_push (λ x. x.origin.thread ≡ thread) hand next g.threads own;
      levels = each_in_hand_push (λ x. x.origin.level ≡ level) hand next g.levels same;
    }

-- a turn begins: its first node is opened, and is in hand
pub turn_so_far_at_start : (noted : ℕ → BothWays) (start : Origin) (opened : List Bool) (nodes : List Origin) (refusals : List Refusal) (d : Bool)
    → IsWayFollowed (noted start.thread) opened → AreReached noted refusals nodes → BeginsAt nodes start.level start.from
    → (start.last_refusal ≡ 0) × (start.entries ≡ 0) → start.from < length opened → length opened ≡ length nodes → get_or opened start.from d ≡ false
    → IsTurnSoFar noted start.thread start.level (slice_set opened start.from true) nodes refusals (record { node = start.from; origin = start } ∷ [])
turn_so_far_at_start noted start opened nodes refusals d followed reached begins none less wide unopened =
    so_far_after_opening noted noted start.thread start.level opened (slice_set opened start.from true) nodes nodes refusals refusals []
    (record { node = start.from; origin = start })
    (so_far_if_followed noted start.thread start.level opened nodes refusals wide reached followed) (λ t refused v next is. is) (λ v x is. is)
    (omega arith) (λ v x is. is) (length-set opened start.from true ∙ wide) (set_shut_is_opening opened start.from d less unopened) reached
    (no_ways_reaches_start noted refusals nodes start none begins) refl refl

-- The nodes, once one was opened: as they were, or with this one at the end.
pub record Joined (nodes new : List Origin) (next : Pending) : Type 0 where
  pub cases : (new ≡ nodes) ⊎ ((next.node ≡ length nodes) × (new ≡ nodes ++ next.origin ∷ []))

pub joined_nodes_stay : (nodes new : List Origin) (next : Pending) → Joined nodes new next → Stay nodes new
joined_nodes_stay nodes new next j v n is = elim j.cases [
  | inl same ↦ subst (λ z. slice_get z v ≡ Some n) (sym same) is
  | inr p ↦ subst (λ z. slice_get z v ≡ Some n) (sym p.1) (slice_get_append_kept nodes (next.origin ∷ []) v n is)
]

pub joined_no_fewer_nodes : (nodes new : List Origin) (next : Pending) → Joined nodes new next → length nodes ≤ length new
joined_no_fewer_nodes nodes new next j = elim j.cases [
  | inl same ↦ let a = ap length same in omega (arith, a)
  | inr p ↦ let a = ap length p.1 in let b = length-append nodes (next.origin ∷ []) in omega (arith, a, b)
]

pub joined_nodes_within : (nodes new : List Origin) (next : Pending) (size : ℕ) → Joined nodes new next → length nodes ≤ size → next.node < size
    → length new ≤ size
joined_nodes_within nodes new next size j few less = elim j.cases [
  | inl same ↦ let a = ap length same in omega (arith, a, few)
  | inr p ↦ let a = ap length p.1 in let b = length-append nodes (next.origin ∷ []) in let d = p.0 in omega (arith, a, b, d, less)
]

pub joined_adds_nodes : (nodes new : List Origin) (next : Pending) (level : ℕ) → Joined nodes new next → next.origin.level ≡ level → Adds level nodes new
joined_adds_nodes nodes new next level j same = elim j.cases [
  | inl old ↦ subst (Adds level nodes) (sym old) (adds_reflexive level nodes)
  | inr p ↦ subst (Adds level nodes) (sym p.1) (adds_after_pushed level nodes nodes next.origin same (adds_reflexive level nodes))
]

-- what opening a node does to the row and to the nodes
pub opened_row_long_as_nodes : (opened row : List Bool) (nodes new : List Origin) (next : Pending) → length opened ≡ length nodes → next.node ≤ length opened
    → ((d : Bool) × (next.node < length opened) × (get_or opened next.node d ≡ false)) ⊎ (length opened ≤ next.node)
    → (next.node < length opened → (row ≡ slice_set opened next.node true) × (new ≡ nodes))
    → (next.node ≡ length opened → (row ≡ opened ++ true ∷ []) × (new ≡ nodes ++ next.origin ∷ []))
    → Opening opened row next.node × (length row ≡ length new)
opened_row_long_as_nodes opened row nodes new next wide within shut_there old fresh = elim shut_there [
  | inl p ↦
      let is = old p.1 in
      let a = ap length is.0 in let b = length-set opened next.node true in let c = ap length is.1 in (
        subst (λ z. Opening opened z next.node) (sym is.0) (set_shut_is_opening opened next.node p.0 p.1 p.2),
        omega (arith, a, b, c, wide),
      )
  | inr late ↦
      let here : next.node ≡ length opened = omega (arith, late, within) in
      let is = fresh here in
      let a = ap length is.0 in let b = length-append opened (true ∷ []) in
      let c = ap length is.1 in let d = length-append nodes (next.origin ∷ []) in (
        subst (λ z. Opening opened z next.node) (sym is.0) (subst (Opening opened (opened ++ true ∷ [])) (sym here) (adding_is_opening opened)),
        omega (arith, a, b, c, d, wide),
      )
]

pub joined_same_or_pushed : (opened : List Bool) (nodes new : List Origin) (next : Pending) → length opened ≡ length nodes
    → (new ≡ nodes) ⊎ ((next.node ≡ length opened) × (new ≡ nodes ++ next.origin ∷ [])) → Joined nodes new next
joined_same_or_pushed opened nodes new next wide either = record {
  cases = elim either [ inl same ↦ inl same | inr p ↦ inr (p.0 ∙ wide, p.1) ];
}

-- a node is one of those that there were, or the one more
pub node_at_most_size : (size more next : ℕ) (o : Option ℕ) → (more ≡ size) ⊎ ((o ≡ Some size) × (more ≡ suc size)) → next < more → next ≤ size
node_at_most_size size more next o either less = elim either [
  | inl same ↦ omega (arith, same, less)
  | inr p ↦ let a = p.1 in omega (arith, a, less)
]

-- A thread goes on by one way from a node to another, which may be one more.
module _ (noted more : ℕ → BothWays) (opened : List Bool) (nodes new : List Origin) (refusals table : List Refusal) (here : Pending) (pending : List Pending)
    (refused : Bool) (next : Pending)
    (g : IsTurnSoFar noted here.origin.thread here.origin.level opened nodes refusals (here ∷ pending)) (kept : AllKept noted more)
    (after : IsAfter refusals table here.origin refused next.origin) (is : more here.origin.thread refused here.node ≡ Some (Some next.node))
    (j : Joined nodes new next) where
  comes_there : next.node < length new → IsReachedBy more table new next.node next.origin
  comes_there less =
      reached_by_after_step noted more refusals table nodes new kept (joined_nodes_stay nodes new next j) (joined_no_fewer_nodes nodes new next j)
      here.node next.node here.origin refused next.origin after (g.comes 0 here refl) is less

  -- whatever comes after, each node is reached as its origin says
  pub reached_after_going_on : AreReached more table new
  reached_after_going_on = elim j.cases [
    | inl same ↦ subst (AreReached more table) (sym same)
        (reached_if_notes_kept noted more refusals table nodes kept (table_stays_after_step refusals table here.origin refused next.origin after) g.reached)
    | inr p ↦
        let wide : length new ≡ suc (length nodes) =
        (let a = ap length p.1 in let b = length-append nodes (next.origin ∷ []) in omega (arith, a, b)) in
        let at = p.0 in
        let comes = comes_there (omega (arith, wide, at)) in
        subst (AreReached more table) (sym p.1)
        (reached_after_node noted more refusals table nodes next.origin kept
        (table_stays_after_step refusals table here.origin refused next.origin after) g.reached
        (subst (λ z. IsReachedBy more table (nodes ++ next.origin ∷ []) z next.origin) p.0
        (subst (λ z. IsReachedBy more table z next.node next.origin) p.1 comes)))
  ]

  pub adds_after_going_on : Adds here.origin.level nodes new
  adds_after_going_on =
      joined_adds_nodes nodes new next here.origin.level j (step_keeps_origin refusals table here.origin refused next.origin after).2

  -- once it is opened, it is in hand
  pub going_after_going_on : (row : List Bool) → Opening opened row next.node → length row ≡ length new
      → IsTurnSoFar more here.origin.thread here.origin.level row new table (here ∷ pending ++ next ∷ [])
  going_after_going_on row o wide =
      let t = step_keeps_origin refusals table here.origin refused next.origin after in
      so_far_after_opening noted more here.origin.thread here.origin.level opened row nodes new refusals table (here ∷ pending) next
      g kept (joined_nodes_stay nodes new next j) (joined_no_fewer_nodes nodes new next j)
      (table_stays_after_step refusals table here.origin refused next.origin after) wide o reached_after_going_on
      (comes_there (let a = slice_get_some_below row next.node true o.opens in omega (arith, a, wide)))
      t.1 t.2
