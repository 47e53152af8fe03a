-- How nodes are reached, as a search finds more.
use Rattle.std.proofs.Common.{◌≡◌, ℕ, suc, zero, ◌<◌, ◌≤◌, Bool, true, false, Some, List, [], ◌∷◌, ◌++◌, ◌⊎◌, inl, inr, length}
use Rattle.std.proofs.Common.{length-append, append_assoc, append-nil, refl, sym, ap, ◌∙◌, subst, arith}
use Rattle.std.specs.Prelude.{slice_get, replicate}
use Rattle.std.proofs.lemmas.Bool.{cases_lt}
use Rattle.std.proofs.lemmas.Option.{same_Some}
use Rattle.ir_lemmas.proofs.CallerLemmas.{slice_get-push_cases, slice_get_append_kept, added_element_is_last}
use Rattle.ir_search.specs.declared.origin.Origin.{Origin}
use Rattle.ir_search.specs.declared.origin.Refusal.{Refusal}
use Rattle.ir_search.specs.Following.{BothWays, Keeps, Stay}
use Rattle.ir_search.specs.TurnSoFar.{IsAfter}
use Rattle.ir_search.specs.Origins.{Goes, AreWaysUnder, Whole, Refused, AreWaysOf, BeginsAt, IsReachedBy, AreReached, AreOriginsRising, Adds}

pub slice_get_some_below : {A : Type 0} (xs : List A) (v : ℕ) (n : A) → slice_get xs v ≡ Some n → v < length xs
slice_get_some_below [] v n e = absurd (cc e)
slice_get_some_below (x ∷ xs) zero n e = omega arith
slice_get_some_below (x ∷ xs) (suc v) n e = let h = slice_get_some_below xs v n e in omega (arith, h)

pub goes_if_notes_kept : (leading more : BothWays) (size wide : ℕ) → ((refused : Bool) → Keeps (leading refused) (more refused)) → size ≤ wide
    → (ways : List Bool) (v w : ℕ) → Goes leading size v ways w → Goes more wide v ways w
goes_if_notes_kept leading more size wide kept l [] v w g = g
goes_if_notes_kept leading more size wide kept l (refused ∷ ways) v w g =
    (g.0, kept refused v (Some g.0) g.1, let a = g.2 in omega (arith, a, l), goes_if_notes_kept leading more size wide kept l ways g.0 w g.3)

-- one step more
pub goes_one_step_further : (leading : BothWays) (size : ℕ) (ways : List Bool) (refused : Bool) (v w x : ℕ) → Goes leading size v ways w
    → leading refused w ≡ Some (Some x) → x < size → Goes leading size v (ways ++ refused ∷ []) x
goes_one_step_further leading size [] refused v w x g is l = (x, ap (leading refused) g ∙ is, l, refl)
goes_one_step_further leading size (way ∷ ways) refused v w x g is l =
    (g.0, g.1, g.2, goes_one_step_further leading size ways refused g.0 w x g.3 is l)

pub ways_stay_if_grown : (old new : List Refusal) → Stay old new → (number : ℕ) (ways : List Bool) → AreWaysUnder old number ways → AreWaysUnder new number ways
ways_stay_if_grown old new stay number ways Whole = Whole
ways_stay_if_grown old new stay number ways (Refused i x before at low s) =
    Refused i x before (stay i x at) low (ways_stay_if_grown old new stay x.before before s)

-- the table has as many refused tries as the number says
pub number_within_table : (refusals : List Refusal) (number : ℕ) (ways : List Bool) → AreWaysUnder refusals number ways → number ≤ length refusals
number_within_table refusals number ways Whole = omega arith
number_within_table refusals number ways (Refused i x before at low s) = let l = slice_get_some_below refusals i x at in omega (arith, l)

-- what the ways under a number are made of
abbrev pub WaysUnder : List Refusal → ℕ → List Bool → Type 0
WaysUnder refusals zero ways = ways ≡ []
WaysUnder refusals (suc i) ways = (x : Refusal) × (before : List Bool) × (slice_get refusals i ≡ Some x) × (x.before ≤ i)
    × AreWaysUnder refusals x.before before × (ways ≡ before ++ replicate x.entries false ++ true ∷ [])

pub ways_under_number_are : (refusals : List Refusal) (number : ℕ) (ways : List Bool) → AreWaysUnder refusals number ways → WaysUnder refusals number ways
ways_under_number_are refusals number ways Whole = refl
ways_under_number_are refusals number ways (Refused i x before at low s) = (x, before, at, low, s, refl)

-- a number has one list of ways
pub same_number_same_ways : (refusals : List Refusal) (number : ℕ) (ways more : List Bool) → AreWaysUnder refusals number ways
    → AreWaysUnder refusals number more → ways ≡ more
same_number_same_ways refusals number ways more Whole other = sym (ways_under_number_are refusals 0 more other)
same_number_same_ways refusals number ways more (Refused i x before at low s) other =
    let r = ways_under_number_are refusals (suc i) more other in
    let one : r.0 ≡ x = same_Some r.0 x (sym r.2 ∙ at) in
    let same : before ≡ r.1 = same_number_same_ways refusals x.before before r.1 s
    (subst (λ (z : Refusal). AreWaysUnder refusals z.before r.1) one r.4) in
    ap (λ z. z ++ replicate x.entries false ++ true ∷ []) same ∙ ap (λ (z : Refusal). r.1 ++ replicate z.entries false ++ true ∷ []) (sym one) ∙ sym r.5

pub begins_at_if_nodes_kept : (nodes more : List Origin) → ((v : ℕ) (n : Origin) → slice_get nodes v ≡ Some n → slice_get more v ≡ Some n)
    → (k from : ℕ) → BeginsAt nodes k from → BeginsAt more k from
begins_at_if_nodes_kept nodes more stays zero from b = b
begins_at_if_nodes_kept nodes more stays (suc k) from b = (b.0, stays from b.0 b.1, b.2)

-- what was noted stays, of each thread and way
abbrev pub AllKept : (ℕ → BothWays) → (ℕ → BothWays) → Type 0
AllKept noted more = (t : ℕ) (refused : Bool) → Keeps (noted t refused) (more t refused)

pub reached_if_grown : (noted more : ℕ → BothWays) (refusals table : List Refusal) (nodes new : List Origin) → AllKept noted more
    → Stay refusals table → Stay nodes new → length nodes ≤ length new → (v : ℕ) (n : Origin) → IsReachedBy noted refusals nodes v n
    → IsReachedBy more table new v n
reached_if_grown noted more refusals table nodes new kept stay stays longer v n r = (
  begins_at_if_nodes_kept nodes new stays n.level n.from r.0,
  r.1,
  (r.2.0, ways_stay_if_grown refusals table stay n.last_refusal r.2.0 r.2.1, r.2.2),
  goes_if_notes_kept (noted n.thread) (more n.thread) (length nodes) (length new) (kept n.thread) longer r.1 n.from v r.3,
)

pub reached_if_notes_kept : (noted more : ℕ → BothWays) (refusals table : List Refusal) (nodes : List Origin) → AllKept noted more
    → Stay refusals table → AreReached noted refusals nodes → AreReached more table nodes
reached_if_notes_kept noted more refusals table nodes kept stay r v n e =
    reached_if_grown noted more refusals table nodes nodes kept stay (λ u m is. is) (omega arith) v n (r v n e)

-- a node more, reached as its origin says
pub reached_after_node : (noted more : ℕ → BothWays) (refusals table : List Refusal) (nodes : List Origin) (new : Origin) → AllKept noted more
    → Stay refusals table → AreReached noted refusals nodes → IsReachedBy more table (nodes ++ new ∷ []) (length nodes) new
    → AreReached more table (nodes ++ new ∷ [])
reached_after_node noted more refusals table nodes new kept stay r by v n e = elim (slice_get-push_cases nodes new v n e) [
  | inl old ↦
      reached_if_grown noted more refusals table nodes (nodes ++ new ∷ []) kept stay
      (λ u m is. slice_get_append_kept nodes (new ∷ []) u m is) (let h = length-append nodes (new ∷ []) in omega (arith, h)) v n (r v n old)
  | inr p ↦ subst (λ z. IsReachedBy more table (nodes ++ new ∷ []) v z) p.1
      (subst (λ z. IsReachedBy more table (nodes ++ new ∷ []) z new) (sym p.0) by)
]

replicate_false_push : (n : ℕ) → replicate n false ++ false ∷ [] ≡ replicate (suc n) false
replicate_false_push zero = refl
replicate_false_push (suc n) = ap (λ z. false ∷ z) (replicate_false_push n)

pub table_stays_after_step : (refusals table : List Refusal) (n : Origin) (refused : Bool) (next : Origin) → IsAfter refusals table n refused next
    → Stay refusals table
table_stays_after_step refusals table n false next a v x is = subst (λ z. slice_get z v ≡ Some x) (sym a.0) is
table_stays_after_step refusals table n true next a v x is =
    subst (λ z. slice_get z v ≡ Some x) (sym a.0) (slice_get_append_kept refusals (record { before = n.last_refusal; entries = n.entries } ∷ []) v x is)

-- the ways of a turn that goes on by one more
ways_end_with_step : (refusals table : List Refusal) (n : Origin) (refused : Bool) (next : Origin) → IsAfter refusals table n refused next
    → (ways : List Bool) → AreWaysOf refusals n ways → AreWaysOf table next (ways ++ refused ∷ [])
ways_end_with_step refusals table n false next a ways (before, spelled, is) =
    subst (λ z. AreWaysOf table z (ways ++ false ∷ [])) (sym a.1) (
      before,
      ways_stay_if_grown refusals table (table_stays_after_step refusals table n false next a) n.last_refusal before spelled,
      ap (λ z. z ++ false ∷ []) is ∙ append_assoc before (replicate n.entries false) (false ∷ []) ∙ ap (λ z. before ++ z) (replicate_false_push n.entries),
    )
ways_end_with_step refusals table n true next a ways (before, spelled, is) =
    let last : Refusal = record { before = n.last_refusal; entries = n.entries } in
    let at : slice_get table (length refusals) ≡ Some last =
    subst (λ z. slice_get z (length refusals) ≡ Some last) (sym a.0) (added_element_is_last refusals last) in
    let all : List Bool = before ++ replicate n.entries false ++ true ∷ [] in
    subst (λ z. AreWaysOf table z (ways ++ true ∷ [])) (sym a.1) (
      all,
      Refused (length refusals) last before at (number_within_table refusals n.last_refusal before spelled)
          (ways_stay_if_grown refusals table (table_stays_after_step refusals table n true next a) n.last_refusal before spelled),
      ap (λ z. z ++ true ∷ []) is ∙ sym (append-nil all),
    )

pub step_keeps_origin : (refusals table : List Refusal) (n : Origin) (refused : Bool) (next : Origin) → IsAfter refusals table n refused next
    → (next.from ≡ n.from) × (next.thread ≡ n.thread) × (next.level ≡ n.level)
step_keeps_origin refusals table n false next a =
    (ap (λ z. z.from) a.1, ap (λ z. z.thread) a.1, ap (λ z. z.level) a.1)
step_keeps_origin refusals table n true next a =
    (ap (λ z. z.from) a.1, ap (λ z. z.thread) a.1, ap (λ z. z.level) a.1)

-- by one step more
pub reached_by_after_step : (noted more : ℕ → BothWays) (refusals table : List Refusal) (nodes new : List Origin) → AllKept noted more
    → Stay nodes new → length nodes ≤ length new → (v w : ℕ) (n : Origin) (refused : Bool) (next : Origin) → IsAfter refusals table n refused next
    → IsReachedBy noted refusals nodes v n → more n.thread refused v ≡ Some (Some w) → w < length new → IsReachedBy more table new w next
reached_by_after_step noted more refusals table nodes new kept stays longer v w n refused next after r is less =
    let t = step_keeps_origin refusals table n refused next after in
    let goes : Goes (more n.thread) (length new) n.from (r.1 ++ refused ∷ []) w =
    goes_one_step_further (more n.thread) (length new) r.1 refused n.from v w
    (goes_if_notes_kept (noted n.thread) (more n.thread) (length nodes) (length new) (kept n.thread) longer r.1 n.from v r.3) is less in (
      subst (λ z. BeginsAt new z next.from) (sym t.2) (subst (λ z. BeginsAt new n.level z) (sym t.0) (begins_at_if_nodes_kept nodes new stays n.level n.from r.0)),
      r.1 ++ refused ∷ [],
      ways_end_with_step refusals table n refused next after r.1 r.2,
      subst (λ z. Goes (more z) (length new) next.from (r.1 ++ refused ∷ []) w) (sym t.1)
          (subst (λ z. Goes (more n.thread) (length new) z (r.1 ++ refused ∷ []) w) (sym t.0) goes),
    )

pub adds_reflexive : (k : ℕ) (nodes : List Origin) → Adds k nodes nodes
adds_reflexive k nodes = record {
  stays = λ v n e. e;
  level = λ v n l e. absurd (let h = slice_get_some_below nodes v n e in omega (arith, h, l));
  longer = omega arith;
}

pub adds_after_pushed : (k : ℕ) (old nodes : List Origin) (new : Origin) → new.level ≡ k → Adds k old nodes → Adds k old (nodes ++ new ∷ [])
adds_after_pushed k old nodes new same a = record {
  stays = λ v n e. slice_get_append_kept nodes (new ∷ []) v n (a.stays v n e);
  level = λ v n l e. elim (slice_get-push_cases nodes new v n e) [
    | inl is ↦ a.level v n l is
    | inr p ↦ ap (λ z. z.level) (sym p.1) ∙ same
  ];
  longer = let h = length-append nodes (new ∷ []) in let l = a.longer in omega (arith, h, l);
}

element_at_exists : (xs : List Origin) (v : ℕ) → v < length xs → (n : Origin) × (slice_get xs v ≡ Some n)
element_at_exists [] v l = absurd (omega (arith, l))
element_at_exists (x ∷ xs) zero l = (x, refl)
element_at_exists (x ∷ xs) (suc v) l = element_at_exists xs v (omega (arith, l))

-- nodes of level k come after those of levels up to k
pub rising_after_level : (k : ℕ) (old new : List Origin) → AreOriginsRising old → ((v : ℕ) (n : Origin) → slice_get old v ≡ Some n → n.level ≤ k)
    → Adds k old new → AreOriginsRising new
rising_after_level k old new rising most a u v x y at there order =
    let was : (w : ℕ) (n : Origin) → slice_get new w ≡ Some n → w < length old → slice_get old w ≡ Some n =
    λ w n is less.
    let o = element_at_exists old w less in
    subst (λ z. slice_get old w ≡ Some z) (same_Some o.0 n (sym (a.stays w o.0 o.1) ∙ is)) o.1 in
    elim (cases_lt v (length old)) [
      | inl less ↦ rising u v x y (was u x at (omega (arith, order, less))) (was v y there less) order
      | inr late ↦
          let last = a.level v y late there in
          elim (cases_lt u (length old)) [
            | inl less ↦ let b = most u x (was u x at less) in omega (arith, b, last)
            | inr late_too ↦ let b = a.level u x late_too at in omega (arith, b, last)
          ]
    ]

pub adds_transitive : (k : ℕ) (old nodes new : List Origin) → Adds k old nodes → Adds k nodes new → Adds k old new
adds_transitive k old nodes new a b = record {
  stays = λ v n e. b.stays v n (a.stays v n e);
  level = λ v n l e. elim (decides v (length nodes)) [
    | inl less ↦ let old_one = element_at_exists nodes v less in
        a.level v n l (old_one.1 ∙ sym (b.stays v old_one.0 old_one.1) ∙ e)
    | inr most ↦ b.level v n most e
  ];
  longer = let x = a.longer in let y = b.longer in omega (arith, x, y);
}
  where
    decides : (a b : ℕ) → (a < b) ⊎ (b ≤ a)
    decides a b = elim (cases_lt a b) [ inl l ↦ inl l | inr m ↦ inr m ]
