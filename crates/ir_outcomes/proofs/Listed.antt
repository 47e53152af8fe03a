-- The outcomes of a guest, listed.
use Rattle.std.proofs.Common.{◌≡◌, ℕ, suc, ◌+◌, ◌<◌, ◌≤◌, List, [], ◌∷◌, ◌++◌, inl, inr, Some, length, length-append, refl, sym, ap, ◌∙◌, subst, arith}
use Rattle.std.specs.Prelude.{slice_get}
use Rattle.std.proofs.lemmas.Bool.{cases_lt}
use Rattle.std.proofs.lemmas.Option.{same_Some}
use Rattle.ir_lemmas.proofs.CallerLemmas.{element_below_length}
use Rattle.ir_search.specs.declared.origin.Origin.{Origin}
use Rattle.ir_search.proofs.CallerLemmas.{slice_get-push_cases, slice_get_append_kept, slice_get_some_below}
use Rattle.ir_runs.specs.Run.{Step}
use Rattle.ir_record.specs.Recording.{turns_of_items}
use Rattle.ir_thread.specs.State.{most_budget}
use Rattle.ir_flat.specs.Flat.{Flat, tables}
use Rattle.ir_state_store.specs.Nodes.{SourcedFlat}
use Rattle.ir_graph.specs.Listing.{HasOutcome, AreOutcomes}
use Rattle.ir_graph.specs.Outcomes.{run_outcome, AllListed}
use Rattle.ir_graph.specs.Searched.{AreSearched}
use Rattle.ir_graph.specs.Setup.{Setup, IsCountedOf}
use Rattle.ir_search.specs.Following.{Stay}
use Rattle.ir_outcomes.specs.Exploring.{HasShown}
use Rattle.ir_outcomes.specs.Explored.{ShowsState, IsIn, AreExplored, AreAll, AreOutcomesShown}
use Rattle.ir_outcomes.specs.Shown.{outcome_by, switches_by, IsShown}
use Rattle.ir_outcomes.specs.declared.shown.Shown.{Shown}

-- one more is shown
pub are_shown_step : (setup : Setup) (flats : List SourcedFlat) (origins : List Origin) (listed : List ℕ) (many : ℕ) (outcomes : List Shown) (x : Shown)
    → AreOutcomesShown setup flats origins listed many outcomes → slice_get listed many ≡ Some x.node
    → ((n : Origin) → slice_get origins x.node ≡ Some n → x.level ≡ n.level)
    → ((f : SourcedFlat) → slice_get flats x.node ≡ Some f → IsShown setup f x.level (turns_of_items x.turns.items))
    → AreOutcomesShown setup flats origins listed (many + 1) (outcomes ++ x ∷ [])
are_shown_step setup flats origins listed many outcomes x s node level shown = record {
  count = let a = length-append outcomes (x ∷ []) in let b = s.count in omega (arith, a, b);
  node = λ i y is. elim (slice_get-push_cases outcomes x i y is) [
    | inl old ↦ s.node i y old
    | inr p ↦ subst (λ z. slice_get listed i ≡ Some z.node) p.1
        (subst (λ z. slice_get listed z ≡ Some x.node) (sym (p.0 ∙ s.count)) node)
  ];
  level = λ i y n is at. elim (slice_get-push_cases outcomes x i y is) [
    | inl old ↦ s.level i y n old at
    | inr p ↦
        ap (λ z. z.level) (sym p.1) ∙ level n (subst (λ z. slice_get origins z.node ≡ Some n) (sym p.1) at)
  ];
  shown = λ i y f at. elim (slice_get-push_cases outcomes x i y at.0) [
    | inl old ↦ s.shown i y f (old, at.1)
    | inr p ↦
        subst (λ z. IsShown setup f z.level (turns_of_items z.turns.items)) p.1
        (shown f (subst (λ z. slice_get flats z.node ≡ Some f) (sym p.1) at.1))
  ];
}

module _ (setup : Setup) (flats : List SourcedFlat) (origins : List Origin) (levels seen : ℕ) (listed : List ℕ) (outcomes : List Shown)
    (searched : AreSearched setup flats origins levels) (within : seen ≤ length origins)
    (has : HasShown setup flats origins seen listed outcomes) where
  -- a listed node is shown
  in_list : (i v : ℕ) → slice_get listed i ≡ Some v → (x : Shown) × (slice_get outcomes i ≡ Some x) × (x.node ≡ v)
  in_list i v is =
      let less : i < length outcomes = (let a = slice_get_some_below listed i v is in let b = has.shown.count in omega (arith, a, b)) in
      let x = element_below_length outcomes i less in
      (x.0, x.1, same_Some x.0.node v (sym (has.shown.node i x.0 x.1) ∙ is))

  -- where a listed node has the outcome of a state, it is in the list
  has_in : (f : Flat) → HasOutcome flats listed f → IsIn flats outcomes (run_outcome (tables f))
  has_in f h =
      let x = in_list h.place h.node h.stands in
      (h.place, x.0, h.state, (x.1, subst (λ z. slice_get flats z ≡ Some h.state) (sym x.2) h.at), h.same)

  origin_of : (i v : ℕ) → slice_get listed i ≡ Some v → (n : Origin) × (slice_get origins v ≡ Some n)
  origin_of i v is = element_below_length origins v (let a = (has.different.done i v is).0 in omega (arith, a, within))

  origin_at : (i : ℕ) (x : Shown) → slice_get outcomes i ≡ Some x → (n : Origin) × (slice_get origins x.node ≡ Some n)
  origin_at i x is = origin_of i x.node (has.shown.node i x is)

  -- no other node needs fewer switches than `until`
  module _ (until : ℕ) (few : until ≤ levels) (late : (v : ℕ) (n : Origin) → seen ≤ v → slice_get origins v ≡ Some n → until ≤ n.level)
      (early : (v : ℕ) (n : Origin) → v < seen → slice_get origins v ≡ Some n → n.level ≤ until) where
    -- what a run of few switches comes to is in the list
    in_covered : (c : ℕ) → c < until → (budget : ℕ)
        (steps : List Step) → IsCountedOf setup budget steps → switches_by setup budget steps ≤ c
        → IsIn flats outcomes (outcome_by setup budget steps)
    in_covered c less budget steps counted most =
        let r = searched.within c (omega (arith, less, few)) budget steps counted most in
        let near : r.0 < seen = elim (cases_lt r.0 seen) [
          | inl low ↦ low
          | inr high ↦ absurd (let a = late r.0 r.2 high r.4 in let b = r.5 in omega (arith, a, b, less))
        ] in
        let h = has.different.all r.0 r.1 near r.3.0 r.3.1 in
        subst (IsIn flats outcomes) r.3.2 (has_in r.1.flat h.0)

    level_least : (i : ℕ) (x : Shown) (f : SourcedFlat) → ShowsState flats outcomes i x f → (budget : ℕ) (steps : List Step)
        → IsCountedOf setup budget steps → outcome_by setup budget steps ≡ run_outcome (tables f.flat)
        → x.level ≤ switches_by setup budget steps
    level_least i x f at budget steps counted same = elim (cases_lt (switches_by setup budget steps) x.level) [
      | inl less ↦
          let n = origin_at i x at.0 in
          let level : x.level ≡ n.0.level = has.shown.level i x n.0 at.0 n.1 in
          let most = searched.most x.node n.0 n.1 in
          let r = searched.within (switches_by setup budget steps) (omega (arith, less, level, most)) budget steps counted (omega arith) in
          let low = r.5 in
          let own = (has.different.done i x.node (has.shown.node i x at.0)).0 in
          let near : r.0 < seen = elim (cases_lt r.0 seen) [
            | inl low ↦ low
            | inr high ↦ absurd (
                let rise = searched.rising x.node r.0 n.0 r.2 n.1 r.4 (omega (arith, own, high)) in omega (arith, rise, low, less, level))
          ] in
          let h = has.different.all r.0 r.1 near r.3.0 r.3.1 in
          let one : h.0.place ≡ i =
          has.different.different h.0.place i h.0.node x.node h.0.state f h.0.stands (has.shown.node i x at.0) h.0.at at.1 (h.0.same ∙ r.3.2 ∙ same) in
          let node : h.0.node ≡ x.node =
          same_Some h.0.node x.node (sym (subst (λ z. slice_get listed z ≡ Some h.0.node) one h.0.stands) ∙ has.shown.node i x at.0) in
          let before : x.node ≤ r.0 = (let a = h.1 in omega (arith, a, node)) in
          let rise = searched.rising x.node r.0 n.0 r.2 n.1 r.4 before in
          absurd (omega (arith, less, level, rise, low))
      | inr most ↦ most
    ]

    pub explored_to : AreExplored setup flats until outcomes
    explored_to = record {
      shown = has.shown.shown;
      fewest = level_least;
      different = λ i j x y f g at there same.
          has.different.different i j x.node y.node f g (has.shown.node i x at.0) (has.shown.node j y there.0) at.1 there.1 same;
      rising = λ i j x y is there before.
          let n = origin_at i x is in
          let m = origin_at j y there in
          let less = has.different.rising i j x.node y.node (has.shown.node i x is) (has.shown.node j y there) before in
          let rise = searched.rising x.node y.node n.0 m.0 n.1 m.1 (omega (arith, less)) in
          let a = has.shown.level i x n.0 is n.1 in
          let b = has.shown.level j y m.0 there m.1 in
          omega (arith, rise, a, b);
      nodes = λ i x is.
          let l = (has.different.done i x.node (has.shown.node i x is)).0 in
          let few = searched.few in
          omega (arith, l, few, within);
      most = λ i x is.
          let n = origin_at i x is in
          let a = has.shown.level i x n.0 is n.1 in
          let b = early x.node n.0 (has.different.done i x.node (has.shown.node i x is)).0 n.1 in
          omega (arith, a, b);
      covered = in_covered;
    }

  -- if all nodes were looked at
  pub explored_whole : seen ≡ length origins → AreExplored setup flats levels outcomes
  explored_whole all = explored_to levels (omega arith)
      (λ v n high is. absurd (let a = slice_get_some_below origins v n is in omega (arith, a, high, all)))
      (λ v n low is. searched.most v n is)

  -- if only those before this one were
  pub explored_cut : (n : Origin) → slice_get origins seen ≡ Some n → AreExplored setup flats n.level outcomes
  explored_cut n at = explored_to n.level (searched.most seen n at)
      (λ v m high is. searched.rising seen v n m at is high)
      (λ v m low is. searched.rising v seen m n is at (omega (arith, low)))

  -- once the search is finished, the list is that of all outcomes
  pub all_outcomes : seen ≡ length origins → AllListed setup flats → length origins ≡ length flats → AreAll setup flats outcomes
  all_outcomes whole all nodes x = (
    λ h.
        let r = all h.0 h.1 h.2 in
        let less : r.0 < seen = (let a = slice_get_some_below flats r.0 r.1 r.2.0 in omega (arith, a, nodes, whole)) in
        let k = has.different.all r.0 r.1 less r.2.0 r.2.1 in
        subst (IsIn flats outcomes) (r.2.2 ∙ h.3) (has_in r.1.flat k.0),
    λ h.
        let s = has.shown.shown h.0 h.1 h.2 h.3 in
        (most_budget, s.steps, s.counted, s.same ∙ h.4),
  )

-- what was so of some nodes is so of them among more
module _ (setup : Setup) (flats more : List SourcedFlat) (origins new : List Origin) (seen : ℕ) (listed : List ℕ) (outcomes : List Shown)
    (has : HasShown setup flats origins seen listed outcomes) (few : seen ≤ length flats) (within : seen ≤ length origins)
    (stay : Stay flats more) (stays : Stay origins new) where
  old_flat : (v : ℕ) (f : SourcedFlat) → v < seen → slice_get more v ≡ Some f → slice_get flats v ≡ Some f
  old_flat v f low is =
      let g = element_below_length flats v (omega (arith, low, few)) in
      g.1 ∙ sym (stay v g.0 g.1) ∙ is

  old_origin : (v : ℕ) (n : Origin) → v < seen → slice_get new v ≡ Some n → slice_get origins v ≡ Some n
  old_origin v n low is =
      let m = element_below_length origins v (omega (arith, low, within)) in
      m.1 ∙ sym (stays v m.0 m.1) ∙ is

  kept : (f : Flat) → HasOutcome flats listed f → HasOutcome more listed f
  kept f h = record {
    place = h.place;
    node = h.node;
    state = h.state;
    stands = h.stands;
    at = stay h.node h.state h.at;
    same = h.same;
  }

  pub shown_among : HasShown setup more new seen listed outcomes
  unfolding kept
  shown_among = record {
    different = record {
      done = λ i v is. let d = has.different.done i v is in (d.0, λ f at. d.1 f (old_flat v f d.0 at));
      all = λ v f low at done. let h = has.different.all v f low (old_flat v f low at) done in (kept f.flat h.0, h.1);
      different = λ i j v w f g is there at here same.
          has.different.different i j v w f g is there (old_flat v f (has.different.done i v is).0 at) (old_flat w g (has.different.done j w there).0 here) same;
      rising = has.different.rising;
    };
    shown = record {
      count = has.shown.count;
      node = has.shown.node;
      level = λ i x n is at.
          has.shown.level i x n is (old_origin x.node n (has.different.done i x.node (has.shown.node i x is)).0 at);
      shown = λ i x f at.
          has.shown.shown i x f (at.0, old_flat x.node f (has.different.done i x.node (has.shown.node i x at.0)).0 at.1);
    };
  }

-- no node was looked at
pub shown_before_first_node : (setup : Setup) (flats : List SourcedFlat) (origins : List Origin) → HasShown setup flats origins 0 [] []
shown_before_first_node setup flats origins = record {
  different = record {
    done = λ i v is. absurd (cc is);
    all = λ v f less at done. absurd (omega (arith, less));
    different = λ i j v w f g is. absurd (cc is);
    rising = λ i j v w is. absurd (cc is);
  };
  shown = record {
    count = refl;
    node = λ i x is. absurd (cc is);
    level = λ i x n is. absurd (cc is);
    shown = λ i x f at. absurd (cc at.0);
  };
}

-- the last of a list
slice_get_last_pushed : (xs : List ℕ) (x : ℕ) → slice_get (xs ++ x ∷ []) (length xs) ≡ Some x
slice_get_last_pushed [] x = refl
slice_get_last_pushed (y ∷ xs) x = slice_get_last_pushed xs x

-- one more node is listed and shown
pub has_shown_step : (setup : Setup) (flats : List SourcedFlat) (origins : List Origin) (seen : ℕ) (listed : List ℕ) (outcomes : List Shown) (x : Shown)
    → HasShown setup flats origins seen listed outcomes → AreOutcomes flats (suc seen) (listed ++ seen ∷ []) → x.node ≡ seen
    → ((n : Origin) → slice_get origins seen ≡ Some n → x.level ≡ n.level)
    → ((f : SourcedFlat) → slice_get flats seen ≡ Some f → IsShown setup f x.level (turns_of_items x.turns.items))
    → HasShown setup flats origins (suc seen) (listed ++ seen ∷ []) (outcomes ++ x ∷ [])
has_shown_step setup flats origins seen listed outcomes x has different node level shown = record {
  different = different;
  shown = subst (λ n. AreOutcomesShown setup flats origins (listed ++ seen ∷ []) n (outcomes ++ x ∷ []))
      (let a = length-append listed (seen ∷ []) in omega (arith, a))
      (are_shown_step setup flats origins (listed ++ seen ∷ []) (length listed) outcomes x wide (slice_get_last_pushed listed seen ∙ ap Some (sym node))
      (λ n is. level n (subst (λ z. slice_get origins z ≡ Some n) node is))
      (λ f is. shown f (subst (λ z. slice_get flats z ≡ Some f) node is)));
}
  where
    wide : AreOutcomesShown setup flats origins (listed ++ seen ∷ []) (length listed) outcomes
    wide = record {
      count = has.shown.count;
      node = λ i y is. slice_get_append_kept listed (seen ∷ []) i y.node (has.shown.node i y is);
      level = has.shown.level;
      shown = has.shown.shown;
    }

-- no outcomes, before the first level
pub explored_before_first : (setup : Setup) (flats : List SourcedFlat) → AreExplored setup flats 0 []
explored_before_first setup flats = record {
  shown = λ i x f at. absurd (cc at.0);
  fewest = λ i x f at. absurd (cc at.0);
  different = λ i j x y f g at. absurd (cc at.0);
  rising = λ i j x y is. absurd (cc is);
  nodes = λ i x is. absurd (cc is);
  most = λ i x is. absurd (cc is);
  covered = λ c less. absurd (omega (arith, less));
}
