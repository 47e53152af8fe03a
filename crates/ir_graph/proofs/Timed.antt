-- What is known of calls for the time, while a graph grows.
use Rattle.std.proofs.Common.{◌≡◌, ℕ, ◌<◌, ◌≤◌, Bool, true, false, Option, Some, None, List, [], ◌∷◌, ◌⊎◌, inl, inr, length, sym, ◌∙◌, subst}
use Rattle.std.specs.Global.{Vec}
use Rattle.std.proofs.lemmas.Bool.{cases_lt}
use Rattle.std.proofs.lemmas.Option.{same_Some}
use Rattle.ir_search.specs.Following.{BothWays}
use Rattle.ir_search_laws.specs.Outcomes.{Begins}
use Rattle.ir_search_laws.specs.Views.{beside}
use Rattle.ir_thread.specs.State.{most_budget}
use Rattle.ir_likeness.specs.Seen.{seen_start}
use Rattle.ir_likeness.proofs.CallerLemmas.{start_view_any_budget}
use Rattle.ir_state_store.specs.Nodes.{SourcedFlat}
use Rattle.ir_state_store.specs.Table.{HaveTicks, HaveNoTicks}
use Rattle.ir_graph.specs.Graph.{IsGraph}
use Rattle.ir_graph.specs.Nodes.{seen_by, answered_by, seen_of, NodesStay}
use Rattle.ir_graph.specs.Notes.{noted_by}
use Rattle.ir_graph.specs.Plain.{GoesPlain}
use Rattle.ir_graph.specs.Setup.{Setup, setup_start, first_source}
use Rattle.ir_graph.specs.Times.{HasTimedRun, AlikeTickless, LeadsTickless, KnowsTimes}
use Rattle.ir_graph.proofs.Grown.{FreeToTry, Untried, Tried, old_node_is_unchanged}
use Rattle.ir_graph.proofs.Leads.{begins_tickless}
use Rattle.ir_graph.proofs.Reached.{plain_start_is_reached}
use Rattle.ir_graph.proofs.Times.{ticks_have_timed_run}

-- what leads somewhere was noted of a node, and leads to one
noted_nodes_exist : (x : Setup) (flats : List SourcedFlat) (noted : ℕ → BothWays) (threads : ℕ) → IsGraph x flats noted threads
    → (t : ℕ) (refused : Bool) (v w : ℕ) → noted t refused v ≡ Some (Some w) → (v < length flats) × (w < length flats)
noted_nodes_exist x flats noted threads g t refused v w is = elim (cases_lt t threads) [
  | inl few ↦ elim (g.asked t refused v (Some w) few is) [
    | inl l ↦ (l, g.within t refused v w few is)
    | inr first ↦ absurd (cc (sym (g.untried first.0 t v) ∙ subst (λ z. noted t z v ≡ Some (Some w)) first.1 is))
  ]
  | inr many ↦ absurd (cc (sym (g.past t refused v many) ∙ is))
]

-- nodes were added
pub knows_times_nodes_added : (x : Setup) (flats new : List SourcedFlat) (noted : ℕ → BothWays) (threads : ℕ) (old timed : Bool)
    → IsGraph x flats noted threads → KnowsTimes x flats noted old → NodesStay flats new → (timed ≡ true → HasTimedRun x) → (timed ≡ false → old ≡ false)
    → KnowsTimes x new noted timed
knows_times_nodes_added x flats new noted threads old timed g known stay has were = record {
  has = has;
  begins = λ none s is. known.begins (were none) s (old_node_is_unchanged flats new 0 s stay g.some is);
  leads = λ none t refused v w is s u here there.
      let l = noted_nodes_exist x flats noted threads g t refused v w is in
      known.leads (were none) t refused v w is s u (old_node_is_unchanged flats new v s stay l.0 here) (old_node_is_unchanged flats new w u stay l.1 there);
}

-- one more was noted, at most
pub knows_times_after_note : (x : Setup) (flats : List SourcedFlat) (old new : ℕ → BothWays) (timed : Bool) (thread : ℕ) (way : Bool) (node : ℕ)
    (to : Option ℕ) → KnowsTimes x flats old timed
    → ((t : ℕ) (refused : Bool) (v : ℕ) → (new t refused v ≡ old t refused v)
    ⊎ ((t ≡ thread) × (refused ≡ way) × (v ≡ node) × (new t refused v ≡ Some to)))
    → ((w : ℕ) → to ≡ Some w → timed ≡ false → LeadsTickless flats thread way node w) → KnowsTimes x flats new timed
knows_times_after_note x flats old new timed thread way node to known only leads = record {
  has = known.has;
  begins = known.begins;
  leads = λ none t refused v w is. elim (only t refused v) [
    | inl same ↦ known.leads none t refused v w (sym same ∙ is)
    | inr p ↦
        subst (λ z. LeadsTickless flats z refused v w) (sym p.0)
        (subst (λ z. LeadsTickless flats thread z v w) (sym p.1)
        (subst (λ z. LeadsTickless flats thread way z w) (sym p.2) (leads w (same_Some to (Some w) (sym p.3 ∙ is)) none)))
  ];
}

-- what is known by rows is known by equal ones
pub knows_times_equal_rows : (x : Setup) (flats : List SourcedFlat) (timed : Bool) (new tries : List (Vec (Option (Option ℕ))))
    {rows refused_rows : List (Vec (Option (Option ℕ)))} → rows ≡ new → refused_rows ≡ tries → KnowsTimes x flats (noted_by new tries) timed
    → KnowsTimes x flats (noted_by rows refused_rows) timed
knows_times_equal_rows x flats timed new tries {rows} {refused_rows} same also known =
    subst (λ z. KnowsTimes x flats (noted_by z refused_rows) timed) (sym same)
    (subst (λ z. KnowsTimes x flats (noted_by new z) timed) (sym also) known)

-- the graph at first
pub start_knows_times : (x : Setup) (h : SourcedFlat) (noted : ℕ → BothWays) (threads : ℕ) (timed : Bool) → GoesPlain (setup_start x) h
    → ((t v : ℕ) → t < threads → noted t false v ≡ None) → FreeToTry x.profile threads noted
    → ((t : ℕ) (refused : Bool) (v : ℕ) → threads ≤ t → noted t refused v ≡ Some None)
    → (timed ≡ true → HaveTicks h.sources) → (timed ≡ false → HaveNoTicks h.sources) → KnowsTimes x (h ∷ []) noted timed
start_knows_times x h noted threads timed goes free tries past some none = record {
  has = λ e. ticks_have_timed_run x h (plain_start_is_reached x h goes) (some e);
  begins = λ e s is.
      subst (λ z. Begins (seen_by x.guest.code) (answered_by x.guest.code) (AlikeTickless x.guest.code) (seen_start x.guest x.profile (first_source x)) (seen_of z))
      (same_Some h s is)
      (subst (λ z. Begins (seen_by x.guest.code) (answered_by x.guest.code) (AlikeTickless x.guest.code) (beside z (first_source x)) (seen_of h))
      (start_view_any_budget x.guest most_budget 1 x.profile) (begins_tickless (setup_start x) h goes (none e)));
  leads = λ e t refused v w is. elim (cases_lt t threads) [
    | inl few ↦ absurd (nowhere tries t refused v w few is)
    | inr many ↦ absurd (cc (sym (past t refused v many) ∙ is))
  ];
}
  where
    nowhere : FreeToTry x.profile threads noted → (t : ℕ) (refused : Bool) (v w : ℕ) → t < threads → noted t refused v ≡ Some (Some w) → ⊥
    nowhere tried t false v w few is = cc (sym (free t v few) ∙ is)
    nowhere (Untried one none) t true v w few is = cc (sym (none t v) ∙ is)
    nowhere (Tried never none) t true v w few is = cc (sym (none t v few) ∙ is)
