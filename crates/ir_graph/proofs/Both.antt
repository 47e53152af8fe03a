-- The state that a turn of a thread beside some objects leads to.
use Rattle.std.proofs.Common.{◌≡◌, ℕ, ◌<◌, Bool, true, false, Some, None, List, length, length-set, get_or, refl, sym, ap, ◌∙◌, subst, arith}
use Rattle.std.specs.Prelude.{slice_get}
use Rattle.std.specs.List.{AllByRecursion, slice_index_or}
use Rattle.ir_thread.specs.State.{ask_of}
use Rattle.ir_object.specs.Cell.{Cell}
use Rattle.ir_world.specs.Sources.{Source}
use Rattle.ir_thread.specs.State.{ThreadState}
use Rattle.ir_flat.specs.Flat.{thread_of, cell_of}
use Rattle.ir_object.specs.Empty.{empty}
use Rattle.ir_flat.proofs.CallerLemmas.{may_step_iff_can_ask}
use Rattle.ir_lemmas.proofs.CallerLemmas.{get_or_satisfies, length_of_map}
use Rattle.ir_thread_bytes.specs.Frozen.{is_over}
use Rattle.ir_state_store.specs.declared.spot.Spot.{Spot}
use Rattle.ir_state_store.specs.Nodes.{Shared, Node, SourcedFlat, IsNode, IsSourced, IsWithin, HaveWords, AreSameLooks, cell_in, cells_at, sourced_in, with_turn}
use Rattle.ir_state_store.specs.Table.{idle_beside, HaveNoTicks}
use Rattle.ir_graph.specs.declared.known.Turn.{Turn}
use Rattle.ir_graph.specs.Setup.{Setup}
use Rattle.ir_graph.specs.Ahead.{IsTurnOf}
use Rattle.ir_graph.specs.Hand.{with_items, with_hand, IsHandOf}
use Rattle.ir_graph.specs.Lone.{MustWait, TakesTurn}
use Rattle.ir_graph.specs.Nodes.{LookAlike, AllRest, AreNodes, NodesStay, LeadsFrom}
use Rattle.ir_graph.specs.Plain.{LooksAlike, MayGo, result_by}
use Rattle.ir_graph.specs.Reached.{IsReached}
use Rattle.ir_graph.specs.Times.{LeadsTickless}
use Rattle.ir_graph.proofs.Alike.{look_alike_by_parts}
use Rattle.ir_graph.proofs.Found.{no_step_leads_nowhere, reached_like, reached_rests, leads_to_alike_node, leads_tickless}
use Rattle.ir_graph.proofs.Leads.{no_seen_step_if_done}
use Rattle.ir_graph.proofs.Hand.{all_of_with_items, length-hand, object_at_hand_place, hand_at_spots, map_of_with_items, number_at_place_satisfies, with_items_over_set}
use Rattle.ir_graph.proofs.LoneSteps.{IsLoneTurn, turn_keeps_cell_count, waiting_may_not_step, lone_turn_if_takes_turn, turn_ask_may_go}
use Rattle.ir_graph.proofs.Over.{over_asks_done}
use Rattle.ir_graph.proofs.Plain.{TakesStep}
use Rattle.ir_graph.proofs.Reached.{reached_after_step}

pub same_looks_look_alike : (s u : SourcedFlat) → LooksAlike s.flat u.flat → length s.sources ≡ length s.flat.threads
    → length u.sources ≡ length u.flat.threads → AreSameLooks s.flat.code s u → LookAlike s u
same_looks_look_alike s u like many many' same =
    look_alike_by_parts s u like many many' (λ t l. same.threads t l (like.twins t)) same.words

-- a thread that is over has no step
pub over_leads_nowhere : (states : List SourcedFlat) (t : ℕ) (refused : Bool) (v : ℕ)
    → ((s : SourcedFlat) → slice_get states v ≡ Some s → is_over (thread_of s.flat t) ≡ true) → LeadsFrom states t refused v None
over_leads_nowhere states t refused v over s at e same by can =
    no_seen_step_if_done s t (over_asks_done s.flat.code (thread_of s.flat t) (over s at)) e same can

-- a thread that has to wait has no step by this way
pub waiting_leads_nowhere : (states : List SourcedFlat) (shared : Shared) (s : SourcedFlat) (t : ℕ) (refused : Bool) (v : ℕ) (turn : Turn)
    → AreNodes states → slice_get states v ≡ Some s → t < length s.flat.threads → IsSourced s → IsTurnOf s.flat.code shared s t refused turn
    → turn.waits ≡ true → LeadsFrom states t refused v None
waiting_leads_nowhere states shared s t refused v turn nodes at less sourced is waits =
    let numbers = turn.numbers.items in
    let o = get_or numbers 0 0 in
    let q = ask_of s.flat.code (thread_of s.flat t) in
    let there = object_at_hand_place s.flat.objects numbers (cells_at shared.words turn.spots.items) 0
    (hand_at_spots shared.words s.flat.objects numbers turn.spots.items is.is.once is.from.there) is.is.some in
    let must : MustWait refused o (cell_of s.flat o).fields q =
    subst (λ z. MustWait z o (cell_of s.flat o).fields q) is.from.way
    (subst (λ (z : Cell). MustWait turn.refused o z.fields q) (sym there)
    (subst (λ (z : ThreadState × Source). MustWait turn.refused o (get_or (cells_at shared.words turn.spots.items) 0 empty).fields (ask_of s.flat.code z.0))
    is.from.here (is.is.waits waits))) in
    no_step_leads_nowhere states s t refused v nodes at less
    (λ can. waiting_may_not_step s.flat o refused q must ((may_step_iff_can_ask s.flat t (result_by refused) q sourced.flat less refl).1 can))

module _ (states : List SourcedFlat) (shared : Shared) (s : SourcedFlat) (t : ℕ) (refused : Bool) (v : ℕ) (turn : Turn) (nodes : AreNodes states)
    (at : slice_get states v ≡ Some s) (less : t < length s.flat.threads) (sourced : IsSourced s) (is : IsTurnOf s.flat.code shared s t refused turn)
    (leads : turn.waits ≡ false) where
  abbrev pub after_turn : SourcedFlat
  after_turn = with_hand s t (slice_index_or shared.threads turn.to idle_beside) turn.numbers.items (cells_at shared.words turn.afters.items)

  takes : TakesTurn s.flat.code turn.numbers.items refused (slice_index_or shared.threads turn.from idle_beside)
      (cells_at shared.words turn.spots.items) (slice_index_or shared.threads turn.to idle_beside) (cells_at shared.words turn.afters.items)
  takes = subst (λ z. TakesTurn s.flat.code turn.numbers.items z (slice_index_or shared.threads turn.from idle_beside)
      (cells_at shared.words turn.spots.items) (slice_index_or shared.threads turn.to idle_beside) (cells_at shared.words turn.afters.items)) is.from.way
      (is.is.takes leads)

  pub both_hand : IsHandOf s.flat.objects turn.numbers.items (cells_at shared.words turn.spots.items)
  both_hand = hand_at_spots shared.words s.flat.objects turn.numbers.items turn.spots.items is.is.once is.from.there

  pub both_as_many : length turn.afters.items ≡ length turn.numbers.items
  both_as_many = sym (length_of_map (cell_in shared.words) turn.afters.items)
      ∙ turn_keeps_cell_count s.flat.code turn.numbers.items refused (slice_index_or shared.threads turn.from idle_beside)
      (slice_index_or shared.threads turn.to idle_beside) (cells_at shared.words turn.spots.items) (cells_at shared.words turn.afters.items) takes
      ∙ length-hand s.flat.objects turn.numbers.items (cells_at shared.words turn.spots.items) both_hand

  goes : (u : SourcedFlat) × IsLoneTurn s t refused u after_turn
  goes = lone_turn_if_takes_turn s t turn.numbers.items refused (slice_index_or shared.threads turn.from idle_beside)
      (slice_index_or shared.threads turn.to idle_beside) (cells_at shared.words turn.spots.items) (cells_at shared.words turn.afters.items)
      sourced less is.is.some both_hand (sym is.from.here) takes

  -- the numbers after the first of its objects, and then all of them, are put
  pub both_state : (node : Node) (objects : List Spot) (first : Spot)
      → sourced_in shared node ≡ with_turn s t (slice_index_or shared.threads turn.to idle_beside) (get_or turn.numbers.items 0 0) (cell_in shared.words first)
      → objects ≡ with_items node.objects turn.numbers.items turn.afters.items
      → sourced_in shared (record node { objects = objects }) ≡ after_turn
  both_state node objects first made put =
      let numbers = turn.numbers.items in
      let afters = turn.afters.items in
      let o = get_or numbers 0 0 in
      let cells : cells_at shared.words objects ≡ with_items s.flat.objects numbers (cells_at shared.words afters) =
      ap (cells_at shared.words) put ∙ map_of_with_items (cell_in shared.words) node.objects numbers afters
      ∙ ap (λ (z : SourcedFlat). with_items z.flat.objects numbers (cells_at shared.words afters)) made
      ∙ with_items_over_set s.flat.objects numbers (cells_at shared.words afters) 0 (cell_in shared.words first) is.is.once is.is.some
      (length_of_map (cell_in shared.words) afters ∙ both_as_many) in λ i. record {
        flat = record {
          code = ap (λ (z : SourcedFlat). z.flat.code) made i;
          threads = ap (λ (z : SourcedFlat). z.flat.threads) made i;
          objects = cells i;
        };
        sources = ap (λ (z : SourcedFlat). z.sources) made i;
      }

  -- the object that the thread enters or tries to
  pub both_first : get_or turn.numbers.items 0 0 < length s.flat.objects
  both_first = number_at_place_satisfies (λ o. o < length s.flat.objects) turn.numbers.items 0 both_hand.within is.is.some

  -- where that object is after the turn
  pub both_spot : (d : Spot) → (get_or turn.afters.items 0 d).words < length shared.words
  both_spot d =
      let a = is.is.some in let b = both_as_many in
      get_or_satisfies (λ (x : Spot). x.words < length shared.words) turn.afters.items 0 d is.is.afters (omega (arith, a, b))

  -- a node that was made of this one by the first object
  pub both_made : (made node : Node) (o : ℕ) (first : Spot) → node ≡ made
      → sourced_in shared made ≡ with_turn s t (slice_index_or shared.threads turn.to idle_beside) o (cell_in shared.words first)
      → o ≡ get_or turn.numbers.items 0 0
      → sourced_in shared node ≡ with_turn s t (slice_index_or shared.threads turn.to idle_beside) (get_or turn.numbers.items 0 0) (cell_in shared.words first)
  both_made made node o first same state number =
      ap (sourced_in shared) same ∙ state
      ∙ ap (λ p. with_turn s t (slice_index_or shared.threads turn.to idle_beside) p (cell_in shared.words first)) number

  -- all of its objects are among those of a state that it has made of this one
  pub both_within : (node : Node) (first : Spot)
      → sourced_in shared node ≡ with_turn s t (slice_index_or shared.threads turn.to idle_beside) (get_or turn.numbers.items 0 0) (cell_in shared.words first)
      → AllByRecursion (λ o. o < length node.objects) turn.numbers.items
  both_within node first made =
      let many : length node.objects ≡ length s.flat.objects =
      sym (length_of_map (cell_in shared.words) node.objects) ∙ ap (λ (z : SourcedFlat). length z.flat.objects) made
      ∙ length-set s.flat.objects (get_or turn.numbers.items 0 0) (cell_in shared.words first) in
      subst (λ n. AllByRecursion (λ o. o < n) turn.numbers.items) (sym many) both_hand.within

  step : TakesStep s goes.0 t (result_by refused)
  step = let e = goes.1.enters in record {
    can = e.can;
    is = e.is;
    code = e.code;
    threads = e.threads;
    objects = e.objects;
    sources = e.sources;
  }

  pub both_sourced : IsSourced after_turn
  both_sourced = goes.1.goes.state

  pub both_node : (node : Node) (objects : List Spot) (first : Spot) → IsWithin shared node
      → sourced_in shared node ≡ with_turn s t (slice_index_or shared.threads turn.to idle_beside) (get_or turn.numbers.items 0 0) (cell_in shared.words first)
      → objects ≡ with_items node.objects turn.numbers.items turn.afters.items
      → IsNode shared (record node { objects = objects })
  both_node node objects first within made put = record {
    within = record {
      threads = within.threads;
      words = subst (HaveWords shared.words) (sym put)
          (all_of_with_items (λ (x : Spot). x.words < length shared.words) node.objects turn.numbers.items turn.afters.items within.words is.is.afters);
    };
    sourced = subst IsSourced (sym (both_state node objects first made put)) both_sourced;
  }

  pub both_like : (p : ℕ) (k : SourcedFlat) → slice_get states p ≡ Some k → LooksAlike after_turn.flat k.flat
  both_like = reached_like states s goes.0 after_turn t (result_by refused) v nodes at less step goes.1.goes.goes

  pub both_rests : AllRest after_turn.flat
  both_rests = reached_rests states s goes.0 after_turn t (result_by refused) v nodes at less step goes.1.goes.goes goes.1.goes.others goes.1.rests

  pub both_reached : (x : Setup) → IsReached x s → IsReached x after_turn
  both_reached x reached =
      reached_after_step x s goes.0 after_turn t (result_by refused) reached (nodes.rest v s at t less) step goes.1.goes.goes

  both_may : MayGo refused (ask_of s.flat.code (thread_of s.flat t))
  both_may = subst (λ z. MayGo refused (ask_of s.flat.code z.0)) is.from.here
      (turn_ask_may_go (get_or turn.numbers.items 0 0) refused (get_or (cells_at shared.words turn.spots.items) 0 empty).fields
      (ask_of s.flat.code (slice_index_or shared.threads turn.from idle_beside).0) takes.begins)

  pub both_leads : (new : List SourcedFlat) (p : ℕ) → NodesStay states new → ((k : SourcedFlat) → slice_get new p ≡ Some k → LookAlike after_turn k)
      → LeadsFrom new t refused v (Some p)
  both_leads = leads_to_alike_node states s goes.0 after_turn t refused v nodes at less both_may step goes.1.goes.goes

  pub both_lead_tickless : (new : List SourcedFlat) (p : ℕ) → NodesStay states new → ((k : SourcedFlat) → slice_get new p ≡ Some k → LookAlike after_turn k)
      → HaveNoTicks after_turn.sources → LeadsTickless new t refused v p
  both_lead_tickless = leads_tickless states s goes.0 after_turn t refused v nodes at less both_may step goes.1.goes.goes
