use Rattle.std.proofs.Common.{◌≡◌, ◌<◌, Some, List, inl, inr, length, sym, ap, ◌∙◌, subst, arith}
use Rattle.std.specs.List.{AllByRecursion}
use Rattle.std.specs.Vec as vec
use Rattle.std.proofs.lemmas.List.{get_or_read, with_items_is}
use Rattle.std.proofs.lemmas.Option.{same_Some}
use Rattle.ir_lemmas.proofs.CallerLemmas.{element_below_length, if_ok_of_implied}
use Rattle.ir_state_store.specs.declared.spot.Spot.{Spot}
use Rattle.ir_state_store.specs.Nodes.{IsWithin, Node, SourcedFlat, sourced_in}
use Rattle.ir_state_store.specs.Table.{HaveNoTicks}
use Rattle.ir_graph.specs.Hand.{with_items}
use Rattle.ir_graph.specs.Kept.{IsNodeFor, IsSuccessor}
use Rattle.ir_graph.specs.Nodes.{LookAlike, AllRest}
use Rattle.ir_graph.specs.Plain.{LooksAlike}
use Rattle.ir_graph.specs.Reached.{IsReached}
use Rattle.ir_graph.specs.Times.{LeadsTickless}
use Rattle.ir_graph.proofs.Both.{both_as_many, both_first, both_spot, both_made, both_within, both_state, both_node, both_like, both_rests, both_reached, both_leads, both_lead_tickless}
use Rattle.ir_graph.proofs.Hand.{length-with_items}
use Rattle.ir_graph.proofs.Times.{ticks_have_timed_run}
use Rattle.ir_graph.proofs.nodes.node_by.Goals as goal

pub index-requires : goal.index-requires
index-requires c =
    let flats = c.args.flats.now in
    let turn = c.args.turn.now in
    let f = element_below_length flats.items c.args.way.node c.requires.way.node in
    let is = c.requires.turn f.0 f.1 in
    omega (arith, is.is.some, turn.numbers.ok.0)

pub index-requires-2 : goal.index-requires-2
index-requires-2 c =
    let flats = c.args.flats.now in
    let turn = c.args.turn.now in
    let f = element_below_length flats.items c.args.way.node c.requires.way.node in
    let is = c.requires.turn f.0 f.1 in
    omega (
      arith,
      is.is.some,
      turn.afters.ok.0,
      both_as_many flats.items flats.shared f.0 c.args.way.thread c.args.way.refused c.args.way.node turn c.requires.nodes f.1 (c.requires.way.thread f.0 f.1)
          (c.thread_number.ensures.sourced f.0 f.1) is c.requires.leads,
    )

pub with_both-requires-clause-own : goal.with_both-requires-clause-own
with_both-requires-clause-own c = λ s at.
    let flats = c.args.flats.now in
    let turn = c.args.turn.now in
    let is = c.requires.turn s at in (
      c.requires.way.thread s at,
      subst (λ o. o < length s.flat.objects) (sym (get_or_read turn.numbers.items 0 c.index.result.now is.is.some c.index.ensures 0))
          (both_first flats.items flats.shared s c.args.way.thread c.args.way.refused c.args.way.node turn c.requires.nodes at (c.requires.way.thread s at)
          (c.thread_number.ensures.sourced s at) is c.requires.leads),
    )

pub with_both-requires-clause-thread : goal.with_both-requires-clause-thread
with_both-requires-clause-thread c =
    let flats = c.args.flats.now in
    let turn = c.args.turn.now in
    let f = element_below_length flats.items c.args.way.node c.requires.way.node in
    let is = c.requires.turn f.0 f.1 in
    is.is.to

pub with_both-requires-clause-spot : goal.with_both-requires-clause-spot
with_both-requires-clause-spot c =
    let flats = c.args.flats.now in
    let turn = c.args.turn.now in
    let f = element_below_length flats.items c.args.way.node c.requires.way.node in
    let is = c.requires.turn f.0 f.1 in
    subst (λ (x : Spot). x.words < length flats.shared.words) (sym c.index-2.ensures)
    (both_spot flats.items flats.shared f.0 c.args.way.thread c.args.way.refused c.args.way.node turn c.requires.nodes f.1 (c.requires.way.thread f.0 f.1)
    (c.thread_number.ensures.sourced f.0 f.1) is c.requires.leads c.index-2.result.now)

pub put_spots-requires-clause-each : goal.put_spots-requires-clause-each
put_spots-requires-clause-each c =
    let flats = c.args.flats.now in
    let turn = c.args.turn.now in
    let f = element_below_length flats.items c.args.way.node c.requires.way.node in
    let is = c.requires.turn f.0 f.1 in
    ap length c.as_slice-2.ensures.value ∙ both_as_many flats.items flats.shared f.0 c.args.way.thread c.args.way.refused c.args.way.node turn c.requires.nodes f.1 (c.requires.way.thread f.0 f.1)
    (c.thread_number.ensures.sourced f.0 f.1) is c.requires.leads
    ∙ ap length (sym c.as_slice.ensures.value)

pub put_spots-requires-clause-within : goal.put_spots-requires-clause-within
put_spots-requires-clause-within c =
    let flats = c.args.flats.now in
    let turn = c.args.turn.now in
    let f = element_below_length flats.items c.args.way.node c.requires.way.node in
    let is = c.requires.turn f.0 f.1 in
    let node : Node = record { code = c.new.inside.code.now; threads = c.new.inside.threads.items; objects = c.new.inside.objects.items } in
    let number = get_or_read turn.numbers.items 0 c.index.result.now is.is.some c.index.ensures 0 in
    let made = both_made flats.items flats.shared f.0 c.args.way.thread c.args.way.refused c.args.way.node turn c.requires.nodes f.1 (c.requires.way.thread f.0 f.1)
    (c.thread_number.ensures.sourced f.0 f.1) is c.requires.leads c.in_ok-new.new node c.index.result.now c.index-2.result.now c.new.view_is
    (c.in_ok-new.ensures.state f.0 f.1) number in
    subst (AllByRecursion (λ o. o < length c.as_mut_slice.result.now)) (sym c.as_slice.ensures.value)
    (subst (λ (l : List Spot). AllByRecursion (λ o. o < length l) turn.numbers.items) (sym c.as_mut_slice.ensures.value)
    (both_within flats.items flats.shared f.0 c.args.way.thread c.args.way.refused c.args.way.node turn c.requires.nodes f.1 (c.requires.way.thread f.0 f.1)
    (c.thread_number.ensures.sourced f.0 f.1) is c.requires.leads node c.index-2.result.now made))

pub node_of-requires-clause-state : goal.node_of-requires-clause-state
node_of-requires-clause-state c =
    let flats = c.args.flats.now in
    let turn = c.args.turn.now in
    let f = element_below_length flats.items c.args.way.node c.requires.way.node in
    let is = c.requires.turn f.0 f.1 in
    let node : Node = record { code = c.new.inside.code.now; threads = c.new.inside.threads.items; objects = c.new.inside.objects.items } in
    let number = get_or_read turn.numbers.items 0 c.index.result.now is.is.some c.index.ensures 0 in
    let made = both_made flats.items flats.shared f.0 c.args.way.thread c.args.way.refused c.args.way.node turn c.requires.nodes f.1 (c.requires.way.thread f.0 f.1)
    (c.thread_number.ensures.sourced f.0 f.1) is c.requires.leads c.in_ok-new.new node c.index.result.now c.index-2.result.now c.new.view_is
    (c.in_ok-new.ensures.state f.0 f.1) number in
    let spots = c.put_spots.new.objects in
    let objects = (vec.with_items c.new.inside.objects spots).items in
    let put : spots ≡ with_items node.objects turn.numbers.items turn.afters.items =
    c.put_spots.ensures ∙ (λ i. with_items (c.as_mut_slice.ensures.value i) (c.as_slice.ensures.value i) (c.as_slice-2.ensures.value i)) in
    let all : objects ≡ with_items node.objects turn.numbers.items turn.afters.items =
    with_items_is c.new.inside.objects spots
    (ap length put ∙ length-with_items node.objects turn.numbers.items turn.afters.items ∙ sym c.new.inside.objects.ok.0) ∙ put in
    let state = both_state flats.items flats.shared f.0 c.args.way.thread c.args.way.refused c.args.way.node turn c.requires.nodes f.1 (c.requires.way.thread f.0 f.1)
    (c.thread_number.ensures.sourced f.0 f.1) is c.requires.leads node objects c.index-2.result.now made all in
    record {
      is =
          both_node flats.items flats.shared f.0 c.args.way.thread c.args.way.refused c.args.way.node turn c.requires.nodes f.1 (c.requires.way.thread f.0 f.1)
          (c.thread_number.ensures.sourced f.0 f.1) is c.requires.leads node objects c.index-2.result.now
          (subst (IsWithin flats.shared) (sym c.new.view_is) c.in_ok-new.ensures.within) made all;
      code = c.requires.code f.0 f.1 ∙ sym (ap (λ (z : SourcedFlat). z.flat.code) made);
      like = λ u k there.
          subst (λ (z : SourcedFlat). LooksAlike z.flat k.flat) (sym state)
          (both_like flats.items flats.shared f.0 c.args.way.thread c.args.way.refused c.args.way.node turn c.requires.nodes f.1 (c.requires.way.thread f.0 f.1)
          (c.thread_number.ensures.sourced f.0 f.1) is c.requires.leads u k there);
      rest =
          subst (λ (z : SourcedFlat). AllRest z.flat) (sym state)
          (both_rests flats.items flats.shared f.0 c.args.way.thread c.args.way.refused c.args.way.node turn c.requires.nodes f.1 (c.requires.way.thread f.0 f.1)
          (c.thread_number.ensures.sourced f.0 f.1) is c.requires.leads);
    }

pub returns-clause-kept : goal.returns-clause-kept
returns-clause-kept c =
    let flats = c.args.flats.now in
    let turn = c.args.turn.now in
    let f = element_below_length flats.items c.args.way.node c.requires.way.node in
    let is = c.requires.turn f.0 f.1 in
    let node : Node = record { code = c.new.inside.code.now; threads = c.new.inside.threads.items; objects = c.new.inside.objects.items } in
    let number = get_or_read turn.numbers.items 0 c.index.result.now is.is.some c.index.ensures 0 in
    let made = both_made flats.items flats.shared f.0 c.args.way.thread c.args.way.refused c.args.way.node turn c.requires.nodes f.1 (c.requires.way.thread f.0 f.1)
    (c.thread_number.ensures.sourced f.0 f.1) is c.requires.leads c.in_ok-new.new node c.index.result.now c.index-2.result.now c.new.view_is
    (c.in_ok-new.ensures.state f.0 f.1) number in
    let spots = c.put_spots.new.objects in
    let objects = (vec.with_items c.new.inside.objects spots).items in
    let put : spots ≡ with_items node.objects turn.numbers.items turn.afters.items =
    c.put_spots.ensures ∙ (λ i. with_items (c.as_mut_slice.ensures.value i) (c.as_slice.ensures.value i) (c.as_slice-2.ensures.value i)) in
    let all : objects ≡ with_items node.objects turn.numbers.items turn.afters.items =
    with_items_is c.new.inside.objects spots
    (ap length put ∙ length-with_items node.objects turn.numbers.items turn.afters.items ∙ sym c.new.inside.objects.ok.0) ∙ put in
    let state = both_state flats.items flats.shared f.0 c.args.way.thread c.args.way.refused c.args.way.node turn c.requires.nodes f.1 (c.requires.way.thread f.0 f.1)
    (c.thread_number.ensures.sourced f.0 f.1) is c.requires.leads node objects c.index-2.result.now made all in
    let h = sourced_in flats.shared (record node { objects = objects }) in
    record {
      adds = c.node_of.ensures.adds;
      reached = λ x before.
          c.node_of.ensures.reached x before (subst (IsReached x) (sym state)
          (both_reached flats.items flats.shared f.0 c.args.way.thread c.args.way.refused c.args.way.node turn c.requires.nodes f.1 (c.requires.way.thread f.0 f.1)
          (c.thread_number.ensures.sourced f.0 f.1) is c.requires.leads x (before c.args.way.node f.0 f.1)));
      has = λ x before was new. elim (c.node_of.ensures.ticks new) [
        | inl old ↦ was old
        | inr ticks ↦ ticks_have_timed_run x h
            (subst (IsReached x) (sym state)
            (both_reached flats.items flats.shared f.0 c.args.way.thread c.args.way.refused c.args.way.node turn c.requires.nodes f.1 (c.requires.way.thread f.0 f.1)
            (c.thread_number.ensures.sourced f.0 f.1) is c.requires.leads x (before c.args.way.node f.0 f.1))) ticks
      ];
      were = λ none. (c.node_of.ensures.tickless none).0;
    }

pub returns-clause-next : goal.returns-clause-next
returns-clause-next c =
    let flats = c.args.flats.now in
    let turn = c.args.turn.now in
    let f = element_below_length flats.items c.args.way.node c.requires.way.node in
    let is = c.requires.turn f.0 f.1 in
    let node : Node = record { code = c.new.inside.code.now; threads = c.new.inside.threads.items; objects = c.new.inside.objects.items } in
    let number = get_or_read turn.numbers.items 0 c.index.result.now is.is.some c.index.ensures 0 in
    let made = both_made flats.items flats.shared f.0 c.args.way.thread c.args.way.refused c.args.way.node turn c.requires.nodes f.1 (c.requires.way.thread f.0 f.1)
    (c.thread_number.ensures.sourced f.0 f.1) is c.requires.leads c.in_ok-new.new node c.index.result.now c.index-2.result.now c.new.view_is
    (c.in_ok-new.ensures.state f.0 f.1) number in
    let spots = c.put_spots.new.objects in
    let objects = (vec.with_items c.new.inside.objects spots).items in
    let put : spots ≡ with_items node.objects turn.numbers.items turn.afters.items =
    c.put_spots.ensures ∙ (λ i. with_items (c.as_mut_slice.ensures.value i) (c.as_slice.ensures.value i) (c.as_slice-2.ensures.value i)) in
    let all : objects ≡ with_items node.objects turn.numbers.items turn.afters.items =
    with_items_is c.new.inside.objects spots
    (ap length put ∙ length-with_items node.objects turn.numbers.items turn.afters.items ∙ sym c.new.inside.objects.ok.0) ∙ put in
    let state = both_state flats.items flats.shared f.0 c.args.way.thread c.args.way.refused c.args.way.node turn c.requires.nodes f.1 (c.requires.way.thread f.0 f.1)
    (c.thread_number.ensures.sourced f.0 f.1) is c.requires.leads node objects c.index-2.result.now made all in
    let h = sourced_in flats.shared (record node { objects = objects }) in
    let new = c.node_of.new.flats.items in
    if_ok_of_implied (IsNodeFor flats.items new h) (λ w. IsSuccessor flats.items new c.node_of.new.timed c.args.way (Some w)) c.node_of.result
    (λ w gives. record {
      within = λ v e. subst (λ z. z < length new) (same_Some w v e) gives.within;
      added = elim gives.added [ inl same ↦ inl same | inr p ↦ inr (ap Some p.0, p.1) ];
      leads = both_leads flats.items flats.shared f.0 c.args.way.thread c.args.way.refused c.args.way.node turn c.requires.nodes f.1 (c.requires.way.thread f.0 f.1)
          (c.thread_number.ensures.sourced f.0 f.1) is c.requires.leads new w c.node_of.ensures.adds.stay
          (λ k at. subst (λ z. LookAlike z k) state (gives.alike k at));
      tickless = λ v e none. subst (LeadsTickless new c.args.way.thread c.args.way.refused c.args.way.node) (same_Some w v e)
          (both_lead_tickless flats.items flats.shared f.0 c.args.way.thread c.args.way.refused c.args.way.node turn c.requires.nodes f.1 (c.requires.way.thread f.0 f.1)
          (c.thread_number.ensures.sourced f.0 f.1) is c.requires.leads new w c.node_of.ensures.adds.stay
          (λ k at. subst (λ z. LookAlike z k) state (gives.alike k at))
          (subst (λ (z : SourcedFlat). HaveNoTicks z.sources) state (c.node_of.ensures.tickless none).1));
    }) c.node_of.ensures.gives
