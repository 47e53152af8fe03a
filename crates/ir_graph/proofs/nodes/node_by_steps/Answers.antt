use Rattle.std.proofs.Common.{◌≡◌, ◌⊎◌, ◌<◌, suc, Some, inl, inr, length, refl, sym, ap, ◌∙◌, subst}
use Rattle.std.specs.Prelude.{slice_get}
use Rattle.ir_runs.specs.Run.{Can}
use Rattle.ir_flat.specs.Flat.{machine, tables}
use Rattle.ir_state_store.specs.Nodes.{SourcedFlat}
use Rattle.ir_state_store.specs.Others.{HasOthersOf}
use Rattle.std.proofs.lemmas.Option.{same_Some}
use Rattle.ir_state_store.specs.Table.{HaveForm, HaveTicks, HaveNoTicks}
use Rattle.ir_graph.specs.Times.{LeadsTickless}
use Rattle.ir_graph.proofs.Times.{ticks_have_timed_run}
use Rattle.ir_graph.specs.Kept.{NodesAdded}
use Rattle.ir_graph.specs.Nodes.{LookAlike, AllRest, NodesStay}
use Rattle.ir_graph.specs.Plain.{sourced_flat, LooksAlike, MayGo}
use Rattle.ir_graph.specs.Reached.{IsReached, AllReached}
use Rattle.ir_graph.proofs.Reached.{reached_after_step}
use Rattle.ir_graph.proofs.Stops.{stop_after_entry, may_stop_by_thread_stop}
use Rattle.ir_graph.proofs.Found.{no_step_leads_nowhere, reached_like, reached_each, reached_others, reached_thread, reached_rests, leads_to_alike_node, leads_tickless}
use Rattle.ir_graph.proofs.Forms.{like_moment_form}
use Rattle.ir_graph.proofs.Kept.{nodes_kept_unchanged}
use Rattle.ir_graph.proofs.Plain.{TakesStep, rest_takes_step, like_transitive, step_flat_is_like, plain_flat_is_like}
use Rattle.ir_graph.proofs.nodes.node_by_steps.Goals as goal

pub run_to_rest-requires-clause-source : goal.run_to_rest-requires-clause-source
run_to_rest-requires-clause-source c =
    let s = sourced_flat c.state.inside.flat c.state.inside.sources.items in
    let at = subst (λ z. slice_get c.args.flats.now.items c.args.way.node ≡ Some z) (sym c.state.view_is) c.in_ok-state.ensures.found in
    subst (λ n. c.args.way.thread < n) (sym (c.requires.nodes.each c.args.way.node s at)) (c.requires.way.thread s at)

pub by_number_of-requires-clause-sourced : goal.by_number_of-requires-clause-sourced
by_number_of-requires-clause-sourced c =
    let f = c.state.inside.flat in
    let g = c.take.new.self in
    let sources = c.state.inside.sources.items in
    let s = sourced_flat f sources in
    let u = sourced_flat g sources in
    let t = c.args.way.thread in
    let at = subst (λ z. slice_get c.args.flats.now.items c.args.way.node ≡ Some z) (sym c.state.view_is) c.in_ok-state.ensures.found in
    let less = c.requires.way.thread s at in
    let rests = c.requires.nodes.rest c.args.way.node s at t less in
    let one = c.in_default-take.ensures in
    let step : TakesStep (sourced_flat c.state.inside.flat c.state.inside.sources.items) (sourced_flat c.take.new.self c.state.inside.sources.items)
    c.args.way.thread c.in-Some.answer =
    rest_takes_step f g sources t c.in-Some.answer rests one.admitted one.taken one.code one.threads one.objects in
    let w = c.run_to_rest.new.state in
    let goes = c.run_to_rest.ensures.goes in
    record {
      flat = c.run_to_rest.ensures.flat;
      each = reached_each c.args.flats.now.items s u w t c.in-Some.answer c.args.way.node c.requires.nodes at less step goes;
    }

pub by_number_of-requires-clause-form : goal.by_number_of-requires-clause-form
by_number_of-requires-clause-form c =
    let f = c.state.inside.flat in
    let g = c.take.new.self in
    let sources = c.state.inside.sources.items in
    let s = sourced_flat f sources in
    let u = sourced_flat g sources in
    let t = c.args.way.thread in
    let at = subst (λ z. slice_get c.args.flats.now.items c.args.way.node ≡ Some z) (sym c.state.view_is) c.in_ok-state.ensures.found in
    let less = c.requires.way.thread s at in
    let rests = c.requires.nodes.rest c.args.way.node s at t less in
    let one = c.in_default-take.ensures in
    let step : TakesStep (sourced_flat c.state.inside.flat c.state.inside.sources.items) (sourced_flat c.take.new.self c.state.inside.sources.items)
    c.args.way.thread c.in-Some.answer =
    rest_takes_step f g sources t c.in-Some.answer rests one.admitted one.taken one.code one.threads one.objects in
    let w = c.run_to_rest.new.state in
    let goes = c.run_to_rest.ensures.goes in
    let form = subst (λ (z : SourcedFlat). HaveForm c.args.flats.now.form z.flat.threads) (sym c.state.view_is) c.in_ok-state.ensures.form in
    like_moment_form c.args.flats.now.form f w.flat
    (like_transitive f g w.flat (step_flat_is_like s u t c.in-Some.answer step) (plain_flat_is_like u w goes)) form

pub by_number_of-requires-clause-thread : goal.by_number_of-requires-clause-thread
by_number_of-requires-clause-thread c =
    let f = c.state.inside.flat in
    let g = c.take.new.self in
    let sources = c.state.inside.sources.items in
    let s = sourced_flat f sources in
    let u = sourced_flat g sources in
    let t = c.args.way.thread in
    let at = subst (λ z. slice_get c.args.flats.now.items c.args.way.node ≡ Some z) (sym c.state.view_is) c.in_ok-state.ensures.found in
    let less = c.requires.way.thread s at in
    let rests = c.requires.nodes.rest c.args.way.node s at t less in
    let one = c.in_default-take.ensures in
    let step : TakesStep (sourced_flat c.state.inside.flat c.state.inside.sources.items) (sourced_flat c.take.new.self c.state.inside.sources.items)
    c.args.way.thread c.in-Some.answer =
    rest_takes_step f g sources t c.in-Some.answer rests one.admitted one.taken one.code one.threads one.objects in
    let w = c.run_to_rest.new.state in
    let goes = c.run_to_rest.ensures.goes in
    reached_thread c.args.flats.now.items s u w t c.in-Some.answer c.args.way.node c.requires.nodes at less step goes

pub by_number_of-requires-clause-others : goal.by_number_of-requires-clause-others
by_number_of-requires-clause-others c = λ k is.
    let f = c.state.inside.flat in
    let g = c.take.new.self in
    let sources = c.state.inside.sources.items in
    let s = sourced_flat f sources in
    let u = sourced_flat g sources in
    let t = c.args.way.thread in
    let at = subst (λ z. slice_get c.args.flats.now.items c.args.way.node ≡ Some z) (sym c.state.view_is) c.in_ok-state.ensures.found in
    let less = c.requires.way.thread s at in
    let rests = c.requires.nodes.rest c.args.way.node s at t less in
    let one = c.in_default-take.ensures in
    let step : TakesStep (sourced_flat c.state.inside.flat c.state.inside.sources.items) (sourced_flat c.take.new.self c.state.inside.sources.items)
    c.args.way.thread c.in-Some.answer =
    rest_takes_step f g sources t c.in-Some.answer rests one.admitted one.taken one.code one.threads one.objects in
    let w = c.run_to_rest.new.state in
    let goes = c.run_to_rest.ensures.goes in
    subst (λ z. HasOthersOf z w t) (same_Some s k (sym at ∙ is))
    (reached_others c.args.flats.now.items s u w t c.in-Some.answer c.args.way.node c.requires.nodes at less step goes c.run_to_rest.ensures.others)

pub returns-in-Err-clause-next : goal.returns-in-Err-clause-next
returns-in-Err-clause-next c =
    let f = c.state.inside.flat in
    let s = sourced_flat f c.state.inside.sources.items in
    let t = c.args.way.thread in
    let at = subst (λ z. slice_get c.args.flats.now.items c.args.way.node ≡ Some z) (sym c.state.view_is) c.in_ok-state.ensures.found in
    let less = c.requires.way.thread s at in record {
      within = λ w e. absurd (cc e);
      added = inl refl;
      leads =
          no_step_leads_nowhere c.args.flats.now.items s t c.args.way.refused c.args.way.node c.requires.nodes at less
          (subst (λ r. Can (machine f) (tables f) (t, r) → ⊥) c.in-Some.ensures.result c.in-Err.ensures.refused);
      tickless = λ w e. absurd (cc e);
    }

pub node_of-requires-clause-state : goal.node_of-requires-clause-state
node_of-requires-clause-state c =
    let f = c.state.inside.flat in
    let g = c.take.new.self in
    let sources = c.state.inside.sources.items in
    let s = sourced_flat f sources in
    let u = sourced_flat g sources in
    let t = c.args.way.thread in
    let at = subst (λ z. slice_get c.args.flats.now.items c.args.way.node ≡ Some z) (sym c.state.view_is) c.in_ok-state.ensures.found in
    let less = c.requires.way.thread s at in
    let rests = c.requires.nodes.rest c.args.way.node s at t less in
    let one = c.in_default-take.ensures in
    let step : TakesStep (sourced_flat c.state.inside.flat c.state.inside.sources.items) (sourced_flat c.take.new.self c.state.inside.sources.items)
    c.args.way.thread c.in-Some.answer =
    rest_takes_step f g sources t c.in-Some.answer rests one.admitted one.taken one.code one.threads one.objects in
    let w = c.run_to_rest.new.state in
    let goes = c.run_to_rest.ensures.goes in
    let same : w.flat.code ≡ s.flat.code = c.run_to_rest.ensures.goes.code ∙ c.in_default-take.ensures.code in
    record {
      is = c.in_ok-new.ensures.node;
      code = c.by_number_of.ensures.code ∙ c.requires.code s at ∙ sym same ∙ sym (ap (λ (z : SourcedFlat). z.flat.code) c.in_ok-new.ensures.state);
      like = λ v k is.
          subst (λ (z : SourcedFlat). LooksAlike z.flat k.flat) (sym c.in_ok-new.ensures.state)
          (reached_like c.args.flats.now.items s u w t c.in-Some.answer c.args.way.node c.requires.nodes at less step goes v k
          (subst (λ z. slice_get z v ≡ Some k) c.by_number_of.ensures.items is));
      rest =
          subst (λ (z : SourcedFlat). AllRest z.flat) (sym c.in_ok-new.ensures.state)
          (reached_rests c.args.flats.now.items s u w t c.in-Some.answer c.args.way.node c.requires.nodes at less step goes c.run_to_rest.ensures.others
          c.in_default-run_to_rest.ensures.rests);
    }

pub returns-in-Ok-clause-next : goal.returns-in-Ok-clause-next
returns-in-Ok-clause-next c =
    let f = c.state.inside.flat in
    let g = c.take.new.self in
    let sources = c.state.inside.sources.items in
    let s = sourced_flat f sources in
    let u = sourced_flat g sources in
    let t = c.args.way.thread in
    let at = subst (λ z. slice_get c.args.flats.now.items c.args.way.node ≡ Some z) (sym c.state.view_is) c.in_ok-state.ensures.found in
    let less = c.requires.way.thread s at in
    let rests = c.requires.nodes.rest c.args.way.node s at t less in
    let one = c.in_default-take.ensures in
    let step : TakesStep (sourced_flat c.state.inside.flat c.state.inside.sources.items) (sourced_flat c.take.new.self c.state.inside.sources.items)
    c.args.way.thread c.in-Some.answer =
    rest_takes_step f g sources t c.in-Some.answer rests one.admitted one.taken one.code one.threads one.objects in
    let w = c.run_to_rest.new.state in
    let goes = c.run_to_rest.ensures.goes in
    let r = c.in-Some.ensures.result in
    let may = subst (MayGo c.args.way.refused) c.ask-asked.ensures.value c.in-Some.ensures.has in
    let gives = c.in-Ok.ensures.gives in
    let new = c.node_of.new.flats.items in
    let items = c.by_number_of.ensures.items in
    record {
      within = λ v e. subst (λ z. z < length new) (same_Some c.in-Ok.next v e) gives.within;
      added = subst (λ z. (length new ≡ length z) ⊎ ((Some c.in-Ok.next ≡ Some (length z)) × (length new ≡ suc (length z)))) items
          (elim gives.added [ inl same ↦ inl same | inr p ↦ inr (ap Some p.0, p.1) ]);
      leads =
          leads_to_alike_node c.args.flats.now.items s u w t c.args.way.refused c.args.way.node c.requires.nodes at less may
          (subst (TakesStep (sourced_flat c.state.inside.flat c.state.inside.sources.items) (sourced_flat c.take.new.self c.state.inside.sources.items)
          c.args.way.thread) r step) goes c.node_of.new.flats.items c.in-Ok.next
          (subst (λ z. NodesStay z c.node_of.new.flats.items) c.by_number_of.ensures.items c.node_of.ensures.adds.stay)
          (λ k is. subst (λ z. LookAlike z k) c.in_ok-new.ensures.state (c.in-Ok.ensures.gives.alike k is));
      tickless = λ p is none.
          subst (LeadsTickless c.node_of.new.flats.items t c.args.way.refused c.args.way.node) (same_Some c.in-Ok.next p is)
          (leads_tickless c.args.flats.now.items s u w t c.args.way.refused c.args.way.node c.requires.nodes at less may
          (subst (TakesStep (sourced_flat c.state.inside.flat c.state.inside.sources.items) (sourced_flat c.take.new.self c.state.inside.sources.items)
          c.args.way.thread) r step) goes c.node_of.new.flats.items c.in-Ok.next
          (subst (λ z. NodesStay z c.node_of.new.flats.items) c.by_number_of.ensures.items c.node_of.ensures.adds.stay)
          (λ k is. subst (λ z. LookAlike z k) c.in_ok-new.ensures.state (c.in-Ok.ensures.gives.alike k is))
          (subst (λ (z : SourcedFlat). HaveNoTicks z.sources) c.in_ok-new.ensures.state (c.node_of.ensures.tickless none).1));
    }

pub returns-in-Ok-clause-kept : goal.returns-in-Ok-clause-kept
returns-in-Ok-clause-kept c =
    let f = c.state.inside.flat in
    let g = c.take.new.self in
    let sources = c.state.inside.sources.items in
    let s = sourced_flat f sources in
    let u = sourced_flat g sources in
    let t = c.args.way.thread in
    let at = subst (λ z. slice_get c.args.flats.now.items c.args.way.node ≡ Some z) (sym c.state.view_is) c.in_ok-state.ensures.found in
    let less = c.requires.way.thread s at in
    let rests = c.requires.nodes.rest c.args.way.node s at t less in
    let one = c.in_default-take.ensures in
    let step : TakesStep (sourced_flat c.state.inside.flat c.state.inside.sources.items) (sourced_flat c.take.new.self c.state.inside.sources.items)
    c.args.way.thread c.in-Some.answer =
    rest_takes_step f g sources t c.in-Some.answer rests one.admitted one.taken one.code one.threads one.objects in
    let w = c.run_to_rest.new.state in
    let goes = c.run_to_rest.ensures.goes in
    record {
      adds = subst (λ z. NodesAdded c.args.bounds.nodes z c.node_of.new.flats.items) c.by_number_of.ensures.items c.node_of.ensures.adds;
      reached = λ x all.
          c.node_of.ensures.reached x (subst (AllReached x) (sym c.by_number_of.ensures.items) all)
          (subst (IsReached x) (sym c.in_ok-new.ensures.state)
          (reached_after_step x s u w t c.in-Some.answer (all c.args.way.node s at) rests step goes));
      has = λ x all was new. elim (c.node_of.ensures.ticks new) [
        | inl old ↦ was old
        | inr ticks ↦ ticks_have_timed_run x w (reached_after_step x s u w t c.in-Some.answer (all c.args.way.node s at) rests step goes)
            (subst (λ (z : SourcedFlat). HaveTicks z.sources) c.in_ok-new.ensures.state ticks)
      ];
      were = λ none. (c.node_of.ensures.tickless none).0;
    }

pub returns-clause-kept : goal.returns-clause-kept
returns-clause-kept c =
    let f = c.state.inside.flat in
    let g = c.take.new.self in
    let sources = c.state.inside.sources.items in
    let s = sourced_flat f sources in
    let u = sourced_flat g sources in
    let t = c.args.way.thread in
    let at = subst (λ z. slice_get c.args.flats.now.items c.args.way.node ≡ Some z) (sym c.state.view_is) c.in_ok-state.ensures.found in
    let less = c.requires.way.thread s at in
    let rests = c.requires.nodes.rest c.args.way.node s at t less in
    let one = c.in_default-take.ensures in
    let step : TakesStep (sourced_flat c.state.inside.flat c.state.inside.sources.items) (sourced_flat c.take.new.self c.state.inside.sources.items)
    c.args.way.thread c.in-Some.answer =
    rest_takes_step f g sources t c.in-Some.answer rests one.admitted one.taken one.code one.threads one.objects in
    let w = c.run_to_rest.new.state in
    let goes = c.run_to_rest.ensures.goes in
    record {
      adds = subst (λ z. NodesAdded c.args.bounds.nodes z c.node_of.new.flats.items) c.by_number_of.ensures.items c.node_of.ensures.adds;
      reached = λ x all.
          c.node_of.ensures.reached x (subst (AllReached x) (sym c.by_number_of.ensures.items) all)
          (subst (IsReached x) (sym c.in_ok-new.ensures.state)
          (reached_after_step x s u w t c.in-Some.answer (all c.args.way.node s at) rests step goes));
      has = λ x all was new. elim (c.node_of.ensures.ticks new) [
        | inl old ↦ was old
        | inr ticks ↦ ticks_have_timed_run x w (reached_after_step x s u w t c.in-Some.answer (all c.args.way.node s at) rests step goes)
            (subst (λ (z : SourcedFlat). HaveTicks z.sources) c.in_ok-new.ensures.state ticks)
      ];
      were = λ none. (c.node_of.ensures.tickless none).0;
    }

pub returns-in-Err-run_to_rest-clause-stopped : goal.returns-in-Err-run_to_rest-clause-stopped
returns-in-Err-run_to_rest-clause-stopped c = λ x all.
    let f = c.state.inside.flat in
    let g = c.take.new.self in
    let sources = c.state.inside.sources.items in
    let s = sourced_flat f sources in
    let u = sourced_flat g sources in
    let t = c.args.way.thread in
    let at = subst (λ z. slice_get c.args.flats.now.items c.args.way.node ≡ Some z) (sym c.state.view_is) c.in_ok-state.ensures.found in
    let less = c.requires.way.thread s at in
    let rests = c.requires.nodes.rest c.args.way.node s at t less in
    let one = c.in_default-take.ensures in
    let step : TakesStep (sourced_flat c.state.inside.flat c.state.inside.sources.items) (sourced_flat c.take.new.self c.state.inside.sources.items)
    c.args.way.thread c.in-Some.answer =
    rest_takes_step f g sources t c.in-Some.answer rests one.admitted one.taken one.code one.threads one.objects in
    let w = c.run_to_rest.new.state in
    let goes = c.run_to_rest.ensures.goes in
    may_stop_by_thread_stop x c.args.flats.now.items c.args.bounds c.in-Err-run_to_rest.stop
    (stop_after_entry x c.args.bounds.private c.in-Err-run_to_rest.stop s u w t c.in-Some.answer (all c.args.way.node s at) rests step goes
    c.in-Err-run_to_rest.ensures.stopped)

pub returns-in_err-new-clause-kept : goal.returns-in_err-new-clause-kept
returns-in_err-new-clause-kept c = nodes_kept_unchanged c.args.bounds.nodes _ _ _ c.requires.nodes c.requires.room (sym c.by_number_of.ensures.items)
