use Rattle.std.proofs.Common.{◌≡◌, Some, inl, length, sym, ap, ◌∙◌, subst}
use Rattle.std.specs.Prelude.{slice_get, IfOk}
use Rattle.ir_lemmas.proofs.CallerLemmas.{element_below_length}
use Rattle.ir_search.specs.declared.stop.Stop.{Stop}
use Rattle.ir_graph.specs.Setup.{Setup}
use Rattle.ir_graph.specs.Ahead.{IsTurnOf}
use Rattle.ir_graph.specs.Kept.{IsSuccessor, NodesKept}
use Rattle.ir_graph.specs.Reached.{AllReached}
use Rattle.ir_graph.specs.Stops.{MayStop}
use Rattle.ir_graph.specs.Nodes.{AreNodes}
use Rattle.ir_graph.proofs.Both.{waiting_leads_nowhere}
use Rattle.ir_graph.proofs.Kept.{nodes_kept_unchanged}
use Rattle.ir_graph.proofs.KnownTurns.{known_turn_of_node, known_turn_in_table, turns_grown, if_err_weaker}
use Rattle.ir_graph.proofs.nodes.successor.Goals as goal

pub returns-in_err-i-clause-kept : goal.returns-in_err-i-clause-kept
returns-in_err-i-clause-kept c = nodes_kept_unchanged c.args.bounds.nodes _ _ _ c.requires.nodes c.requires.room (sym c.turn_of.ensures.items)

pub turn-turn-requires : goal.turn-turn-requires
turn-turn-requires c =
    let new = c.turn_of.new.flats in
    known_turn_in_table c.args.code.now new.shared new.items c.turn_of.new.ahead c.args.way.node c.args.way.thread c.args.way.refused _ c.in-Some.i c.in-Some.is
    c.in_ok-i.ensures.turn

pub returns-then-turn-clause-kept : goal.returns-then-turn-clause-kept
returns-then-turn-clause-kept c = nodes_kept_unchanged c.args.bounds.nodes _ _ _ c.requires.nodes c.requires.room (sym c.turn_of.ensures.items)

pub returns-then-turn-clause-next : goal.returns-then-turn-clause-next
returns-then-turn-clause-next c =
    let new = c.turn_of.new.flats in
    let turn = c.turn-turn.result.now in
    let f = element_below_length c.args.flats.now.items c.args.way.node c.requires.way.node in
    let at = subst (λ z. slice_get z c.args.way.node ≡ Some f.0) (sym c.turn_of.ensures.items) f.1 in
    record {
      within = λ w e. absurd (cc e);
      added = inl (ap length c.turn_of.ensures.items);
      leads =
          waiting_leads_nowhere new.items new.shared f.0 c.args.way.thread c.args.way.refused c.args.way.node turn
          (subst AreNodes (sym c.turn_of.ensures.items) c.requires.nodes) at (c.requires.way.thread f.0 f.1) (c.thread_number-number.ensures.sourced f.0 f.1)
          (subst (λ z. IsTurnOf z new.shared f.0 c.args.way.thread c.args.way.refused turn) (sym (c.requires.code f.0 f.1))
          (known_turn_of_node c.args.code.now new.shared new.items c.turn_of.new.ahead c.args.way.node c.args.way.thread c.args.way.refused _ c.in-Some.i turn f.0
          c.in-Some.is c.in_ok-i.ensures.turn c.turn-turn.ensures at)) c.if-turn.true;
      tickless = λ w e. absurd (cc e);
    }

pub node_by-requires-clause-turn : goal.node_by-requires-clause-turn
node_by-requires-clause-turn c = λ f at.
    let new = c.turn_of.new.flats in
    let turn = c.turn-turn.result.now in
    let here = subst (λ z. slice_get z c.args.way.node ≡ Some f) c.turn_of.ensures.items at in
    subst (λ z. IsTurnOf z new.shared f c.args.way.thread c.args.way.refused turn) (sym (c.requires.code f here))
    (known_turn_of_node c.args.code.now new.shared new.items c.turn_of.new.ahead c.args.way.node c.args.way.thread c.args.way.refused _ c.in-Some.i turn f
    c.in-Some.is c.in_ok-i.ensures.turn c.turn-turn.ensures at)

pub node_by-requires-clause-code : goal.node_by-requires-clause-code
node_by-requires-clause-code c = λ f at.
    let here = subst (λ z. slice_get z c.args.way.node ≡ Some f) c.turn_of.ensures.items at in
    c.turn_of.ensures.store ∙ c.requires.store ∙ sym (c.requires.code f here)

pub node_by_steps-requires-clause-code : goal.node_by_steps-requires-clause-code
node_by_steps-requires-clause-code c = λ f at.
    let here = subst (λ z. slice_get z c.args.way.node ≡ Some f) c.turn_of.ensures.items at in
    c.turn_of.ensures.store ∙ c.requires.store ∙ sym (c.requires.code f here)

pub returns-in-Ok-clause-kept : goal.returns-in-Ok-clause-kept
returns-in-Ok-clause-kept c =
    subst (λ z. NodesKept c.args.bounds.nodes z c.node_by.new.flats.items c.args.timed.now c.node_by.new.timed) c.turn_of.ensures.items c.node_by.ensures.kept

pub returns-in-Ok-clause-next : goal.returns-in-Ok-clause-next
returns-in-Ok-clause-next c =
    subst (λ z. IsSuccessor z c.node_by.new.flats.items c.node_by.new.timed c.args.way (Some c.in-Ok.next)) c.turn_of.ensures.items c.in-Ok.ensures.next

pub returns-in-Err-clause-kept : goal.returns-in-Err-clause-kept
returns-in-Err-clause-kept c =
    subst (λ z. NodesKept c.args.bounds.nodes z c.node_by.new.flats.items c.args.timed.now c.node_by.new.timed) c.turn_of.ensures.items c.node_by.ensures.kept

pub returns-clause-turns : goal.returns-clause-turns
returns-clause-turns c =
    turns_grown c.args.code.now c.turn_of.new.flats.shared c.node_by_steps.new.flats.shared c.node_by_steps.ensures.grows c.turn_of.new.ahead
    c.turn_of.ensures.turns

pub returns-clause-kept : goal.returns-clause-kept
returns-clause-kept c =
    subst (λ z. NodesKept c.args.bounds.nodes z c.node_by_steps.new.flats.items c.args.timed.now c.node_by_steps.new.timed) c.turn_of.ensures.items c.node_by_steps.ensures.kept

pub returns-clause-next : goal.returns-clause-next
returns-clause-next c =
    subst (λ z. IfOk c.node_by_steps.result (λ next. IsSuccessor z c.node_by_steps.new.flats.items c.node_by_steps.new.timed c.args.way next))
    c.turn_of.ensures.items c.node_by_steps.ensures.next

pub returns-clause-stopped : goal.returns-clause-stopped
returns-clause-stopped c =
    let new = c.node_by_steps.new.flats.items in
    if_err_weaker (λ (stop : Stop). (x : Setup) → AllReached x c.turn_of.new.flats.items
    → MayStop x new c.args.bounds stop)
    (λ (stop : Stop). (x : Setup) → AllReached x c.args.flats.now.items → MayStop x new c.args.bounds stop)
    c.node_by_steps.result (λ stop may x all. may x (subst (AllReached x) (sym c.turn_of.ensures.items) all))
    c.node_by_steps.ensures.stopped
