use Rattle.std.proofs.Common.{◌≡◌, Some, sym, subst}
use Rattle.std.specs.Prelude.{slice_get}
use Rattle.ir_lemmas.proofs.CallerLemmas.{element_below_length}
use Rattle.ir_graph.proofs.KnownTurns.{turns_same_or_pushed, turn_of_found_node, listed_turn_is_turn, turns_grown}
use Rattle.ir_graph.proofs.turns.turn_of.Goals as goal

pub returns-in-Some-clause-turn : goal.returns-in-Some-clause-turn
returns-in-Some-clause-turn c =
    let known = c.in-Some.ensures in (
      known.0,
      known.1,
      λ f at. record {
        is = listed_turn_is_turn c.args.code.now c.args.flats.now.shared c.args.ahead.now c.in-Some.i known.0 c.requires.turns known.1;
        from = known.2 f at;
      },
    )

pub returns-in_err-turn-clause-turns : goal.returns-in_err-turn-clause-turns
returns-in_err-turn-clause-turns c =
    turns_grown c.args.code.now c.args.flats.now.shared c.new_turn.new.flats.shared c.new_turn.ensures.grows c.args.ahead.now c.requires.turns

pub returns-in_default-2-clause-turns : goal.returns-in_default-2-clause-turns
returns-in_default-2-clause-turns c =
    turns_grown c.args.code.now c.args.flats.now.shared c.new_turn.new.flats.shared c.new_turn.ensures.grows c.args.ahead.now c.requires.turns

pub returns-in_err-i-clause-turns : goal.returns-in_err-i-clause-turns
returns-in_err-i-clause-turns c =
    let new = c.new_turn.new.flats in
    let f = element_below_length c.args.flats.now.items c.args.way.node c.requires.node in
    let at = subst (λ z. slice_get z c.args.way.node ≡ Some f.0) (sym c.new_turn.ensures.items) f.1 in
    turns_same_or_pushed c.args.code.now new.shared c.args.ahead.now c.note.new.self c.in-Some-2.turn
    (turns_grown c.args.code.now c.args.flats.now.shared new.shared c.new_turn.ensures.grows c.args.ahead.now c.requires.turns)
    (turn_of_found_node c.args.code.now new.shared new.items c.args.way.node c.args.way.thread c.args.way.refused _ c.in-Some-2.turn f.0 c.in-Some-2.is
    c.in_ok-turn.ensures.turn at).is c.note.ensures.either

pub returns-clause-turns : goal.returns-clause-turns
returns-clause-turns c =
    let new = c.new_turn.new.flats in
    let f = element_below_length c.args.flats.now.items c.args.way.node c.requires.node in
    let at = subst (λ z. slice_get z c.args.way.node ≡ Some f.0) (sym c.new_turn.ensures.items) f.1 in
    turns_same_or_pushed c.args.code.now new.shared c.args.ahead.now c.note.new.self c.in-Some-2.turn
    (turns_grown c.args.code.now c.args.flats.now.shared new.shared c.new_turn.ensures.grows c.args.ahead.now c.requires.turns)
    (turn_of_found_node c.args.code.now new.shared new.items c.args.way.node c.args.way.thread c.args.way.refused _ c.in-Some-2.turn f.0 c.in-Some-2.is
    c.in_ok-turn.ensures.turn at).is c.note.ensures.either

pub returns-clause-turn : goal.returns-clause-turn
returns-clause-turn c =
    let new = c.new_turn.new.flats in (
      c.in-Some-2.turn,
      c.in_ok-i.ensures.found,
      λ f at. turn_of_found_node c.args.code.now new.shared new.items c.args.way.node c.args.way.thread c.args.way.refused _ c.in-Some-2.turn f c.in-Some-2.is
          c.in_ok-turn.ensures.turn at,
    )
