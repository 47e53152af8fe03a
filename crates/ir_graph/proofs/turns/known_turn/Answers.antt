use Rattle.std.proofs.Common.{ap, ◌∙◌, subst, get_or}
use Rattle.ir_state_store.specs.Table.{idle_beside}
use Rattle.ir_graph.specs.Hand.{AllPairs, IsAtSpot}
use Rattle.ir_graph.proofs.KnownTurns.{bools_equal}
use Rattle.ir_graph.proofs.turns.known_turn.Goals as goal

pub returns : goal.returns
returns c =
    let turn = c.turn-turn.result.now in
    let words = c.args.flats.now.shared.words in (
      turn,
      c.turn-turn.ensures,
      λ s at. record {
        way = bools_equal turn.refused c.args.way.refused c.if-turn-way.false;
        here = ap (λ n. get_or c.args.flats.now.shared.threads n idle_beside) c.if-turn-from.false ∙ c.thread_number-from.ensures.thread s at;
        there = subst (λ n. AllPairs (IsAtSpot words s.flat.objects) n turn.spots.items) c.as_slice-2.ensures.value
            (subst (AllPairs (IsAtSpot words s.flat.objects) c.as_slice-2.result.now) c.as_slice-3.ensures.value
            (c.stand.ensures c.if-not-stand.false s at));
      },
    )
