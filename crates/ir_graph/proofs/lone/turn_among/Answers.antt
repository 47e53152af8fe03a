use Rattle.std.proofs.Common.{◌<◌, length, get_or, sym, ap, ◌∙◌, subst, arith}
use Rattle.std.proofs.lemmas.List.{get_or_default}
use Rattle.ir_object.specs.Cell.{Cell}
use Rattle.ir_object.specs.Empty.{empty}
use Rattle.ir_world.specs.Sources.{Source}
use Rattle.ir_thread.specs.State.{ThreadState, after_ask}
use Rattle.ir_graph.specs.Lone.{AreAmong, MayBegin, MayTake, TakesTurn, answer_from, cell_after}
use Rattle.ir_graph.proofs.LoneSteps.{among_after_turn, beside_cell_at_place, among_cell_count, turn_may_take_ask, takes_turn_then_runs}
use Rattle.ir_graph.proofs.lone.turn_among.Goals as goal

pub take_beside-took-requires-clause-asked : goal.take_beside-took-requires-clause-asked
take_beside-took-requires-clause-asked c = sym c.in-Some.ensures.asks

pub take_beside-took-requires-clause-may : goal.take_beside-took-requires-clause-may
take_beside-took-requires-clause-may c =
    let code = c.args.code.now in
    let numbers = c.args.numbers.now in
    let cells = c.args.objects.now in
    let b = subst (λ (z : ThreadState × Source). AreAmong code numbers z.0 cells) (sym c.own.view_is) c.requires.among in
    let few : 0 < length cells = (let a = among_cell_count code numbers c.own.inside.thread cells b in let d = c.requires.some in omega (arith, a, d)) in
    subst (λ (k : Cell). MayTake c.args.refused k c.in-Some.asked) (get_or_default cells 0 empty c.index-objects-0-2.result few)
    (turn_may_take_ask code (get_or numbers 0 0) c.args.refused c.own.inside.thread (get_or cells 0 empty) c.in-Some.asked
    (beside_cell_at_place code numbers c.own.inside.thread cells 0 b c.requires.some)
    (subst (λ (k : Cell). MayBegin c.args.refused (get_or numbers 0 0) k.fields c.in-Some.asked)
    (get_or_default cells 0 c.index-objects-0.result empty few) c.in-Some.ensures.begins))

pub go_among-requires-clause-among : goal.go_among-requires-clause-among
go_among-requires-clause-among c =
    let took = c.if-not-took.false in
    let code = c.args.code.now in
    let refused = c.args.refused in
    let asked = c.in-Some.asked in
    let numbers = c.args.numbers.now in
    let cells = c.args.objects.now in
    let x : ThreadState × Source = (c.own.inside.thread, c.own.inside.source) in
    let b = subst (λ (z : ThreadState × Source). AreAmong code numbers z.0 cells) (sym c.own.view_is) c.requires.among in
    let few : 0 < length cells = (let a = among_cell_count code numbers x.0 cells b in let d = c.requires.some in omega (arith, a, d)) in
    let same = get_or_default cells 0 c.index-objects-0-2.result empty few in
    among_after_turn code numbers refused x.0 c.take_beside-took.new.thread x.1 cells c.take_beside-took.new.object asked b c.requires.some
    c.in-Some.ensures.asks
    (subst (λ (k : Cell). MayBegin refused (get_or numbers 0 0) k.fields asked) (get_or_default cells 0 c.index-objects-0.result empty few) c.in-Some.ensures.begins)
    (c.take_beside-took.ensures.thread took ∙ ap (λ (k : Cell). after_ask code x.0 asked (answer_from refused k x.1 asked)) same)
    (c.take_beside-took.ensures.object took ∙ ap (λ (k : Cell). cell_after refused k asked) same)

pub returns : goal.returns
returns c = λ is.
    let took = c.if-not-took.false in
    let code = c.args.code.now in
    let refused = c.args.refused in
    let asked = c.in-Some.asked in
    let numbers = c.args.numbers.now in
    let cells = c.args.objects.now in
    let x : ThreadState × Source = (c.own.inside.thread, c.own.inside.source) in
    let y : ThreadState × Source = (c.go_among.new.thread, c.go_among.new.source) in
    let b = subst (λ (z : ThreadState × Source). AreAmong code numbers z.0 cells) (sym c.own.view_is) c.requires.among in
    let few : 0 < length cells = (let a = among_cell_count code numbers x.0 cells b in let d = c.requires.some in omega (arith, a, d)) in
    let same = get_or_default cells 0 c.index-objects-0-2.result empty few in
    subst (λ (z : ThreadState × Source). TakesTurn code numbers refused z cells y c.go_among.new.objects) c.own.view_is
    (takes_turn_then_runs code numbers refused x.0 c.take_beside-took.new.thread x.1 c.take_beside-took.new.source
    y cells c.take_beside-took.new.object c.go_among.new.objects asked c.in-Some.ensures.asks
    (subst (λ (k : Cell). MayBegin refused (get_or numbers 0 0) k.fields asked) (get_or_default cells 0 c.index-objects-0.result empty few) c.in-Some.ensures.begins)
    (c.take_beside-took.ensures.thread took ∙ ap (λ (k : Cell). after_ask code x.0 asked (answer_from refused k x.1 asked)) same)
    (c.take_beside-took.ensures.source took)
    (c.take_beside-took.ensures.object took ∙ ap (λ (k : Cell). cell_after refused k asked) same)
    (c.go_among.ensures.goes is) (c.go_among.ensures.rests is))
