use Rattle.std.proofs.Common.{◌<◌, ◌+◌, false, length, get_or, refl, sym, ap, ◌∙◌, subst, arith, set}
use Rattle.std.proofs.lemmas.List.{get_or_default}
use Rattle.ir_object.specs.Cell.{Cell}
use Rattle.ir_object.specs.Empty.{empty}
use Rattle.ir_world.specs.Sources.{Source}
use Rattle.ir_thread.specs.State.{ThreadState, after_ask}
use Rattle.ir_graph.specs.Lone.{GoesAmong, MayTake, answer_from, cell_after}
use Rattle.ir_graph.specs.Plain.{Rests}
use Rattle.ir_graph.proofs.LoneSteps.{goes_among_by_private, goes_among_by_next_ask, goes_among_append, are_among_after_run, beside_cell_at_place, among_cell_count, may_take_fair_ask}
use Rattle.ir_graph.proofs.lone.go_among.Goals as goal

pub among-init : goal.among-init
among-init c = record { within = omega arith; among = c.requires.among; goes = (0, (refl, refl)) }

pub take_beside-requires-clause-may : goal.take_beside-requires-clause-may
take_beside-requires-clause-may c =
    let code = c.args.code.now in
    let numbers = c.args.numbers.now in
    let p = c.in-Some.p in
    let x : ThreadState × Source = (c.among.thread, c.among.source) in
    let y : ThreadState × Source = (c.run_to_ask-steps.new.self, c.among.source) in
    let q = c.run_to_ask-steps.result.1 in
    let many = among_cell_count code numbers x.0 c.among.objects c.among.invariant.among in
    let few : p < length c.among.objects = (let a = c.in-Some.ensures.within in omega (arith, a, many)) in
    subst (λ (d : Cell). MayTake false d q) (get_or_default c.among.objects p empty c.index-objects-p.result few)
    (may_take_fair_ask code (get_or numbers p 0) y.0 (get_or c.among.objects p empty) q
    (beside_cell_at_place code numbers y.0 c.among.objects p
    (are_among_after_run code numbers c.run_to_ask-steps.result.0 x y c.among.objects c.among.objects c.among.invariant.among
    (goes_among_by_private code numbers c.run_to_ask-steps.result.0 x.0 y.0 x.1 c.among.objects c.requires.some c.run_to_ask-steps.ensures.steps))
    c.in-Some.ensures.within)
    (sym c.run_to_ask-steps.ensures.asked) c.in-Some.ensures.fair c.in-Some.ensures.about)

pub among-preserved : goal.among-preserved
among-preserved c =
    let code = c.args.code.now in
    let numbers = c.args.numbers.now in
    let p = c.in-Some.p in
    let n = c.run_to_ask-steps.result.0 in
    let x : ThreadState × Source = (c.among.thread, c.among.source) in
    let y = c.run_to_ask-steps.new.self in
    let z : ThreadState × Source = (c.take_beside.new.thread, c.take_beside.new.source) in
    let e = c.take_beside.new.object in
    let cells = c.among.objects in
    let q = c.run_to_ask-steps.result.1 in
    let took = c.if-not-take_beside.false in
    let was = c.among.invariant.goes in
    let many = among_cell_count code numbers x.0 cells c.among.invariant.among in
    let few : p < length cells = (let a = c.in-Some.ensures.within in omega (arith, a, many)) in
    let same = get_or_default cells p c.index-objects-p.result empty few in
    let more : GoesAmong code numbers (n + 1) x cells z (set cells p e) =
    goes_among_by_next_ask code numbers n x.0 y z.0 x.1 z.1 cells p e q c.requires.some c.run_to_ask-steps.ensures.steps c.run_to_ask-steps.ensures.asked
    c.in-Some.ensures.within c.in-Some.ensures.fair c.in-Some.ensures.about (c.take_beside.ensures.given took)
    (c.take_beside.ensures.thread took ∙ ap (λ (d : Cell). after_ask code y q (answer_from false d x.1 q)) same) (c.take_beside.ensures.source took)
    (c.take_beside.ensures.object took ∙ ap (λ (d : Cell). cell_after false d q) same) in
    record {
      within = let a = c.among.invariant.within in let b = c.run_to_ask-steps.ensures.within in omega (arith, a, b);
      among = are_among_after_run code numbers (n + 1) x z cells (set cells p e) c.among.invariant.among more;
      goes = (
        was.0 + (n + 1),
        goes_among_append code numbers was.0 (n + 1) (c.args.thread.now, c.args.source.now) x z c.args.objects.now cells (set cells p e) was.1 more,
      );
    }

pub returns-then-is_rest-clause-goes : goal.returns-then-is_rest-clause-goes
returns-then-is_rest-clause-goes c = λ _.
    let code = c.args.code.now in
    let numbers = c.args.numbers.now in
    let n = c.run_to_ask-steps.result.0 in
    let x : ThreadState × Source = (c.among.thread, c.among.source) in
    let y : ThreadState × Source = (c.run_to_ask-steps.new.self, c.among.source) in
    let was = c.among.invariant.goes in (
      was.0 + n,
      goes_among_append code numbers was.0 n (c.args.thread.now, c.args.source.now) x y c.args.objects.now c.among.objects c.among.objects was.1
          (goes_among_by_private code numbers n x.0 y.0 x.1 c.among.objects c.requires.some c.run_to_ask-steps.ensures.steps),
    )

pub returns-then-is_rest-clause-rests : goal.returns-then-is_rest-clause-rests
returns-then-is_rest-clause-rests c = λ _. subst Rests c.run_to_ask-steps.ensures.asked (c.is_rest.ensures c.if-is_rest.true)
