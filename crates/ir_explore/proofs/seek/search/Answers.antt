use Rattle.std.proofs.Common.{◌≡◌, Some, map, subst}
use Rattle.std.specs.Prelude.{slice_get}
use Rattle.ir_schedule.specs.Conditions.{as_condition}
use Rattle.ir_explore.specs.Conditions.{IsFirst}
use Rattle.ir_explore.specs.Plan.{setup_of}
use Rattle.ir_explore.specs.Texts.{AreKnown, known_of}
use Rattle.ir_explore.proofs.seek.search.Goals as goal

pub first_fulfilling-requires : goal.first_fulfilling-requires
first_fulfilling-requires g c = λ i x is.
    c.in_ok-explored.ensures.known.explored.nodes i x (subst (λ z. slice_get z i ≡ Some x) c.as_slice.ensures.value is)

pub returns-clause-first : goal.returns-clause-first
returns-clause-first g c =
    let guest = c.args.image.now in
    let setup = setup_of guest c.within-explore.result in
    let cs = map as_condition c.args.plan.now.conditions.now in
    subst (λ z. IsFirst guest cs c.in_ok-explored.explored.states.graph.flats.items z c.in_ok-first.first) c.as_slice.ensures.value
    (c.in_ok-first.ensures setup c.in_ok-explored.ensures.known.reached)

pub returns-clause-known : goal.returns-clause-known
returns-clause-known g c =
    subst (λ z. AreKnown c.args.image.now z (known_of c.in_ok-explored.explored)) c.within-explore.ensures c.in_ok-explored.ensures.known
