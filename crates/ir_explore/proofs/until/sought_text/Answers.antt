use Rattle.std.proofs.Common.{map, inl, sym, subst}
use Rattle.ir_schedule.specs.Conditions.{as_condition}
use Rattle.ir_search.proofs.CallerLemmas.{slice_get_some_below}
use Rattle.ir_explore.specs.Conditions.{IsFirst}
use Rattle.ir_explore.specs.Texts.{known_of}
use Rattle.ir_explore.specs.Until.{IsSought, IsVain}
use Rattle.ir_explore.proofs.Sought.{vain_text_if_none_found}
use Rattle.ir_explore.proofs.until.sought_text.Goals as goal

pub hit_text-requires-clause-place : goal.hit_text-requires-clause-place
hit_text-requires-clause-place g c =
    let outcomes = c.args.sought.now.explored.outcomes.items in
    let first = subst (IsFirst c.args.image.now (map as_condition c.args.plan.now.conditions.now) c.args.sought.now.explored.states.graph.flats.items outcomes)
    c.in-Some.is c.requires.sought.first in
    slice_get_some_below outcomes c.in-Some.place first.1.0 first.1.2.0

pub returns-in_ok-text-in-Some : goal.returns-in_ok-text-in-Some
returns-in_ok-text-in-Some g c =
    let cs = map as_condition c.args.plan.now.conditions.now in
    let first = subst (IsFirst c.args.image.now cs c.args.sought.now.explored.states.graph.flats.items c.args.sought.now.explored.outcomes.items)
    c.in-Some.is c.requires.sought.first in
    c.in_ok-text-in-Some.ensures cs first.0 first.1

pub known_text-requires-clause-known : goal.known_text-requires-clause-known
known_text-requires-clause-known g c = c.requires.sought.whole c.in-None.is

pub returns-in_ok-text-in-None : goal.returns-in_ok-text-in-None
returns-in_ok-text-in-None g c =
    let cs = map as_condition c.args.plan.now.conditions.now in
    let known = known_of c.args.sought.now.explored in
    let text = c.in_ok-text-in-None.text.items in
    inl (subst (λ z. IsVain c.args.image.now c.args.plan.now.explore cs z text) (sym c.vain_status_of.ensures)
    (vain_text_if_none_found c.args.image.now c.args.plan.now.explore cs known c.in_ok-text-in-None.field-0-1 text
    (subst (IsSought c.args.image.now c.args.plan.now.explore cs known) c.in-None.is c.requires.sought) c.in_ok-text-in-None.ensures))
