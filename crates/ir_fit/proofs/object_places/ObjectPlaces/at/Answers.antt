use Rattle.std.proofs.Common.{◌∙◌, sym, subst}
use Rattle.std.specs.List.Sorted.{IsNonDecreasingBy}
use Rattle.ir_fit.specs.declared.place.Place.{Place}
use Rattle.ir_fit.proofs.ByVersion.{range_of_version_exact, take_drop_sorted}
use Rattle.ir_fit.proofs.object_places.ObjectPlaces.at.Goals as goal

pub count_before-requires : goal.count_before-requires
count_before-requires c = subst (IsNonDecreasingBy (λ (p : Place). p.version)) (sym (c.as_slice-places.ensures.value ∙ c.self.view_is))
    c.requires

pub count_up_to-requires : goal.count_up_to-requires
count_up_to-requires c = take_drop_sorted c.as_slice-places.result.now c.count_before.result
    (subst (IsNonDecreasingBy (λ (p : Place). p.version)) (sym (c.as_slice-places.ensures.value ∙ c.self.view_is)) c.requires)

pub returns-clause-emitted : goal.returns-clause-emitted
returns-clause-emitted c = (range_of_version_exact c.as_slice-places.result.now c.args.self.now c.count_before.result c.count_up_to.result c.args.version
    (c.as_slice-places.ensures.value ∙ c.self.view_is) c.count_up_to.ensures.bound c.count_before.ensures.point
    c.count_up_to.ensures.point).0

pub returns-clause-all : goal.returns-clause-all
returns-clause-all c = (range_of_version_exact c.as_slice-places.result.now c.args.self.now c.count_before.result c.count_up_to.result c.args.version
    (c.as_slice-places.ensures.value ∙ c.self.view_is) c.count_up_to.ensures.bound c.count_before.ensures.point
    c.count_up_to.ensures.point).1
