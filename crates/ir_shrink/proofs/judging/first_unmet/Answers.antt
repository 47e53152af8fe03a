use Rattle.std.proofs.Common.{refl, sym, ap, ◌∙◌}
use Rattle.ir_schedule.specs.Conditions.{as_condition, fulfils, end_state}
use Rattle.ir_shrink.proofs.Tests.{tests_go_on, failing_test_found, all_tests_pass}
use Rattle.ir_shrink.proofs.judging.first_unmet.Goals as goal

pub places-init : goal.places-init
places-init c = refl

pub places-preserved : goal.places-preserved
places-preserved c = tests_go_on (λ x. fulfils (as_condition x) (end_state c.args.flat.now)) c.args.conditions.now c.places.place c.index-conditions-place.result c.places-test.true
    (ap (λ x. fulfils (as_condition x) (end_state c.args.flat.now)) (sym c.index-conditions-place.is) ∙ sym c.holds-is_met.ensures ∙ c.if-not-is_met.false) c.places.invariant

pub returns-then-not-is_met : goal.returns-then-not-is_met
returns-then-not-is_met c = (
  failing_test_found (λ x. fulfils (as_condition x) (end_state c.args.flat.now)) c.args.conditions.now c.places.place c.index-conditions-place.result c.places-test.true
      (ap (λ x. fulfils (as_condition x) (end_state c.args.flat.now)) (sym c.index-conditions-place.is) ∙ sym c.holds-is_met.ensures ∙ c.if-not-is_met.true),
  c.places-test.true,
)

pub returns : goal.returns
returns c = all_tests_pass (λ x. fulfils (as_condition x) (end_state c.args.flat.now)) c.args.conditions.now c.places.place c.places-test.false c.places.invariant
