use Rattle.std.proofs.Common.{◌≡◌, drop}
use Rattle.std.specs.List.{list_all}
use Rattle.ir_schedule.specs.Conditions.{as_condition, fulfils, end_state}
use Rattle.ir_shrink.proofs.judging.first_unmet.Given as goal

-- the conditions that are left decide
abbrev pub invariant-places : goal.invariant-places
invariant-places l = list_all (λ c. fulfils (as_condition c) (end_state l.flat)) (drop l.place l.conditions)
    ≡ list_all (λ c. fulfils (as_condition c) (end_state l.flat)) l.conditions
