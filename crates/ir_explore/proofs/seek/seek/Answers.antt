use Rattle.std.proofs.Common.{map, arith}
use Rattle.ir_schedule.specs.Conditions.{as_condition}
use Rattle.ir_explore.specs.Texts.{known_of}
use Rattle.ir_explore.proofs.Sought.{sought_if_first_found}
use Rattle.ir_explore.proofs.seek.seek.Goals as goal

pub returns-then-is_last-clause-sought : goal.returns-then-is_last-clause-sought
returns-then-is_last-clause-sought g c = sought_if_first_found c.args.image.now c.args.plan.now.explore (map as_condition c.args.plan.now.conditions.now) c.wider.switches
    (known_of c.in_ok-sought.sought.explored) c.in_ok-sought.sought.first c.in_ok-sought.ensures.known c.in_ok-sought.ensures.first
    (λ none e. let l = c.is_last.ensures.over c.if-is_last.true none e in let m = c.wider.invariant in omega (arith, l, m))
