use Rattle.std.proofs.lemmas.Result.{err_from_is_err_and}
use Rattle.ir_files.proofs.CallerLemmas.{if_err_handed_on}
use Rattle.ir_commands.proofs.Counted.{lack_of_first, lack_of_second}
use Rattle.ir_commands.proofs.within.comparison_plan.Goals as goal

pub returns-in_err-check_counted-clause-lacks : goal.returns-in_err-check_counted-clause-lacks
returns-in_err-check_counted-clause-lacks g c =
    let p = err_from_is_err_and c.from_residual.result c.from_residual.ensures.1 in
    if_err_handed_on _ c.from_residual.result c.in_err-check_counted.field-0.0 p.0 p.1 p.2
    (lack_of_first c.args.both.now.0 c.args.both.now.1 c.args.arguments.now.counted c.plan_of-explore.ensures.profile c.in_err-check_counted.ensures.lacks)

pub returns-in_err-check_counted-2-clause-lacks : goal.returns-in_err-check_counted-2-clause-lacks
returns-in_err-check_counted-2-clause-lacks g c =
    let p = err_from_is_err_and c.from_residual-in_err-check_counted-2.result c.from_residual-in_err-check_counted-2.ensures.1 in
    if_err_handed_on _ c.from_residual-in_err-check_counted-2.result c.in_err-check_counted-2.field-0.0 p.0 p.1 p.2
    (lack_of_second c.args.both.now.0 c.args.both.now.1 c.args.arguments.now.counted c.plan_of-explore.ensures.profile c.in_err-check_counted-2.ensures.lacks)
