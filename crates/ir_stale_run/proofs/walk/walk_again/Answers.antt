use Rattle.std.proofs.Common.{sym, ◌∙◌}
use Rattle.std.proofs.lemmas.Bool.{true≢false}
use Rattle.ir_stale_run.proofs.Begun.{none_unknown_is_found}
use Rattle.ir_stale_run.proofs.walk.walk_again.Goals as goal

pub returns-then-not-has_unknown-clause-found : goal.returns-then-not-has_unknown-clause-found
returns-then-not-has_unknown-clause-found c = none_unknown_is_found c.args.guide.route.fitted.now c.args.guide.rows.now c.args.rests.now c.requires.size c.requires.found
    (λ has. true≢false (sym (c.has_unknown.ensures.1 has) ∙ c.if-not-has_unknown.true))
