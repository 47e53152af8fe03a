use Rattle.std.proofs.Common.{◌∙◌, ap}
use Rattle.ir_commands.proofs.CallerLemmas.{goes_on_then}
use Rattle.ir_program.proofs.dispatch.explain.Goals as goal

pub returns-clause-grows : goal.returns-clause-grows
returns-clause-grows g c = goes_on_then _ _ _ c.explain_if.ensures.grows c.explain_if-2.ensures.grows

pub returns-clause-broken : goal.returns-clause-broken
returns-clause-broken g c = λ failed.
    let first = c.explain_if.ensures.broken failed in
    c.explain_if-2.ensures.broken (ap g.E.Sink.broken first ∙ failed) ∙ first
