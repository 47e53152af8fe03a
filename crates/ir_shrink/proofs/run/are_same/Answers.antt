use Rattle.std.proofs.Common.{sym, ap, ◌∙◌}
use Rattle.std.proofs.lemmas.Bool.Decides.{Decides-eqb}
use Rattle.std.proofs.lemmas.Slice.Eq.{slice_eq-Decides}
use Rattle.ir_lemmas.proofs.CallerLemmas.{ok_is_injective}
use Rattle.ir_trace.specs.Recorded.{recorded_at}
use Rattle.ir_shrink.proofs.run.are_same.Goals as goal

pub returns-clause-same : goal.returns-clause-same
returns-clause-same c = λ yes.
    let bytes = sym (c.in_ok-first.ensures) ∙ sym c.as_slice.ensures.value
    ∙ (slice_eq-Decides Decides-eqb c.as_slice.result.now c.as_slice-2.result.now c.eq.result c.eq.ensures).0 yes
    ∙ c.as_slice-2.ensures.value ∙ c.in_ok-second.ensures in
    ok_is_injective c.args.one.now c.args.other.now (sym (c.encoding_is_read.ensures c.args.one.now c.budget.ensures.within) ∙ ap recorded_at bytes
    ∙ c.encoding_is_read.ensures c.args.other.now c.budget-2.ensures.within)
