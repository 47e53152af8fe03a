use Rattle.std.proofs.Common.{sym, subst}
use Rattle.ir_trace.specs.Recorded.{Recorded}
use Rattle.ir_who.specs.Versions.{AreVersions}
use Rattle.ir_who.proofs.Within.{equal_trace_is_coherent, version_maker_is_inside}
use Rattle.ir_who.proofs.fit_run.object_answer.Goals as goal

pub versions_of-requires : goal.versions_of-requires
versions_of-requires c = equal_trace_is_coherent c.args.fitted.now c.known.ensures.run c.trace.result.now c.trace.ensures.value

pub all_dated-requires : goal.all_dated-requires
all_dated-requires c = version_maker_is_inside c.args.fitted.now c.known.ensures.run c.args.object c.deref.result.now
    (subst (AreVersions c.args.fitted.now.recorded c.args.object) (sym c.deref.ensures.value)
    (subst (λ (r : Recorded). AreVersions r c.args.object c.in_ok-rows.rows.items) c.trace.ensures.value c.in_ok-rows.ensures))
