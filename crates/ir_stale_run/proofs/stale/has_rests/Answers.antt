use Rattle.std.proofs.Common.{sym, subst}
use Rattle.ir_past.specs.Answers.{AreCoherent}
use Rattle.ir_opened.proofs.CallerLemmas.{run_trace_is_coherent}
use Rattle.ir_stale_run.proofs.stale.has_rests.Goals as goal

pub stale_writes-requires : goal.stale_writes-requires
stale_writes-requires c = subst AreCoherent (sym c.trace.ensures.value) (run_trace_is_coherent c.args.fitted.now c.known.ensures.run)
