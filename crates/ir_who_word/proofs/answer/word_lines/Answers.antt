use Rattle.std.proofs.Common.{sym, subst}
use Rattle.ir_past.specs.Answers.{AreCoherent}
use Rattle.ir_opened.proofs.CallerLemmas.{run_trace_is_coherent}
use Rattle.ir_who_word.proofs.answer.word_lines.Goals as goal

pub versions_of-requires : goal.versions_of-requires
versions_of-requires c = subst AreCoherent (sym c.trace.ensures.value) (run_trace_is_coherent c.args.fitted.now c.known.ensures.run)
