use Rattle.ir_opened.proofs.CallerLemmas.{ArePairedTo}
use Rattle.ir_who.specs.FitLines.{IsDated}
use Rattle.ir_who.proofs.fit_run.all_dated.Given as goal

abbrev pub invariant-loop-row : goal.invariant-loop-row
invariant-loop-row l = ArePairedTo (IsDated l.fitted) l.rows l.row-index l.all.items
