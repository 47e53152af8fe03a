use Rattle.std.proofs.Common.{subst}
use Rattle.ir_trace.specs.Recorded.{recorded_thread}
use Rattle.ir_picture.specs.Boxing.{IsFold}
use Rattle.ir_run_picture.proofs.folding.folds_in.Goals as goal

pub returns-then-not-folds : goal.returns-then-not-folds
returns-then-not-folds c = λ i next both.
    subst (IsFold (recorded_thread c.args.fitted.now.recorded c.args.here.thread).events c.args.here.event) c.if-not-folds.true c.requires.folds i next both.folded
