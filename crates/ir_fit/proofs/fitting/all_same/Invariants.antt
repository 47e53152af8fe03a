use Rattle.std.proofs.Common.{◌≡◌, ◌<◌, ℕ, slice_get, Some}
use Rattle.ir_runs.specs.declared.thread_verdict.ThreadVerdict.{ThreadVerdict}
use Rattle.ir_runs.specs.declared.thread_verdict.ThreadVerdict.TheVariants.{Same}
use Rattle.ir_fit.proofs.fitting.all_same.Given as goal

abbrev pub invariant-loop-verdict : goal.invariant-loop-verdict
invariant-loop-verdict l = (t : ℕ) (v : ThreadVerdict) → t < l.verdict-index → slice_get l.fn.verdicts t ≡ Some v → v ≡ Same
