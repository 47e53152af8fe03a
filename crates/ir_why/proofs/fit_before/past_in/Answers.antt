use Rattle.std.proofs.Common.{◌+◌, List, ℕ, sym, subst}
use Rattle.ir_why.proofs.Waited.{IsPastSoFar, past_so_far_at_start, past_next_thread}
use Rattle.ir_why.proofs.fit_before.past_in.Goals as goal

pub loop-thread-init : goal.loop-thread-init
loop-thread-init c = subst (λ (xs : List ℕ). IsPastSoFar c.args.fitted.now c.args.here c.args.cut.now xs 0) (sym c.new-counts.ensures.items)
    (past_so_far_at_start c.args.fitted.now c.args.here c.args.cut.now)

pub loop-thread-preserved : goal.loop-thread-preserved
loop-thread-preserved c =
    subst (λ (xs : List ℕ). IsPastSoFar c.args.fitted.now c.args.here c.args.cut.now xs (c.loop-thread.thread + 1)) (sym c.in_ok-push.ensures.items)
    (past_next_thread c.args.fitted.now c.args.here c.args.cut.now c.loop-thread.counts.items c.loop-thread.thread c.count_in.result
    c.loop-thread.invariant c.count_in.ensures)
