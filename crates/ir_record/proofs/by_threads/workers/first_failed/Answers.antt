use Rattle.std.proofs.Common.{arith, sym, ◌∙◌}
use Rattle.ir_record.proofs.Manning.{all_false_below_length, false_below_suc}
use Rattle.ir_record.proofs.by_threads.workers.first_failed.Goals as goal

pub returns-clause-none : goal.returns-clause-none
returns-clause-none g c = λ _. let e = c.loop-t-test.false in
    all_false_below_length (λ w. g.W.World.broken w.world) c.args.workers.now c.loop-t.t (omega (arith, e)) c.loop-t.invariant

pub loop-t-preserved : goal.loop-t-preserved
loop-t-preserved g c = false_below_suc (λ w. g.W.World.broken w.world) c.args.workers.now c.loop-t.t c.index-workers-t.result
    c.loop-t-test.true (sym c.failed.ensures ∙ c.if-failed.false) c.loop-t.invariant
