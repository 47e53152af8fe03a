use Rattle.std.proofs.Common.{arith}
use Rattle.ir_replay.proofs.Going.{pass_after_next_thread}
use Rattle.ir_replay.proofs.passes.pass.Goals as goal

pub loop-t-preserved : goal.loop-t-preserved
loop-t-preserved g c =
    let i = c.loop-t.invariant in
    record {
      within = let a = i.within in let b = c.go-more.ensures.within in omega (arith, a, b);
      passed = pass_after_next_thread c.args.fitted.now c.args.target.now c.args.flat.now c.loop-t.flat c.go-more.new.flat c.loop-t.taken c.args.most
          c.loop-t.t c.go-more.result i.passed c.loop-t-test.true c.go-more.ensures.under c.go-more.ensures.gone
          c.go-more.ensures.rests;
    }
