use Rattle.ir_bench.proofs.replayed_by_threads.Goals as goal

pub advance-result-requires-clause-target : goal.advance-result-requires-clause-target
advance-result-requires-clause-target g c κs within =
    (c.is_cut.ensures.size c.if-not-is_cut.false, c.is_cut.ensures.consistent c.if-not-is_cut.false)
