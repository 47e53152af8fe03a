use Rattle.ir_tests.proofs.replays.by_threads.Goals as goal

pub advance-requires-clause-target : goal.advance-requires-clause-target
advance-requires-clause-target g c κs within =
    (c.is_cut.ensures.size c.if-not-is_cut.false, c.is_cut.ensures.consistent c.if-not-is_cut.false)
