use Rattle.ir_session_tests.proofs.memory_tests.is_end_reached.Goals as goal

pub is_reached-requires-clause-target : goal.is_reached-requires-clause-target
is_reached-requires-clause-target g c κs within =
    (c.is_cut.ensures.size c.if-not-is_cut.false, c.is_cut.ensures.consistent c.if-not-is_cut.false)
