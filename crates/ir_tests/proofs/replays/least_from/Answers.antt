use Rattle.ir_tests.proofs.replays.least_from.Goals as goal

pub least-requires-clause-consistent : goal.least-requires-clause-consistent
least-requires-clause-consistent c = c.is_cut.ensures.consistent c.if-not-is_cut.false
