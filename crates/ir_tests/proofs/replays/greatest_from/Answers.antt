use Rattle.ir_tests.proofs.replays.greatest_from.Goals as goal

pub greatest-requires-clause-consistent : goal.greatest-requires-clause-consistent
greatest-requires-clause-consistent c = c.is_cut.ensures.consistent c.if-not-is_cut.false
