use Rattle.ir_tests.proofs.replays.by_order.Goals as goal

pub advance_in_order-requires-clause-consistent : goal.advance_in_order-requires-clause-consistent
advance_in_order-requires-clause-consistent c = c.is_cut.ensures.consistent c.if-not-is_cut.false
