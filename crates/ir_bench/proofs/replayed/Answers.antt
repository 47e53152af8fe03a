use Rattle.ir_bench.proofs.replayed.Goals as goal

pub advance_in_order-state-requires-clause-consistent : goal.advance_in_order-state-requires-clause-consistent
advance_in_order-state-requires-clause-consistent g c = c.is_cut.ensures.consistent c.if-not-is_cut.false
