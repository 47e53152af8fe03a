use Rattle.ir_tests.proofs.checkpoint_tests.brought.Goals as goal

pub bring-requires-clause-target : goal.bring-requires-clause-target
bring-requires-clause-target g c κs within = (
  c.is_cut.ensures.size c.if-not-is_cut.false,
  c.is_cut.ensures.consistent c.if-not-is_cut.false,
)
