use Rattle.ir_agent.proofs.performing.+number_at.Given as goal

abbrev pub decreases-number_at : goal.decreases-number_at
decreases-number_at g l = l.count
