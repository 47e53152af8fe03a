use Rattle.ir_packet.proofs.condition.+are_conditions.Given as goal

abbrev pub decreases-are_conditions : goal.decreases-are_conditions
decreases-are_conditions l = l.most
