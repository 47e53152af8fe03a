use Rattle.ir_packet.proofs.condition.+put_conditions.Given as goal

abbrev pub decreases-put_conditions : goal.decreases-put_conditions
decreases-put_conditions l = l.most
