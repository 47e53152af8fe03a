use Rattle.ir_shrink.proofs.Steps.{other_ask_is_own}
use Rattle.ir_shrink.proofs.mover.Mover.turn.Goals as goal

pub own_turn-requires-clause-own : goal.own_turn-requires-clause-own
own_turn-requires-clause-own g c = other_ask_is_own c.args.asked c.in_default.not-Env c.in_default.not-Try
