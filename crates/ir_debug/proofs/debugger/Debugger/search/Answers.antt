use Rattle.std.proofs.Common.{refl}
use Rattle.ir_debug.proofs.Desks.{moved_is_debugging}
use Rattle.ir_debug.proofs.debugger.Debugger.search.Goals as goal

pub invariant_of-self : goal.invariant_of-self
invariant_of-self g c = moved_is_debugging _ _ _ c.search.ensures.fitted refl refl refl refl c.self.invariant.desk
