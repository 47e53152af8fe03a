use Rattle.std.proofs.Common.{rules, ◌≡◌, false, refl}
use Rattle.ir_debug.proofs.Desks.{moved_is_debugging}
use Rattle.ir_debug.proofs.debugger.Debugger.be_here.Goals as goal

pub invariant_of-self : goal.invariant_of-self
invariant_of-self g c =
    let stale : c.self.inside.fresh ≡ false = search rules in
    moved_is_debugging _ _ _ c.go_to.ensures.fitted refl refl refl stale c.self.invariant.desk
