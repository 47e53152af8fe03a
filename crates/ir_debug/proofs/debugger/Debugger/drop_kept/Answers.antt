use Rattle.std.proofs.Common.{◌==◌, length, sym, ap, subst, arith, List}
use Rattle.std.specs.Prelude.{not}
use Rattle.ir_timeline.specs.Replaying.{Replaying}
use Rattle.ir_debug.specs.Machine.{Kept}
use Rattle.ir_debug.specs.Debugging.{AllKept}
use Rattle.ir_debug.proofs.Desks.{desk_by_parts}
use Rattle.ir_debug.proofs.Chosen.{filter_keeps_all, filter_is_not_longer}
use Rattle.ir_debug.proofs.debugger.Debugger.drop_kept.Goals as goal

pub invariant_of-self : goal.invariant_of-self
invariant_of-self c =
    let held = c.self.invariant.desk in
    let less = filter_is_not_longer (λ (k : Kept). not (k.number == c.args.number)) c.self.inside.kept.items in
    let same = ap (λ (z : List Kept). length z) c.forget.ensures in
    let few = held.few in
    record {
      desk = desk_by_parts c.self.inside.timeline.fitted _ (ap (λ (r : Replaying). r.fitted) c.give_up.ensures) held.run (held.size, held.at)
          held.points
          (subst (AllKept c.self.inside.timeline.fitted) (sym c.forget.ensures)
          (filter_keeps_all _ _ c.self.inside.kept.items held.kept))
          (omega (arith, less, same, few));
      fresh = λ e. absurd (cc e);
    }
