use Rattle.std.proofs.Common.{sym, subst}
use Rattle.ir_hits.specs.Watchable.{AreWatchable}
use Rattle.ir_debug.proofs.Chosen.{filter_keeps_all}
use Rattle.ir_debug.proofs.debugger.Debugger.clear.Goals as goal

pub invariant_of-self : goal.invariant_of-self
invariant_of-self c =
    let held = c.self.invariant.desk in
    record {
      desk = record {
        run = held.run;
        size = held.size;
        at = held.at;
        points = subst AreWatchable (sym c.clear.ensures) (filter_keeps_all _ _ c.self.inside.points held.points);
        kept = held.kept;
        few = held.few;
      };
      fresh = λ e. absurd (cc e);
    }
