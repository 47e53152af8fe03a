use Rattle.std.proofs.Common.{◌≡◌, ◌++◌, [], ◌∷◌, true, List, length, sym, ap, ◌∙◌, subst, arith}
use Rattle.ir_fit.specs.Fit.{FittedTrace}
use Rattle.ir_cut.specs.Positions.{cut_of}
use Rattle.ir_weave.specs.Standing.{StandsAtCut}
use Rattle.ir_hits.specs.Watchable.{AreWatchable}
use Rattle.ir_timeline.specs.Hand.{IsCutOf}
use Rattle.ir_debug.specs.Machine.{Kept}
use Rattle.ir_debug.specs.Debugging.{AllKept, IsDesk}
use Rattle.ir_debug.proofs.debugger.Debugger.open_passed.Goals as goal

pub invariant_of-result : goal.invariant_of-result
invariant_of-result c =
    let one : c.push.new.self.items ≡ c.new.result ∷ [] = c.in_ok-push.ensures.items
    ∙ ap (λ (z : List Kept). z ++ c.new.result ∷ []) c.in_ok-kept.ensures.items in
    let long = ap (λ (z : List Kept). length z) one in
    record {
      desk = subst (λ (f : FittedTrace). IsDesk (record {
        fitted = f;
        at = c.in_ok-at.at;
        fresh = true;
        points = c.in_ok-points.points;
        last_point = 0;
        kept = c.push.new.self.items;
        last_kept = 0;
      })) (sym c.in_ok-timeline.ensures.fitted) (record {
        run = c.known.ensures.run;
        size = c.in_ok-at.ensures.size;
        at = c.in_ok-at.ensures.consistent;
        points = subst AreWatchable (sym c.in_ok-points.ensures) tt;
        kept = subst (AllKept c.args.fitted) (sym one) (
          subst (IsCutOf c.args.fitted)
              (sym (ap (λ (k : Kept). k.cut) c.new.ensures ∙ c.in_ok-copy.ensures)) (c.in_ok-at.ensures.size, c.in_ok-at.ensures.consistent),
          tt,
        );
        few = omega (arith, long);
      });
      fresh = λ e. subst (λ at. StandsAtCut c.in_ok-timeline.timeline.fitted (cut_of at) c.in_ok-timeline.timeline.state)
          (sym c.in_ok-at.ensures.first) c.in_ok-timeline.ensures.start;
    }
