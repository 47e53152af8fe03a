-- What the small machine always holds, over equal traces.
use Rattle.std.proofs.Common.{◌≡◌, ◌≤◌, ◌+◌, true, false, length, sym, subst, ◌∙◌}
use Rattle.ir_fit.specs.Fit.{FittedTrace, HasRun}
use Rattle.ir_cut.specs.Positions.{IsConsistentCut, threads_of}
use Rattle.ir_hits.specs.Watchable.{AreWatchable}
use Rattle.ir_timeline.specs.Hand.{IsCutOf}
use Rattle.ir_debug.specs.Machine.{Desk, most_kept}
use Rattle.ir_weave.specs.Standing.{Standing}
use Rattle.ir_debug.specs.Debugging.{IsDebugging, IsDesk, AllKept}

-- the facts of a trace are those of one that is equal
pub desk_by_parts : (f : FittedTrace) (d : Desk) → d.fitted ≡ f → HasRun f → IsCutOf f d.at → AreWatchable d.points → AllKept f d.kept
    → length d.kept ≤ most_kept + 1 → IsDesk d
desk_by_parts f d same run cut points kept few = record {
  run = subst HasRun (sym same) run;
  size = subst (λ (g : FittedTrace). length d.at ≡ threads_of g) (sym same) cut.0;
  at = subst (λ (g : FittedTrace). IsConsistentCut g d.at) (sym same) cut.1;
  points = points;
  kept = subst (λ (g : FittedTrace). AllKept g d.kept) (sym same) kept;
  few = few;
}

-- a debugger whose last answer was no move's, over the machine's cut, points and kept cuts as they were
pub moved_is_debugging : (d next : Desk) (state : Standing) → next.fitted ≡ d.fitted → next.at ≡ d.at → next.points ≡ d.points → next.kept ≡ d.kept
    → next.fresh ≡ false → IsDesk d → IsDebugging (record { desk = next; state = state })
moved_is_debugging d next state same at points kept spoken is =
    let few : length next.kept ≤ most_kept + 1 = subst (λ ks. length ks ≤ most_kept + 1) (sym kept) is.few in
    record {
      desk = desk_by_parts d.fitted next same is.run (subst (IsCutOf d.fitted) (sym at) (is.size, is.at)) (subst AreWatchable (sym points) is.points)
          (subst (AllKept d.fitted) (sym kept) is.kept) few;
      fresh = λ e. absurd (let no : false ≡ true = sym spoken ∙ e in cc no);
    }
