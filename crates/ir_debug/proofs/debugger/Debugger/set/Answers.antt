use Rattle.std.proofs.Common.{◌<◌, List, length, sym, ap, subst, arith}
use Rattle.ir_lemmas.proofs.CallerLemmas.{all_of_push}
use Rattle.ir_hits.specs.Hits.{Numbered}
use Rattle.ir_hits.specs.Watchable.{AreWatchable, IsWatchable}
use Rattle.ir_debug.specs.Debugging.{Debugging, most_number}
use Rattle.ir_debug.specs.Machine.{most_points}
use Rattle.ir_debug.proofs.Passed.{permitted_set_has_room, permitted_is_watchable}
use Rattle.ir_debug.proofs.debugger.Debugger.set.Goals as goal

pub set-requires : goal.set-requires
set-requires c =
    subst (λ (z : Debugging). length z.desk.points < most_points) (sym c.self.view_is) (permitted_set_has_room c.args.self.now.desk c.args.point c.requires).0

pub overflow_add-number : goal.overflow_add-number
overflow_add-number c =
    let left : c.self.inside.last_point < most_number = subst (λ (z : Debugging). z.desk.last_point < most_number) (sym c.self.view_is)
    (permitted_set_has_room c.args.self.now.desk c.args.point c.requires).1 in
    omega (arith, left)

pub invariant_of-self : goal.invariant_of-self
invariant_of-self c =
    let held = c.self.invariant.desk in
    let old : List Numbered = c.self.inside.points in
    record {
      desk = record {
        run = held.run;
        size = held.size;
        at = held.at;
        points = subst AreWatchable (sym c.set.ensures) (all_of_push _ old c.new.result held.points
            (subst IsWatchable (sym (ap (λ (p : Numbered). p.point) c.new.ensures)) (permitted_is_watchable c.args.self.now.desk c.args.point c.requires)));
        kept = held.kept;
        few = held.few;
      };
      fresh = λ e. absurd (cc e);
    }
