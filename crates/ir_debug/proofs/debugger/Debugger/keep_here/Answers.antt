use Rattle.std.proofs.Common.{◌≡◌, ◌<◌, ◌≤◌, ◌+◌, ◌++◌, [], ◌∷◌, List, length, length-append, refl, sym, ap, ◌∙◌, subst, arith}
use Rattle.ir_lemmas.proofs.CallerLemmas.{all_of_push}
use Rattle.ir_timeline.specs.Hand.{IsCutOf}
use Rattle.ir_timeline.specs.Replaying.{Replaying}
use Rattle.ir_debug.specs.Debugging.{Debugging, AllKept, most_number}
use Rattle.ir_debug.specs.Machine.{Kept, most_kept}
use Rattle.ir_debug.proofs.Desks.{desk_by_parts, moved_is_debugging}
use Rattle.ir_debug.proofs.Passed.{permitted_keep_has_room}
use Rattle.ir_debug.proofs.debugger.Debugger.keep_here.Goals as goal

pub overflow_add-number : goal.overflow_add-number
overflow_add-number c =
    let left : c.self.inside.last_kept < most_number = subst (λ (z : Debugging). z.desk.last_kept < most_number) (sym c.self.view_is)
    (permitted_keep_has_room c.args.self.now.desk c.requires).1 in
    omega (arith, left)

pub invariant_of-self-in_err-keep : goal.invariant_of-self-in_err-keep
invariant_of-self-in_err-keep c = moved_is_debugging _ _ _ (ap (λ (r : Replaying). r.fitted) c.keep.ensures) refl refl refl refl c.self.invariant.desk

pub invariant_of-self-in_err-push : goal.invariant_of-self-in_err-push
invariant_of-self-in_err-push c = moved_is_debugging _ _ _ (ap (λ (r : Replaying). r.fitted) c.keep.ensures) refl refl c.in_err-push.ensures.items refl c.self.invariant.desk

pub invariant_of-self-2 : goal.invariant_of-self-2
invariant_of-self-2 c =
    let f = c.self.inside.timeline.fitted in
    let old : List Kept = c.self.inside.kept.items in
    let more : c.push.new.self.items ≡ old ++ c.new.result ∷ [] = c.in_ok-push.ensures.items in
    let held = c.self.invariant.desk in
    let left : length old < most_kept + 1 = subst (λ (z : Debugging). length z.desk.kept < most_kept + 1) (sym c.self.view_is)
    (permitted_keep_has_room c.args.self.now.desk c.requires).0 in
    let long = length-append old (c.new.result ∷ []) in
    let few : length c.push.new.self.items ≤ most_kept + 1 = (let l = ap (λ (z : List Kept). length z) more in omega (arith, left, long, l)) in
    record {
      desk = desk_by_parts f _ (ap (λ (r : Replaying). r.fitted) c.keep.ensures) held.run (held.size, held.at) held.points
          (subst (AllKept f) (sym more) (all_of_push _ old c.new.result held.kept
          (subst (IsCutOf f) (sym (ap (λ (k : Kept). k.cut) c.new.ensures ∙ c.in_ok-cut.ensures)) (held.size, held.at)))) few;
      fresh = λ e. absurd (cc e);
    }
