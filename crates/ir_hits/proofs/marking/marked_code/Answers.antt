use Rattle.std.proofs.Common.{◌≡◌, ◌++◌, ◌∙◌, Bool, List, length, take, drop, sym, ap, subst}
use Rattle.std.proofs.lemmas.Result.{IfOk-weaker}
use Rattle.ir_mach.specs.Marks.{Marked, AreStoresMarked}
use Rattle.ir_hits.specs.Passing.{AreCovered}
use Rattle.ir_hits.proofs.Marks.{points_covered_by_marks, take_length_append}
use Rattle.ir_hits.proofs.marking.marked_code.Goals as goal

pub returns-clause-covered : goal.returns-clause-covered
returns-clause-covered c =
    let code = c.args.code.now in
    let marks : List Bool = c.mark_breaks.new.marks in
    let made : List Bool → Marked = λ z. record { words = code; marks = z } in
    let rest : List Bool = drop (length marks) c.in_ok-marks.marks.items in
    let all : take c.in_ok-marks.marks.len (marks ++ rest) ≡ marks =
    take_length_append c.in_ok-marks.marks.len marks rest (c.mark_breaks.ensures.size ∙ c.as_mut_slice.ensures.len) in
    IfOk-weaker c.new.result (λ m. m ≡ made (take c.in_ok-marks.marks.len (marks ++ rest)))
    (λ m. AreCovered m c.args.t c.args.points.now)
    (λ m is. subst (λ z. AreCovered z c.args.t c.args.points.now)
    (sym (is ∙ ap made all))
    (points_covered_by_marks code c.as_mut_slice.result.now marks c.args.t c.args.points.now c.some_watches.result c.some_watches.ensures
    (λ yes. subst (AreStoresMarked code) (sym c.as_mut_slice.ensures.value) (c.in_ok-marks.ensures yes)) c.mark_breaks.ensures.kept
    c.mark_breaks.ensures.marked)) c.new.ensures
