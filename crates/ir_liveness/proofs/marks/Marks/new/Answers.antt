use Rattle.std.proofs.Common.{◌*◌}
use Rattle.ir_liveness.proofs.Anywhere.{unmarked_none_anywhere}
use Rattle.ir_liveness.proofs.marks.Marks.new.Goals as goal

pub invariant_of-result : goal.invariant_of-result
invariant_of-result c =
    let fresh = c.in_ok-anywhere.ensures in
    let none = c.in_ok-marks.ensures in
    unmarked_none_anywhere c.in_ok-marks.marks.items c.in_ok-anywhere.anywhere.items (c.args.words * 448)
    (none.items_if_clones_equal (λ y e. e)) (fresh.items_if_clones_equal (λ y e. e))
