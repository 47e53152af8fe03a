use Rattle.std.proofs.Common.{◌≡◌, ℕ, ◌+◌, ◌-◌, ◌<◌, true, false, length, slice_set, sym, subst, arith}
use Rattle.ir_search.proofs.Marked.{Sweeping, sweeping_step_with_mark, sweeping_without_mark}
use Rattle.ir_search.proofs.Opens.{open_by_get_or}
use Rattle.ir_search.proofs.ways.sweep.Goals as goal
use Rattle.ir_search.proofs.ways.sweep.Goals.{then-not-marks-node+then-is_before, else-not-marks-node}
use Rattle.ir_search.proofs.ways.sweep.Goals.{else-not-marks-node-via-then-not-marks-node+else-is_before}
use Rattle.ir_search.proofs.ways.sweep.Goals.{else-not-marks-node-via-else-not-marks-node}

pub loop-k-preserved : goal.loop-k-preserved
loop-k-preserved g c =
    let noted = (g.S.Successors.shape c.args.graph.now).noted in
    let marks = c.loop-k.marks in
    let k : ℕ = c.loop-k.k in
    let node : ℕ = length c.loop-k.marks - 1 - c.loop-k.k in
    let first = c.args.marks.now in
    let many = c.loop-k.invariant.nodes in
    let less = c.loop-k-test.true in
    let end = c.loop-k.auto.k-end in
    let here : length c.loop-k.marks - 1 - c.loop-k.k + (c.loop-k.k + 1) ≡ length c.loop-k.marks = omega (arith, many, less, end) in
    let inside : length c.loop-k.marks - 1 - c.loop-k.k < length c.loop-k.marks = omega (arith, many, less, end) in
    elim c.if-not-marks-node.branch [
      | then-not-marks-node+then-is_before w ↦
          subst (λ z. Sweeping noted c.args.threads first z c.if-not-marks-node.changed (c.loop-k.k + 1)) (sym w.marks-is)
          (subst (λ z. Sweeping noted c.args.threads first (slice_set marks node true) z (c.loop-k.k + 1)) (sym w.changed-is)
          (sweeping_step_with_mark noted c.args.threads first marks c.loop-k.changed k node false c.loop-k.invariant inside w.if-not-marks-node.true
          (w.is_before.ensures.found w.if-is_before.true)))
      | else-not-marks-node w ↦
          subst (λ z. Sweeping noted c.args.threads first z c.if-not-marks-node.changed (c.loop-k.k + 1)) (sym w.marks-is)
          (subst (λ z. Sweeping noted c.args.threads first marks z (c.loop-k.k + 1)) (sym w.changed-is)
          (elim w.else-not-marks-node.branch [
            | else-not-marks-node-via-then-not-marks-node+else-is_before x ↦
                sweeping_without_mark noted c.args.threads first marks c.loop-k.changed k node c.loop-k.invariant here
                (λ before. absurd (x.is_before.ensures.none x.if-is_before.false before))
            | else-not-marks-node-via-else-not-marks-node x ↦
                sweeping_without_mark noted c.args.threads first marks c.loop-k.changed k node c.loop-k.invariant here
                (λ before. open_by_get_or marks node x.if-not-marks-node.false)
          ]))
    ]
