use Rattle.std.proofs.Common.{◌≡◌, true, rules, subst, arith}
use Rattle.ir_hits.specs.Seeing.{IsLowestOf}
use Rattle.ir_hits.proofs.Seen.{lowest_step_no_hit, lowest_step_hit}
use Rattle.ir_hits.proofs.seeing.lowest.Goals.{then-hits, else-hits}
use Rattle.ir_hits.proofs.seeing.lowest.Goals as goal

pub loop-i-preserved : goal.loop-i-preserved
loop-i-preserved c = elim c.if-hits.branch [
  | then-hits w ↦ lowest_step_hit c.args.t c.args.last c.args.thread.now c.args.notes.now c.args.points.now c.loop-i.i
      c.index-points-i.result _ c.point.result c.loop-i-test.true c.requires.size c.index-points-i.is c.point.ensures
      (c.hits.ensures.0 (search rules)) c.loop-i.found c.if-hits.found w.number.result w.lower.result w.number.ensures
      w.lower.ensures w.found-is c.loop-i.invariant
  | else-hits w ↦ lowest_step_no_hit c.args.t c.args.last c.args.thread.now c.args.notes.now c.args.points.now c.loop-i.i
      c.index-points-i.result _ c.point.result c.loop-i-test.true c.requires.size c.index-points-i.is c.point.ensures
      (λ h. let yes : c.hits.result ≡ true = c.hits.ensures.1 h in cc (yes, w.if-hits.false)) c.loop-i.found
      c.if-hits.found w.found-is c.loop-i.invariant
]

pub returns : goal.returns
returns c = subst (λ n. IsLowestOf c.args.t c.args.last c.args.thread.now c.args.notes.now c.args.points.now n c.loop-i.found)
    (omega (arith, c.loop-i-test.false, c.loop-i.auto.i-end)) c.loop-i.invariant
