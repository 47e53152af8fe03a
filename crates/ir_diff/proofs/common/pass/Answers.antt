use Rattle.std.proofs.Common.{◌+◌, ℕ, Bool, List, sym, subst, arith}
use Rattle.ir_diff.proofs.Parts.{IsPassed, passed_after_followed, passed_after_stayed, still_pass_follows_none}
use Rattle.ir_diff.proofs.common.pass.Goals as goal
use Rattle.ir_diff.proofs.common.pass.Goals.{then-can_follow, else-can_follow}

pub loop-thread-preserved : goal.loop-thread-preserved
loop-thread-preserved c =
    let a = c.args.a.now in
    let b = c.args.b.now in
    let old = c.args.part.now in
    let now = c.loop-thread.part in
    let t = c.loop-thread.thread in
    let moved = c.loop-thread.moved in
    elim c.if-can_follow.branch [
      | then-can_follow w ↦ subst (λ (x : Bool). IsPassed a b old c.if-can_follow.part (t + 1) x) (sym w.moved-is)
          (passed_after_followed a b old now c.if-can_follow.part t moved c.loop-thread.invariant (omega arith)
          (c.can_follow.ensures.tells.set w.if-can_follow.true) w.part-is)
      | else-can_follow w ↦ subst (λ (x : Bool). IsPassed a b old c.if-can_follow.part (t + 1) x) (sym w.moved-is)
          (subst (λ (x : List ℕ). IsPassed a b old x (t + 1) moved) (sym w.part-is)
          (passed_after_stayed a b old now t moved c.loop-thread.invariant (c.can_follow.ensures.tells.clear w.if-can_follow.false)))
    ]

pub returns-clause-rests : goal.returns-clause-rests
returns-clause-rests c = λ none t can.
    still_pass_follows_none c.args.a.now c.args.b.now c.args.part.now c.loop-thread.part c.loop-thread.thread c.loop-thread.moved c.loop-thread.invariant
    (omega arith) none t can
