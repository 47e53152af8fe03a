use Rattle.std.proofs.Common.{ℕ, ◌+◌, sym, ap, ◌∙◌, subst}
use Rattle.std.specs.Global.{Vec}
use Rattle.ir_graph.proofs.Gathered.{IsHandBelow, hand_below_larger_limit, hand_below_past_other}
use Rattle.ir_graph.proofs.hands.hand_of.Goals.{then-o-number+then-is_some+in_ok-push-2, else-o-number}
use Rattle.ir_graph.proofs.hands.hand_of.Goals as goal

pub loop-o-preserved : goal.loop-o-preserved
loop-o-preserved c =
    let before = c.loop-o.numbers.items in
    let after = c.if-o-number.numbers.items in
    elim c.if-o-number.branch [
      | then-o-number+then-is_some+in_ok-push-2 w ↦
          hand_below_past_other c.args.number c.loop-o.o before after (ap (λ (v : Vec ℕ). v.items) w.numbers-is ∙ w.in_ok-push-2.ensures.items)
          w.if-o-number.true c.loop-o.invariant
      | else-o-number w ↦ subst (λ (v : Vec ℕ). IsHandBelow c.args.number (c.loop-o.o + 1) v.items) (sym w.numbers-is)
          (hand_below_larger_limit c.args.number c.loop-o.o before c.loop-o.invariant)
    ]
