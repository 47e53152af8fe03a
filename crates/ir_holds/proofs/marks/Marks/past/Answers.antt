use Rattle.std.proofs.Common.{◌∙◌, ◌-◌, ap, subst, max, arith}
use Rattle.ir_holds.specs.Held.{IsLeastFrom}
use Rattle.ir_holds.specs.Heights.{IsLower}
use Rattle.ir_holds.proofs.Noted.{least_past_all_marks, top_right_bound}
use Rattle.ir_holds.proofs.marks.Marks.past.Goals as goal

pub returns : goal.returns
returns c =
    let m = c.args.self.now in
    let top = subst (λ n. IsLeastFrom 0 (IsLower m.right.each.items n) c.before-top.result) c.number_in.ensures c.before-top.ensures in
    let is = c.max.ensures ∙ ap (λ z. max z c.args.from) (c.saturating_sub.ensures ∙ ap (λ z. c.before-top.result - z) c.number_in-2.ensures) in
    record {
      least = λ boxes spans holds.
          least_past_all_marks boxes spans m c.args.thread c.args.step c.args.from c.before-top.result c.max.result holds c.requires.step top is;
      near =
          (let small = top_right_bound c.requires.marks.0 m c.args.thread c.args.step c.before-top.result c.requires.marks.1 c.requires.step top in
          omega (arith, small, is));
    }
