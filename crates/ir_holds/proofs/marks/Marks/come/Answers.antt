use Rattle.std.proofs.Common.{◌≡◌, ◌∙◌, ◌+◌, ◌-◌, inl, inr, refl, sym, ap, subst, max, arith}
use Rattle.ir_holds.specs.Held.{IsLeastFrom}
use Rattle.ir_holds.specs.Heights.{IsLower}
use Rattle.ir_holds.specs.Stops.{stop_number}
use Rattle.ir_holds.proofs.Noted.{least_from_all_marks, top_late_bound}
use Rattle.ir_holds.proofs.marks.Marks.come.Goals as goal

pub returns-then-late-eq0 : goal.returns-then-late-eq0
returns-then-late-eq0 c = λ boxes spans holds.
    let m = c.args.self.now in
    let top = subst (λ n. IsLeastFrom 0 (IsLower m.late.each.items n) c.before-top.result) c.number_in.ensures c.before-top.ensures in
    let is : c.saturating_sub-late.result ≡ c.before-top.result - stop_number c.args.thread 0 =
    c.saturating_sub-late.ensures ∙ ap (λ z. c.before-top.result - z) c.number_in-2.ensures in
    least_from_all_marks boxes spans m c.args.thread c.args.step c.args.from c.before-top.result c.args.from holds c.requires.step top
    (inl (sym is ∙ c.if-late-eq0.true, refl))

pub overflow_add-step : goal.overflow_add-step
overflow_add-step c =
    let m = c.args.self.now in
    let top = subst (λ n. IsLeastFrom 0 (IsLower m.late.each.items n) c.before-top.result) c.number_in.ensures c.before-top.ensures in
    let is : c.saturating_sub-late.result ≡ c.before-top.result - stop_number c.args.thread 0 =
    c.saturating_sub-late.ensures ∙ ap (λ z. c.before-top.result - z) c.number_in-2.ensures in
    let small = top_late_bound c.requires.marks.0 m c.args.thread c.args.step c.before-top.result c.requires.marks.1 c.requires.step top in
    let short = c.requires.step in
    omega (arith, is, small, short)

pub returns : goal.returns
returns c = λ boxes spans holds.
    let m = c.args.self.now in
    let top = subst (λ n. IsLeastFrom 0 (IsLower m.late.each.items n) c.before-top.result) c.number_in.ensures c.before-top.ensures in
    let is : c.saturating_sub-late.result ≡ c.before-top.result - stop_number c.args.thread 0 =
    c.saturating_sub-late.ensures ∙ ap (λ z. c.before-top.result - z) c.number_in-2.ensures in
    let some = c.if-late-eq0.false in
    least_from_all_marks boxes spans m c.args.thread c.args.step c.args.from c.before-top.result c.max.result holds c.requires.step top
    (inr (omega (arith, some, is), c.max.ensures ∙ ap (λ z. max (c.args.step + (z - 1)) c.args.from) is))
