use Rattle.std.proofs.Common.{◌≡◌, ◌+◌, length, [], ◌∷◌, ◌++◌, ap, ◌∙◌, subst, sym, arith, length-append, rules}
use Rattle.ir_schedule.proofs.Ready.{ready_more, ready_same}
use Rattle.ir_schedule.specs.Schedules.{AreReady}
use Rattle.ir_flat.specs.Flat.{tables, machine}
use Rattle.ir_schedule.proofs.runner.Runner.ready.Goals.{then-can_step, else-can_step}
use Rattle.ir_schedule.proofs.runner.Runner.ready.Goals as goal

pub threads-preserved : goal.threads-preserved
threads-preserved g c = elim c.if-can_step.branch [
  | then-can_step w ↦
      let items : c.if-can_step.ready.items ≡ c.threads.ready.items ++ c.threads.t ∷ [] = ap (λ z. z.items) w.ready-is ∙ w.push.ensures.items in
      record {
        are = ready_more (machine c.args.self.now.flat) (tables c.args.self.now.flat) c.threads.t c.threads.ready.items
            c.if-can_step.ready.items c.threads.invariant.are (search rules) items;
        few =
            let both = length-append c.threads.ready.items (c.threads.t ∷ []) in
            let size : length c.if-can_step.ready.items ≡ length (c.threads.ready.items ++ c.threads.t ∷ []) = ap (λ z. length z) items in
            let was = c.threads.invariant.few in
            omega (arith, both, size, was);
      }
  | else-can_step w ↦ record {
    are = subst (λ z. AreReady (machine c.args.self.now.flat) (tables c.args.self.now.flat) (c.threads.t + 1) z.items) (sym w.ready-is)
        (ready_same (machine c.args.self.now.flat) (tables c.args.self.now.flat) c.threads.t c.threads.ready.items
        c.threads.invariant.are (search rules));
    few =
        let size : length c.if-can_step.ready.items ≡ length c.threads.ready.items = ap (λ z. length z.items) w.ready-is in
        let was = c.threads.invariant.few in
        omega (arith, size, was);
  }
]
