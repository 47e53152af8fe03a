use Rattle.std.proofs.Common.{◌-◌, ℕ, ◌∙◌, arith, inl, inr}
use Rattle.std.proofs.lemmas.Bool.{cases_lt}
use Rattle.ir_crew.specs.declared.deed.Deed.TheVariants.{Leave}
use Rattle.ir_record.proofs.WorkerSteps.{seat_alone_after_deed, other_deed_keeps_inside, outside_after_leave}
use Rattle.ir_record.proofs.by_threads.worker.Worker.release_all.Goals as goal

pub loop-below-preserved-in-Some : goal.loop-below-preserved-in-Some
loop-below-preserved-in-Some g c =
    let i = c.loop-below.invariant in
    let o : ℕ = c.loop-below.below - 1 in
    let t = c.loop-below-test.true in
    let e = c.leave.ensures.left in
    let l = i.low in
    record {
      table = c.leave.ensures.seat.0 ∙ i.table;
      world = i.world;
      thread = i.thread;
      alone = seat_alone_after_deed c.loop-below.self.seat.me c.leave.new.seat.me o (Leave c.in-Some.access e.0) e.1 i.alone;
      low = omega (arith, t, l);
      inside = λ p k. other_deed_keeps_inside c.loop-below.self.seat.me c.leave.new.seat.me o p (Leave c.in-Some.access e.0) e.1 i.alone
          (λ q. omega (arith, q, k, t)) ∙ i.inside p (omega (arith, k, t));
      outside = λ p k. elim (cases_lt o p) [
        | inl later ↦ other_deed_keeps_inside c.loop-below.self.seat.me c.leave.new.seat.me o p (Leave c.in-Some.access e.0) e.1 i.alone
            (λ q. omega (arith, q, later)) ∙ i.outside p (omega (arith, later, t))
        | inr same ↦ outside_after_leave c.loop-below.self.seat.me c.leave.new.seat.me o p c.in-Some.access e.0 e.1 i.alone
            (omega (arith, k, same))
      ];
    }
