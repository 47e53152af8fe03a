use Rattle.std.proofs.Common.{◌∙◌, refl}
use Rattle.ir_hunt.proofs.Parts.{begun_with_more_after}
use Rattle.ir_hunt.proofs.search.try_stretches.Goals as goal

pub stretches-preserved : goal.stretches-preserved
stretches-preserved g c =
    let inv = c.stretches.invariant in
    let more = c.in_ok-next.ensures in
    let both = c.then-part.ensures in record {
      tries = λ k d below. more.tries k d below ∙ inv.same;
      same = more.same ∙ inv.same;
      begun = begun_with_more_after c.args.own.now c.stretches.own c.args.seeds _ c.stretches.part c.in_ok-next.next c.then-part.result inv.same inv.begun more.part refl
          both.first both.last both.tried;
      seconds = more.seconds ∙ inv.seconds;
    }
