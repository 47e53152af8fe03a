use Rattle.std.proofs.Common.{◌∙◌, refl}
use Rattle.ir_hunt.proofs.Parts.{begun_with_more_after}
use Rattle.ir_hunt.proofs.search.gathered.Goals as goal

pub parts-preserved : goal.parts-preserved
parts-preserved g c =
    let inv = c.parts.invariant in
    let more = c.in_ok-next.ensures in
    let both = c.then-part.ensures in record {
      same = more.same ∙ inv.same;
      begun = begun_with_more_after c.args.own.now c.parts.own c.args.seeds _ c.parts.part c.in_ok-next.next c.then-part.result inv.same inv.begun more.part refl
          both.first both.last both.tried;
    }
