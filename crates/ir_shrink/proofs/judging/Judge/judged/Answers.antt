use Rattle.ir_shrink.proofs.Judged.{unmet_at_place}
use Rattle.ir_shrink.proofs.judging.Judge.judged.Goals as goal

pub returns-in-Some : goal.returns-in-Some
returns-in-Some g c = λ items p. unmet_at_place c.args.self.now.image.now c.args.self.now.plan.now items c.args.played.now.items.items c.args.played.now.flat p
    c.in-Some.place c.in-Some.ensures.1 c.in-Some.ensures.0
