use Rattle.std.proofs.Common.{◌≡◌, ◌∙◌, [], get_or, ap, subst, arith}
use Rattle.std.proofs.lemmas.List.{get_or_read}
use Rattle.std.specs.List.{Contains}
use Rattle.ir_fit.specs.Placed.{listed_events}
use Rattle.ir_fit.proofs.visits.Visits.at.Goals as goal

pub returns-clause-emitted : goal.returns-clause-emitted
returns-clause-emitted c =
    let lists = c.lists-lists.result.now in
    let is : c.index-lists-object.result ≡ listed_events c.args.self.now c.args.object c.args.access =
    get_or_read lists c.args.object c.index-lists-object.result (omega (arith, c.if-lists-object.false)) c.index-lists-object.is []
    ∙ ap (λ ls. get_or ls c.args.object []) c.lists-lists.ensures in
    λ p h. subst (λ l. Contains l p × (p.version ≡ c.args.version)) is (c.at.ensures.emitted p h)
