use Rattle.std.proofs.Common.{◌∙◌}
use Rattle.ir_schedule.specs.Ranking.{first_places}
use Rattle.ir_schedule.proofs.Words.{first_places_step, drawn_places_whole}
use Rattle.ir_schedule.proofs.ranking.places.Goals as goal

pub places-preserved : goal.places-preserved
places-preserved c = first_places_step c.args.choices.now c.args.count c.places.counter c.choices_in-total.result c.draw-number.result c.place_at.result c.places.random
    c.draw-number.new.random c.places.places.items c.push.new.self.items c.places-test.true c.choices_in-total.ensures.value c.draw-number.ensures.drawn c.place_at.ensures
    c.in_ok-push.ensures.items ∙ c.places.invariant

pub returns : goal.returns
returns c = drawn_places_whole c.args.choices.now c.args.count c.places.counter c.places.random c.places.places.items
    (first_places c.args.choices.now c.args.count c.args.random.now) c.places-test.false c.places.invariant
