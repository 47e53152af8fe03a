use Rattle.std.proofs.Common.{◌∙◌, refl}
use Rattle.ir_shrink.specs.Moments.{moment_of}
use Rattle.ir_shrink.proofs.Moves.{followed_nothing, followed_next_item, followed_all_items}
use Rattle.ir_shrink.proofs.mover.Mover.follow.Goals as goal

pub items-init : goal.items-init
items-init g c = record { followed = followed_nothing (moment_of g.W.World.answers c.args.self.now); ready = c.requires.ready; joined = λ h. h; kept = refl }

pub items-preserved : goal.items-preserved
items-preserved g c = record {
  followed = followed_next_item c.args.items.now c.items.item-index _ (moment_of g.W.World.answers c.args.self.now) (moment_of g.W.World.answers c.items.self)
      (moment_of g.W.World.answers c.follow_item.new.self) c.items-test.true c.items.invariant.followed c.in_ok-follow_item.ensures.followed;
  ready = c.in_ok-follow_item.ensures.ready;
  joined = λ h. c.in_ok-follow_item.ensures.joined (c.items.invariant.joined h);
  kept = c.follow_item.ensures.kept ∙ c.items.invariant.kept;
}

pub returns-clause-followed : goal.returns-clause-followed
returns-clause-followed g c = followed_all_items c.args.items.now c.items.item-index (moment_of g.W.World.answers c.args.self.now)
    (moment_of g.W.World.answers c.items.self) c.items-test.false c.items.invariant.followed
