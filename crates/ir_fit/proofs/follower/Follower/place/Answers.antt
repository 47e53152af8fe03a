use Rattle.std.proofs.Common.{◌<◌, sym, ◌∙◌, subst, arith, length}
use Rattle.ir_fit.proofs.Moves.{left_object_exists, leaves_below_room, found_growing_is_at}
use Rattle.ir_fit.proofs.follower.Follower.place.Goals as goal

pub object-requires : goal.object-requires
object-requires c = left_object_exists c.args.self.now.flat c.args.next.thread c.in-Leave.object c.in-Leave.access c.thread.ensures.flat
    c.requires.follows.below (sym c.requires.follows.asked ∙ c.in-Leave.is)

pub leave-requires : goal.leave-requires
leave-requires c = subst (λ p. length p.leaves < p.room)
    (sym (found_growing_is_at c.args.self.now.places.items c.args.next.thread c.index_mut-in-Leave.result.now
    (let e = c.requires.sized.placed.each in let l = c.requires.follows.below in omega (arith, e, l)) c.index_mut-in-Leave.ensures.value))
    (leaves_below_room c.args.self.now.trace c.args.self.now.flat c.args.self.now.places.items c.args.next.thread c.in-Leave.object
    c.in-Leave.access c.requires.sized.placed c.requires.follows.below (sym c.requires.follows.asked ∙ c.in-Leave.is))
