use Rattle.std.proofs.Common.{refl, subst}
use Rattle.ir_fit.specs.Ahead.{IsOwn}
use Rattle.ir_fit.proofs.Seen.{own_ask_can_follow}
use Rattle.ir_fit.proofs.follower.Follower.look_own.Goals as goal

pub returns : goal.returns
returns c = (
  refl,
  record {
    below = c.requires.thread;
    asked = c.requires.asked;
    follows =
        own_ask_can_follow c.args.self.now.trace c.args.self.now.flat c.args.t (subst IsOwn c.requires.asked c.requires.own) c.requires.steps;
  },
)
