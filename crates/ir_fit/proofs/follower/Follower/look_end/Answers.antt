use Rattle.std.proofs.Common.{refl, sym}
use Rattle.ir_lemmas.proofs.CallerLemmas.{refuted_by_false_test}
use Rattle.ir_fit.proofs.Seen.{recorded_end_can_follow, other_end_disagrees, ask_of_end_is_not_done}
use Rattle.ir_fit.proofs.follower.Follower.look_end.Goals as goal

pub returns-then-ends_so : goal.returns-then-ends_so
returns-then-ends_so c = (
  refl,
  record {
    below = c.requires.thread;
    asked = sym c.requires.asked;
    follows = recorded_end_can_follow c.args.self.now.trace c.args.self.now.flat c.args.t c.args.end c.requires.asked c.requires.steps
        (c.ends_so.ensures.0 c.if-ends_so.true);
  },
)

pub returns-else-ends_so : goal.returns-else-ends_so
returns-else-ends_so c = (
  ask_of_end_is_not_done _ c.args.end c.requires.asked,
  other_end_disagrees c.args.self.now.trace c.args.self.now.flat c.args.t
      c.args.end c.requires.asked (refuted_by_false_test c.ends_so.result _ c.ends_so.ensures c.if-ends_so.false),
)
