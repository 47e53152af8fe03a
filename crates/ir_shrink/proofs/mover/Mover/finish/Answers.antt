use Rattle.std.proofs.Common.{◌∙◌, suc, length, refl, sym, subst, ◌<◌}
use Rattle.ir_shrink.specs.Moments.{moment_of}
use Rattle.ir_shrink.proofs.Moves.{followed_nothing, followed_next_pass}
use Rattle.ir_shrink.proofs.mover.Mover.finish.Goals as goal

pub passes-init : goal.passes-init
passes-init g c = record { followed = (0, followed_nothing (moment_of g.W.World.answers c.args.self.now)); ready = c.requires.ready; joined = λ h. h; kept = refl }

pub passes-preserved : goal.passes-preserved
passes-preserved g c = let h = c.passes.invariant.followed in record {
  followed = (
    suc h.0,
    followed_next_pass (length c.args.self.now.flat.threads) c.args.endless h.0 (moment_of g.W.World.answers c.args.self.now)
        (moment_of g.W.World.answers c.passes.self) (moment_of g.W.World.answers c.pass.new.self) (sym h.1.took.threads) h.1 c.in_ok-pass.ensures.followed,
  );
  ready = c.in_ok-pass.ensures.ready;
  joined = λ h. c.in_ok-pass.ensures.joined (c.passes.invariant.joined h);
  kept = c.pass.ensures.kept ∙ c.passes.invariant.kept;
}

pub returns-then-not-branch-clause-followed : goal.returns-then-not-branch-clause-followed
returns-then-not-branch-clause-followed g c = let h = c.passes.invariant.followed in (
  suc h.0,
  followed_next_pass (length c.args.self.now.flat.threads) c.args.endless h.0 (moment_of g.W.World.answers c.args.self.now)
      (moment_of g.W.World.answers c.passes.self) (moment_of g.W.World.answers c.pass.new.self) (sym h.1.took.threads) h.1 c.in_ok-pass.ensures.followed,
)

pub returns-then-not-branch-clause-none : goal.returns-then-not-branch-clause-none
returns-then-not-branch-clause-none g c = λ t l. c.in_ok-pass.ensures.none c.if-not-branch.true t
    (subst (λ n. t < n) (sym c.passes.invariant.followed.1.took.threads) l)
