use Rattle.std.proofs.Common.{◌≡◌, ◌<◌, ◌∙◌, length, refl, sym, ap, subst, arith}
use Rattle.ir_record.specs.Recording.{turns_of_items}
use Rattle.ir_shrink.specs.Items.{pass_of}
use Rattle.ir_shrink.specs.Moments.{Followed, moment_of}
use Rattle.ir_shrink.proofs.Moves.{followed_nothing, followed_next_thread, none_of_one_more}
use Rattle.ir_shrink.proofs.mover.Mover.pass.Given.{Over}
use Rattle.ir_shrink.proofs.mover.Mover.pass.Goals as goal

pub each-init : goal.each-init
each-init g c = record {
  followed = followed_nothing (moment_of g.W.World.answers c.args.self.now);
  none = λ e u l. absurd (omega (arith, l));
  ready = c.requires.ready;
  joined = λ h. h;
  kept = refl;
}

pub each-preserved : goal.each-preserved
each-preserved g c = record {
  followed = followed_next_thread c.each.t c.args.endless (moment_of g.W.World.answers c.args.self.now) (moment_of g.W.World.answers c.each.self)
      (moment_of g.W.World.answers c.follow_item.new.self) c.each.invariant.followed c.in_ok-taken.ensures.followed;
  none = λ e. let r = c.has_moved-moved.ensures e in
      none_of_one_more c.each.t (moment_of g.W.World.answers c.each.self) (moment_of g.W.World.answers c.follow_item.new.self) (c.each.invariant.none r.0)
      (λ u. c.in_ok-taken.ensures.still r.1 u) (c.in_ok-taken.ensures.rest r.1 c.requires.some);
  ready = c.in_ok-taken.ensures.ready;
  joined = λ h. c.in_ok-taken.ensures.joined (c.each.invariant.joined h);
  kept = c.follow_item.ensures.kept ∙ c.each.invariant.kept;
}

-- all threads were looked at
end : (g : Over) (c : goal.After-each g) → c.each.t ≡ length c.args.self.now.flat.threads
end g c = let e : length c.threads-t-end.result.now ≡ length c.args.self.now.flat.threads = ap (λ xs. length xs) c.threads-t-end.ensures.value in
    omega (arith, e, c.each-test.false, c.each.auto.t-end)

pub returns-clause-followed : goal.returns-clause-followed
returns-clause-followed g c = subst (λ n. Followed (turns_of_items (pass_of n c.args.endless)) (moment_of g.W.World.answers c.args.self.now)
    (moment_of g.W.World.answers c.each.self)) (end g c) c.each.invariant.followed

pub returns-clause-none : goal.returns-clause-none
returns-clause-none g c = λ e t l. c.each.invariant.none e t (subst (λ n. t < n) (sym (end g c)) l)
