use Rattle.std.proofs.Common.{◌∙◌, length, true, refl, sym, ap, subst, arith}
use Rattle.ir_flat.proofs.CallerLemmas.{length_of_start_threads}
use Rattle.ir_record.specs.Recording.{turns_of_items}
use Rattle.ir_shrink.specs.Items.{AreJoined, passes_of}
use Rattle.ir_shrink.specs.Moments.{Followed, Moment, moment_of}
use Rattle.ir_shrink.proofs.Played.{played_to_end}
use Rattle.ir_shrink.proofs.playing.play.Goals as goal
use Rattle.ir_world.specs.Sources.{made_with}
use Rattle.ir_world.proofs.CallerLemmas.{answered_by_own_origin, world_count_is_threads}

pub follow-requires : goal.follow-requires
follow-requires g c = record {
  ready = record {
    worlds = world_count_is_threads (λ w. made_with w.time w.seed w.file.now) c.in_ok-mover.mover.worlds.items true c.args.plan.now.random c.args.plan.now.input
        (length c.args.image.now.entries) c.in_ok-mover.ensures.origins
        ∙ sym (ap (λ (m : Moment). length m.flat.threads) c.in_ok-mover.ensures.moment
        ∙ length_of_start_threads c.args.image.now c.args.plan.now.budget c.args.plan.now.profile 0 (length c.args.image.now.entries));
    works = c.in_ok-mover.ensures.works;
  };
}

pub finish-requires-clause-some : goal.finish-requires-clause-some
finish-requires-clause-some g c = let e = c.endless_of.ensures in omega (arith, e)

pub returns : goal.returns
returns g c =
    let h = c.in_ok-finish.ensures.followed in
    let start = c.in_ok-mover.mover in
    let mid = c.follow.new.self in
    let last = c.finish.new.self in
    let plan = c.args.plan.now in
    played_to_end c.args.image.now plan c.args.items.now h.0 (moment_of (λ w. w.answers.items) start) (moment_of (λ w. w.answers.items) mid)
    (moment_of (λ w. w.answers.items) last) last.items.items (length mid.flat.threads) c.in_ok-mover.ensures.some c.in_ok-mover.ensures.moment c.in_ok-follow.ensures.followed refl
    (subst (λ e. Followed (turns_of_items (passes_of (length mid.flat.threads) e h.0)) (moment_of (λ w. w.answers.items) mid) (moment_of (λ w. w.answers.items) last))
    c.endless_of.ensures h.1) c.in_ok-finish.ensures.none refl
    (answered_by_own_origin (λ w. made_with w.time w.seed w.file.now) (λ w. w.answers.items) (λ w. (w.sources, w.gave)) true plan.random plan.input
    last.worlds.items (length c.args.image.now.entries) (c.finish.ensures.kept ∙ c.follow.ensures.kept ∙ c.in_ok-mover.ensures.origins))
    (c.in_ok-finish.ensures.joined (c.in_ok-follow.ensures.joined (subst AreJoined (sym c.in_ok-mover.ensures.none) tt)))
