use Rattle.ir_record.proofs.CallerLemmas.{none_failed_push}
use Rattle.ir_world.specs.Sources.{made_with, is_counted}
use Rattle.ir_world.proofs.Fresh.{map_made_step, made_with_is_origin, map_answers_empty_step}
use Rattle.ir_world.proofs.thread_worlds.worlds.Goals as goal

pub loop-thread-preserved : goal.loop-thread-preserved
loop-thread-preserved g c =
    let old = c.loop-thread.worlds.items in
    let new = c.push.new.self.items in
    let w = c.in_ok-new.field-0 in
    let made = made_with_is_origin w.time c.args.time w.seed c.args.random w.file.now c.args.file.now c.loop-thread.thread c.in_ok-new.ensures.time
    c.in_ok-new.ensures.seed c.in_ok-new.ensures.file in
    record {
      origins = map_made_step (λ w. made_with w.time w.seed w.file.now) old new w (is_counted c.args.time) c.args.random c.args.file.now
          c.loop-thread.thread c.loop-thread.invariant.origins made c.in_ok-push.ensures.items;
      fresh = map_answers_empty_step (λ w. w.answers.items) old new w c.loop-thread.thread c.loop-thread.invariant.fresh c.in_ok-new.ensures.fresh
          c.in_ok-push.ensures.items;
      works = none_failed_push (λ w. w.failed) old new w c.loop-thread.invariant.works c.in_ok-push.ensures.items c.in_ok-new.ensures.works;
    }
