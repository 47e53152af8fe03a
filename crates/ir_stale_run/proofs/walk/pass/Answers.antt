use Rattle.std.proofs.Common.{◌<◌, ◌∙◌, length, length-set, subst, arith}
use Rattle.std.proofs.lemmas.List.{get_or_default}
use Rattle.ir_events.proofs.CallerLemmas.{pass_after_next_thread}
use Rattle.ir_stale_run.specs.Watch.{IsWatchedWrite}
use Rattle.ir_stale_run.specs.declared.watch.Watch.{Watch}
use Rattle.ir_stale_run.proofs.Walked.{watched_after_going_on}
use Rattle.ir_stale_run.proofs.walk.pass.Goals as goal

pub loop-t-preserved : goal.loop-t-preserved
loop-t-preserved c =
    let f = c.args.guide.route.fitted.now in
    let t = c.loop-t.t in
    let k = c.loop-t.invariant in
    let new = c.in_ok-state.state in
    let done = c.in_ok-state.ensures in
    let l : t < length c.loop-t.watches = (let a = k.watches in let b = c.loop-t-test.true in omega (arith, a, b)) in
    record {
      passed = pass_after_next_thread f c.args.guide.route.ends.now t c.args.state c.loop-t.state new k.passed done.way done.further done.rests;
      watches = length-set c.loop-t.watches t c.visit_thread.new.watch ∙ k.watches;
      size = done.adds.size ∙ k.size;
      watched = watched_after_going_on c.args.guide.copies f c.args.guide.rows.now t c.loop-t.state new c.loop-t.watches c.visit_thread.new.watch c.loop-t.rests
          c.visit_thread.new.rests k.watched done.further l done.adds done.watch
          (λ d r x there was. done.found r x there
          (subst (λ (w : Watch). IsWatchedWrite w r) (get_or_default c.loop-t.watches t d c.index-watches-t.result l) was));
    }
