use Rattle.ir_events.proofs.CallerLemmas.{further_transitive}
use Rattle.ir_stale_run.proofs.Walked.{adds_rests_transitive, watched_or_found_stays}
use Rattle.ir_stale_run.proofs.visit.visit_thread.Goals as goal

pub returns-then-not-moved-clause-adds : goal.returns-then-not-moved-clause-adds
returns-then-not-moved-clause-adds c = adds_rests_transitive c.args.guide.copies c.args.guide.route.fitted.now c.args.guide.rows.now c.args.rests.now c.stretches.rests c.stretch.new.rests
    c.stretches.invariant.adds c.in_ok-there.ensures.adds

pub returns-then-not-moved-clause-found : goal.returns-then-not-moved-clause-found
returns-then-not-moved-clause-found c r x there was = watched_or_found_stays c.args.guide.copies c.args.guide.route.fitted.now c.args.guide.rows.now c.stretches.watch c.stretch.new.watch
    c.stretches.rests c.stretch.new.rests r x c.in_ok-there.ensures.adds there (c.in_ok-there.ensures.found r x there)
    (c.stretches.invariant.found r x there was)

pub stretches-preserved : goal.stretches-preserved
stretches-preserved c = record {
  way = c.in_ok-there.ensures.way;
  further = further_transitive c.args.guide.route.fitted.now c.args.t c.args.state c.stretches.state c.in_ok-there.there c.stretches.invariant.further
      c.in_ok-there.ensures.further;
  watch = c.in_ok-there.ensures.watch;
  adds = adds_rests_transitive c.args.guide.copies c.args.guide.route.fitted.now c.args.guide.rows.now c.args.rests.now c.stretches.rests c.stretch.new.rests
      c.stretches.invariant.adds c.in_ok-there.ensures.adds;
  found = λ r x there was. watched_or_found_stays c.args.guide.copies c.args.guide.route.fitted.now c.args.guide.rows.now c.stretches.watch c.stretch.new.watch
      c.stretches.rests c.stretch.new.rests r x c.in_ok-there.ensures.adds there (c.in_ok-there.ensures.found r x there)
      (c.stretches.invariant.found r x there was);
}
