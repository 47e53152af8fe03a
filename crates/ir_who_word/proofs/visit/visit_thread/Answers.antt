use Rattle.ir_events.proofs.CallerLemmas.{further_transitive}
use Rattle.ir_who_word.proofs.Noted.{adds_words_transitive, pending_or_worded_stays}
use Rattle.ir_who_word.proofs.visit.visit_thread.Goals as goal

pub returns-then-not-moved-clause-adds : goal.returns-then-not-moved-clause-adds
returns-then-not-moved-clause-adds c = adds_words_transitive c.args.guide.route.fitted.now c.args.guide.rows.now c.args.guide.word c.args.words.now c.stretches.words
    c.stretch-there.new.words c.stretches.invariant.adds c.stretch-there.ensures.adds

pub returns-then-not-moved-clause-found : goal.returns-then-not-moved-clause-found
returns-then-not-moved-clause-found c r x there was = pending_or_worded_stays c.args.guide.route.fitted.now c.args.guide.rows.now c.args.guide.word c.stretches.track
    c.stretch-there.new.track c.stretches.words c.stretch-there.new.words r x c.stretch-there.ensures.adds there (c.stretch-there.ensures.found r x there)
    (c.stretches.invariant.found r x there was)

pub stretches-preserved : goal.stretches-preserved
stretches-preserved c = record {
  way = c.stretch-there.ensures.way;
  further = further_transitive c.args.guide.route.fitted.now c.args.t c.args.state c.stretches.state c.stretch-there.result.0 c.stretches.invariant.further
      c.stretch-there.ensures.further;
  track = c.stretch-there.ensures.track;
  adds = adds_words_transitive c.args.guide.route.fitted.now c.args.guide.rows.now c.args.guide.word c.args.words.now c.stretches.words c.stretch-there.new.words
      c.stretches.invariant.adds c.stretch-there.ensures.adds;
  found = λ r x there was. pending_or_worded_stays c.args.guide.route.fitted.now c.args.guide.rows.now c.args.guide.word c.stretches.track c.stretch-there.new.track
      c.stretches.words c.stretch-there.new.words r x c.stretch-there.ensures.adds there (c.stretch-there.ensures.found r x there)
      (c.stretches.invariant.found r x there was);
}
