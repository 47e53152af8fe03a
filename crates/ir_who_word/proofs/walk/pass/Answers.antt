use Rattle.std.proofs.Common.{◌<◌, ◌∙◌, length, length-set, subst, arith}
use Rattle.std.proofs.lemmas.List.{get_or_default}
use Rattle.ir_events.proofs.CallerLemmas.{pass_after_next_thread}
use Rattle.ir_who_word.specs.Track.{IsTrackPending}
use Rattle.ir_who_word.specs.declared.track.Track.{Track}
use Rattle.ir_who_word.proofs.Walked.{tracked_after_going_on}
use Rattle.ir_who_word.proofs.walk.pass.Goals as goal

pub loop-t-preserved : goal.loop-t-preserved
loop-t-preserved c =
    let f = c.args.guide.route.fitted.now in
    let t = c.loop-t.t in
    let k = c.loop-t.invariant in
    let new = c.visit_thread-state.result in
    let done = c.visit_thread-state.ensures in
    let l : t < length c.loop-t.tracks = (let a = k.tracks in let b = c.loop-t-test.true in omega (arith, a, b)) in
    record {
      passed = pass_after_next_thread f c.args.guide.route.ends.now t c.args.state c.loop-t.state new k.passed done.way done.further done.rests;
      tracks = length-set c.loop-t.tracks t c.visit_thread-state.new.track ∙ k.tracks;
      size = done.adds.size ∙ k.size;
      tracked = tracked_after_going_on f c.args.guide.rows.now c.args.guide.word t c.loop-t.state new c.loop-t.tracks c.visit_thread-state.new.track c.loop-t.words
          c.visit_thread-state.new.words k.tracked done.further l done.adds done.track
          (λ d r x there was. done.found r x there
          (subst (λ (z : Track). IsTrackPending z r) (get_or_default c.loop-t.tracks t d c.index-tracks-t.result l) was));
    }
