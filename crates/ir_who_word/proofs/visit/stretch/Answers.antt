use Rattle.std.proofs.Common.{◌≡◌, ◌+◌, ◌≤◌, ◌∙◌, sym, ap, subst, inl, inr, arith}
use Rattle.std.specs.Prelude.{option_to_list}
use Rattle.ir_thread.specs.State as thread
use Rattle.ir_weave.specs.Standing.{flat_in, positions}
use Rattle.ir_event_walk.specs.Calls.{AreCalls}
use Rattle.ir_who_word.specs.Words.{IsPutIn}
use Rattle.ir_who_word.specs.Track.{IsWordTrack}
use Rattle.ir_who_word.proofs.Walked.{put_after_looked_at, track_stays_to_next_stop, pending_if_holds_kept}
use Rattle.ir_who_word.proofs.visit.stretch.Goals as goal

pub returns-clause-track : goal.returns-clause-track
returns-clause-track c =
    let f = c.args.guide.route.fitted.now in
    let rows = c.args.guide.rows.now in
    let w = c.args.guide.word in
    let t = c.args.t in
    let old = c.note_due.new.track in
    let new = c.note_put.new.track in
    let k = c.steps-from.result in
    let stop = c.next_stop.result in
    let taken = c.take_steps-state.result.1 in
    let is-gone = c.take_steps-state.ensures.gone.own in
    let here : k ≡ positions (flat_in f c.args.state) t = c.steps-from.ensures.value ∙ ap (λ (x : thread.ThreadState). x.steps) c.thread_of.ensures in
    let on : positions (flat_in f c.take_steps-state.result.0) t ≡ k + taken.steps = omega (arith, is-gone, here) in
    let within : k + taken.steps ≤ stop = (let b = c.take_steps-state.ensures.within in let d = c.next_stop.ensures.ahead in omega (arith, b, d)) in
    let is : IsWordTrack f rows w t k old = subst (λ j. IsWordTrack f rows w t j old) (sym here) c.note_due.ensures.track in
    track_stays_to_next_stop f rows w t k (positions (flat_in f c.take_steps-state.result.0) t) stop old new is c.next_stop.ensures.stop (omega (arith, on, within))
    c.note_put.ensures.same.0 c.note_put.ensures.same.1 c.note_put.ensures.same.2
    (λ some. subst (λ j. IsPutIn f w t old.from j new.put) (sym on)
    (put_after_looked_at f rows w t k taken.steps stop old new c.is_looked-keeps.result taken.call c.requires.guide.route.last.run is c.next_stop.ensures.stop within
    some c.is_looked-keeps.ensures.yes c.is_looked-keeps.ensures.no
    (λ e. subst (λ j. AreCalls f t j taken.steps (option_to_list taken.call)) (sym here) (c.take_steps-state.ensures.calls e))
    c.take_steps-state.ensures.kept c.take_steps-state.ensures.one c.note_put.ensures.put c.note_put.ensures.none))

pub returns-clause-found : goal.returns-clause-found
returns-clause-found c r x there was = elim (c.note_due.ensures.found r x there was) [
  | inr found ↦ inr found
  | inl pending ↦ inl (pending_if_holds_kept c.note_due.new.track c.note_put.new.track c.note_put.ensures.same.0 c.note_put.ensures.same.1 r pending)
]
