use Rattle.std.proofs.Common.{◌≡◌, ◌+◌, ◌≤◌, ◌∙◌, ℕ, refl, sym, ap, subst, inl, inr}
use Rattle.std.specs.Prelude.{Some, slice_get}
use Rattle.std.specs.List.{slice_index_or}
use Rattle.std.proofs.lemmas.Option.{slice_get_within}
use Rattle.ir_thread.specs.State as thread
use Rattle.ir_weave.specs.Standing.{flat_in, positions}
use Rattle.ir_who_word.specs.Words.{IsPutIn, IsWorded, unread}
use Rattle.ir_who_word.specs.Track.{IsHoldOf}
use Rattle.ir_who_word.specs.declared.hold.Hold.{Hold}
use Rattle.ir_who_word.proofs.Noted.{adds_words_transitive, worded_stays_worded, track_after_next_hold, pending_or_hold_passed, leaves_elsewhere_none_due}
use Rattle.ir_who_word.proofs.noting.note_due.Goals as goal

pub note-requires-clause-row : goal.note-requires-clause-row
note-requires-clause-row c =
    let f = c.args.guide.route.fitted.now in
    let rows = c.args.guide.rows.now in
    let old = c.due.track in
    let h : Hold = c.in-Some.hold in
    let next = c.in-Some.ensures.next in
    let is : IsHoldOf f rows c.args.guide.word c.args.t h = subst (IsHoldOf f rows c.args.guide.word c.args.t) (next.2 h)
    (c.due.invariant.track.holds old.next h next.0) in
    slice_get_within rows h.row is.row is.there

pub due-preserved : goal.due-preserved
due-preserved c =
    let f = c.args.guide.route.fitted.now in
    let rows = c.args.guide.rows.now in
    let w = c.args.guide.word in
    let t = c.args.t in
    let k : ℕ = positions (flat_in f c.args.state.now) t in
    let old = c.due.track in
    let words = c.note.new.words in
    let inv = c.due.invariant in
    let h : Hold = c.in-Some.hold in
    let next = c.in-Some.ensures.next in
    let is : IsHoldOf f rows w t h = subst (IsHoldOf f rows w t) (next.2 h) (inv.track.holds old.next h next.0) in
    let low : old.from ≤ h.entry + 1 = subst (λ (z : Hold). old.from ≤ z.entry + 1) (next.2 h) (inv.track.from old.next h next.0) in
    let here : h.leave ≡ k = next.1 ∙ c.steps-k.ensures.value ∙ ap (λ (x : thread.ThreadState). x.steps) c.thread_of.ensures in
    let put : IsPutIn f w t old.from h.leave old.put = subst (λ j. IsPutIn f w t old.from j old.put) (sym here) (inv.track.put next.0) in
    let noted = c.note.ensures.words t old.from c.requires.way is here low put in
    record {
      track = track_after_next_hold f rows w t k old _ inv.track next.0 refl;
      adds = adds_words_transitive f rows w c.args.words.now c.due.words words inv.adds noted.0;
      found = λ r x there was. elim (inv.found r x there was) [
        | inr found ↦ inr (worded_stays_worded f rows w c.due.words words r x noted.0 there found)
        | inl pending ↦ elim (pending_or_hold_passed old _ h refl next.2 r pending) [
          | inl still ↦ inl still
          | inr same ↦ inr (subst (λ j. IsWorded f w x (slice_index_or words j unread)) same
              (noted.1 x (subst (λ j. slice_get rows j ≡ Some x) (sym same) there)))
        ]
      ];
    }

pub returns-clause-due : goal.returns-clause-due
returns-clause-due c =
    let f = c.args.guide.route.fitted.now in
    let k : ℕ = positions (flat_in f c.args.state.now) c.args.t in
    let here : c.steps-k.result ≡ k = c.steps-k.ensures.value ∙ ap (λ (x : thread.ThreadState). x.steps) c.thread_of.ensures in
    leaves_elsewhere_none_due f c.args.guide.rows.now c.args.guide.word c.args.t k c.due.track c.due.invariant.track
    (λ l d e. c.in_default.ensures.later l d (e ∙ sym here))
