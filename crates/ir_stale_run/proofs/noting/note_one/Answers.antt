use Rattle.std.proofs.Common.{◌≡◌, ◌∙◌, refl, sym, ap}
use Rattle.ir_thread.specs.State as thread
use Rattle.ir_weave.specs.Standing.{flat_in, positions}
use Rattle.ir_stale_run.specs.declared.span.Span.{Span}
use Rattle.ir_stale_run.proofs.Opened.{open_row_after_calls, standing_words_are_behind, kept_words_are_behind}
use Rattle.ir_stale_run.proofs.noting.note_one.Goals as goal

pub returns-in_ok-opened-clause-opened : goal.returns-in_ok-opened-clause-opened
returns-in_ok-opened-clause-opened c =
    let f = c.args.guide.route.fitted.now in
    let old = c.args.opened.now in
    let more = c.in_ok-note_call.ensures in
    let here : c.steps.result ≡ positions (flat_in f c.args.state.now) c.args.t =
    c.steps.ensures.value ∙ ap (λ (x : thread.ThreadState). x.steps) c.thread_of.ensures in
    open_row_after_calls c.args.guide.copies f c.args.guide.rows.now c.args.t c.args.from (positions (flat_in f c.args.state.now) c.args.t) old c.note_call.new.opened _ _
    c.requires.opened more c.requires.calls c.requires.up c.requires.within refl refl refl refl refl
    (λ _. standing_words_are_behind c.args.guide.copies f c.args.guide.rows.now c.args.state.now c.args.t c.args.from (positions (flat_in f c.args.state.now) c.args.t)
    c.note_call.new.opened.span.object old c.in_ok-opened.field-0.items c.requires.guide.route.last.run c.requires.opened c.requires.way.stands refl
    (ap (λ (s : Span). s.write) (sym more.span) ∙ c.if-opened-steps.true ∙ here) (ap (λ (s : Span). s.object) more.span)
    c.in_ok-opened.ensures)

pub returns-else-opened-steps-clause-opened : goal.returns-else-opened-steps-clause-opened
returns-else-opened-steps-clause-opened c =
    let f = c.args.guide.route.fitted.now in
    let old = c.args.opened.now in
    let more = c.in_ok-note_call.ensures in
    let here : c.steps.result ≡ positions (flat_in f c.args.state.now) c.args.t =
    c.steps.ensures.value ∙ ap (λ (x : thread.ThreadState). x.steps) c.thread_of.ensures in
    open_row_after_calls c.args.guide.copies f c.args.guide.rows.now c.args.t c.args.from (positions (flat_in f c.args.state.now) c.args.t) old c.note_call.new.opened
    c.note_call.new.opened _
    c.requires.opened more c.requires.calls c.requires.up c.requires.within refl refl refl refl refl
    (kept_words_are_behind c.args.guide.copies f c.args.guide.rows.now c.args.t c.args.from (positions (flat_in f c.args.state.now) c.args.t) old c.note_call.new.opened _
    c.requires.opened more c.requires.write (λ e. c.if-opened-steps.false (e ∙ sym here)))
