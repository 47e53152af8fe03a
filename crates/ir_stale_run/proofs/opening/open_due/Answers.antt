use Rattle.std.proofs.Common.{◌≡◌, ◌+◌, ◌∙◌, ap, sym, refl, subst}
use Rattle.std.specs.List.{slice_index_or}
use Rattle.std.proofs.lemmas.List.{get_or_default}
use Rattle.ir_thread.specs.State as thread
use Rattle.ir_weave.specs.Standing.{flat_in, positions}
use Rattle.ir_stale_run.specs.Watch.{IsOpenAt}
use Rattle.ir_stale_run.specs.declared.span.Span.{Span}
use Rattle.ir_stale_run.proofs.OpenRows.{watch_after_row_opened, opened_row_is_watched, next_elsewhere_none_due}
use Rattle.ir_stale_run.proofs.opening.open_due.Goals as goal

pub due-preserved : goal.due-preserved
due-preserved c =
    let f = c.args.guide.route.fitted.now in
    let w = c.due.watch in
    let k = positions (flat_in f c.args.state.now) c.args.t in
    let due = c.is_due.ensures.due c.due-test.true in
    let here : c.steps-k.result ≡ k = c.steps-k.ensures.value ∙ ap (λ (x : thread.ThreadState). x.steps) c.thread_of.ensures in
    let span : c.index.result.now ≡ slice_index_or w.spans.items w.next c.index.result.now = c.index.ensures in
    let read : c.index.result.now.read ≡ k = ap (λ (s : Span). s.read) span ∙ due.1 c.index.result.now ∙ here in
    record {
      watch = watch_after_row_opened c.args.guide.copies f c.args.guide.rows.now c.args.t k w _ c.in_ok-open.open c.due.invariant.watch due.0
          (subst (λ j. IsOpenAt c.args.guide.copies f c.args.guide.rows.now c.args.t j c.in_ok-open.open) read c.in_ok-open.ensures.open) refl refl
          c.in_ok-push.ensures.items;
      watched = λ r is. opened_row_is_watched w (record { spans = w.spans; next = w.next + 1; opened = c.push.new.self }) c.in_ok-open.open refl refl c.in_ok-push.ensures.items
          (λ d. ap (λ (s : Span). s.row) (c.in_ok-open.ensures.row ∙ span ∙ get_or_default w.spans.items w.next c.index.result.now d due.0)) r
          (c.due.invariant.watched r is);
    }

pub returns-clause-due : goal.returns-clause-due
returns-clause-due c =
    let f = c.args.guide.route.fitted.now in
    let k = positions (flat_in f c.args.state.now) c.args.t in
    let here : c.steps-k.result ≡ k = c.steps-k.ensures.value ∙ ap (λ (x : thread.ThreadState). x.steps) c.thread_of.ensures in
    next_elsewhere_none_due c.args.guide.copies f c.args.guide.rows.now c.args.t k c.due.watch c.due.invariant.watch
    (λ l d e. c.is_due.ensures.later c.due-test.false l d (e ∙ sym here))
