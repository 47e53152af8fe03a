use Rattle.std.proofs.Common.{◌≡◌, ◌≤◌, ◌<◌, ◌∙◌, ℕ, List, length, refl, sym, ap, subst, inl, inr, arith}
use Rattle.std.specs.List.{slice_index_or}
use Rattle.std.specs.Vec.{with_items}
use Rattle.std.proofs.lemmas.List.{with_items_is}
use Rattle.ir_thread.specs.State as thread
use Rattle.ir_weave.specs.Standing.{flat_in, positions}
use Rattle.ir_stale_run.specs.Watch.{IsOpenAt}
use Rattle.ir_stale_run.specs.declared.kept.Open.{Open}
use Rattle.ir_stale_run.specs.declared.watch.Watch.{Watch}
use Rattle.ir_stale_run.proofs.Walked.{watch_stays_to_next_stop, watched_if_spans_kept}
use Rattle.ir_stale_run.proofs.visit.stretch.Goals as goal

pub note-requires-clause-opened : goal.note-requires-clause-opened
note-requires-clause-opened c =
    subst (λ (xs : List Open). (i : ℕ) (d : Open) → i < length xs → IsOpenAt c.args.guide.copies c.args.guide.route.fitted.now c.args.guide.rows.now c.args.t c.steps-from.result
    (slice_index_or xs i d)) (sym c.deref_mut.ensures.value) c.close_due.ensures.watch.opened

pub returns-clause-watch : goal.returns-clause-watch
returns-clause-watch c =
    let f = c.args.guide.route.fitted.now in
    let w = c.close_due.new.watch in
    let size : length c.note.new.opened ≡ length w.opened.items = c.note.ensures.size ∙ ap (λ (xs : List Open). length xs) c.deref_mut.ensures.value in
    let items : (with_items w.opened c.note.new.opened).items ≡ c.note.new.opened = with_items_is w.opened c.note.new.opened (size ∙ sym w.opened.ok.0) in
    let from : c.steps-from.result ≡ positions (flat_in f c.args.state) c.args.t =
    c.steps-from.ensures.value ∙ ap (λ (x : thread.ThreadState). x.steps) c.thread_of.ensures in
    let within : positions (flat_in f c.take_steps-state.result.0) c.args.t ≤ c.next_stop.result =
    (let a = c.take_steps-state.ensures.gone.own in let b = c.take_steps-state.ensures.within in let d = c.next_stop.ensures.ahead in
    omega (arith, a, b, d, from)) in
    let new : Watch = record { spans = w.spans; next = w.next; opened = with_items w.opened c.note.new.opened } in
    watch_stays_to_next_stop c.args.guide.copies f c.args.guide.rows.now c.args.t c.steps-from.result (positions (flat_in f c.take_steps-state.result.0) c.args.t) c.next_stop.result w new
    c.close_due.ensures.watch c.next_stop.ensures.stops within refl refl (ap (λ (xs : List Open). length xs) items ∙ size)
    (λ i d l. subst (λ (xs : List Open). IsOpenAt c.args.guide.copies f c.args.guide.rows.now c.args.t (positions (flat_in f c.take_steps-state.result.0) c.args.t)
    (slice_index_or xs i d)) (sym items)
    (c.in_ok-note.ensures.opened i d (let a = ap (λ (xs : List Open). length xs) c.deref_mut.ensures.value in omega (arith, l, a))))

pub returns-clause-found : goal.returns-clause-found
returns-clause-found c r x there was =
    let w = c.close_due.new.watch in
    let size : length c.note.new.opened ≡ length w.opened.items = c.note.ensures.size ∙ ap (λ (xs : List Open). length xs) c.deref_mut.ensures.value in
    let items : (with_items w.opened c.note.new.opened).items ≡ c.note.new.opened = with_items_is w.opened c.note.new.opened (size ∙ sym w.opened.ok.0) in
    let new : Watch = record { spans = w.spans; next = w.next; opened = with_items w.opened c.note.new.opened } in
    elim (c.close_due.ensures.found r x there (c.in_ok-open_due.ensures.watched r was)) [
      | inr found ↦ inr found
      | inl watched ↦ inl (watched_if_spans_kept w new refl refl (ap (λ (xs : List Open). length xs) items ∙ size)
          (λ i d l. ap (λ (xs : List Open). (slice_index_or xs i d).span) items
          ∙ c.in_ok-note.ensures.same i d (let a = ap (λ (xs : List Open). length xs) c.deref_mut.ensures.value in omega (arith, l, a))
          ∙ ap (λ (xs : List Open). (slice_index_or xs i d).span) c.deref_mut.ensures.value) r watched)
    ]
