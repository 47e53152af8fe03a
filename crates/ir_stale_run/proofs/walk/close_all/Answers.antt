use Rattle.std.proofs.Common.{◌≡◌, ◌<◌, ◌≤◌, ◌∙◌, length, length-set, get_or-set_other, refl, sym, ap, subst, inl, inr, arith}
use Rattle.std.specs.List.{slice_index_or}
use Rattle.std.proofs.lemmas.Bool.{cases_lt}
use Rattle.ir_thread.specs.State as thread
use Rattle.ir_trace.specs.Recorded.{recorded_thread}
use Rattle.ir_weave.specs.Standing.{flat_in, positions}
use Rattle.ir_stale_run.specs.Watch.{IsWatch, IsWatchFound}
use Rattle.ir_stale_run.specs.declared.watch.Watch.{Watch}
use Rattle.ir_stale_run.proofs.Leaving.{row_entries_are_placed}
use Rattle.ir_stale_run.proofs.Walked.{row_found_at_end, found_row_stays_found, watched_or_found_stays}
use Rattle.ir_stale_run.proofs.walk.close_all.Goals as goal

pub loop-t-init : goal.loop-t-init
loop-t-init c = record {
  watches = refl;
  size = refl;
  done = λ r x there l. absurd (omega (arith, l));
  others = λ u d past l. c.requires.watched u d l;
}

pub close_due-requires-clause-watch : goal.close_due-requires-clause-watch
close_due-requires-clause-watch c =
    let f = c.args.guide.route.fitted.now in
    let t = c.loop-t.t in
    let l : t < length c.loop-t.watches = (let a = c.loop-t.invariant.watches in let b = c.loop-t-test.true in omega (arith, a, b)) in
    let here : c.steps-k.result ≡ positions (flat_in f c.args.state.now) t =
    c.steps-k.ensures.value ∙ ap (λ (x : thread.ThreadState). x.steps) c.thread_of.ensures in
    subst (λ k. IsWatch c.args.guide.copies f c.args.guide.rows.now t k (slice_index_or c.loop-t.watches t c.index-watches-t.result)) (sym here)
    (c.loop-t.invariant.others t c.index-watches-t.result (omega arith) l).0

pub loop-t-preserved : goal.loop-t-preserved
loop-t-preserved c =
    let f = c.args.guide.route.fitted.now in
    let t = c.loop-t.t in
    let i = c.loop-t.invariant in
    let l : t < length c.loop-t.watches = (let a = i.watches in let b = c.loop-t-test.true in omega (arith, a, b)) in
    let here : c.steps-k.result ≡ positions (flat_in f c.args.state.now) t =
    c.steps-k.ensures.value ∙ ap (λ (x : thread.ThreadState). x.steps) c.thread_of.ensures in
    let all : (recorded_thread f.recorded t).steps ≤ c.steps-k.result =
    (let a = c.requires.ended t (let b = c.requires.watches in let d = i.watches in omega (arith, l, b, d)) in omega (arith, a, here)) in
    let w : Watch = slice_index_or c.loop-t.watches t c.index-watches-t.result in
    let adds = c.close_due.ensures.adds in
    record {
      watches = length-set c.loop-t.watches t c.close_due.new.watch ∙ i.watches;
      size = adds.size ∙ i.size;
      done = λ r x there less. elim (cases_lt x.thread t) [
        | inl before ↦ found_row_stays_found c.args.guide.copies f c.args.guide.rows.now c.loop-t.rests c.close_due.new.rests r x adds there (i.done r x there before)
        | inr past ↦
            let own : x.thread ≡ t = omega (arith, less, past) in
            row_found_at_end c.args.guide.copies f c.args.guide.rows.now t c.steps-k.result w c.close_due.new.watch c.loop-t.rests c.close_due.new.rests r x adds there
            c.close_due.ensures.watch c.close_due.ensures.ends all (c.close_due.ensures.found r x there)
            ((i.others t c.index-watches-t.result (omega arith) l).1 r x there own)
      ];
      others = λ u d past lu.
          let before = i.others u d (omega (arith, past)) (let n = length-set c.loop-t.watches t c.close_due.new.watch in omega (arith, n, lu)) in
          subst (λ (z : Watch). IsWatch c.args.guide.copies f c.args.guide.rows.now u (positions (flat_in f c.args.state.now) u) z
          × IsWatchFound c.args.guide.copies f c.args.guide.rows.now c.close_due.new.rests u z)
          (sym (get_or-set_other c.loop-t.watches t u c.close_due.new.watch d (λ e. absurd (omega (arith, past, e))))) (
            before.0,
            λ r x there own. watched_or_found_stays c.args.guide.copies f c.args.guide.rows.now (slice_index_or c.loop-t.watches u d) (slice_index_or c.loop-t.watches u d)
                c.loop-t.rests c.close_due.new.rests r x adds there (λ z. inl z) (before.1 r x there own),
          );
    }

pub returns-clause-found : goal.returns-clause-found
returns-clause-found c r x there = c.loop-t.invariant.done r x there
    (let a = (row_entries_are_placed c.args.guide.route.fitted.now c.requires.guide.route.last.run x (c.requires.guide.stale.sound r x there)).there in
    let b = c.requires.watches in let d = c.loop-t-test.false in omega (arith, a, b, d))
