use Rattle.std.proofs.Common.{◌<◌, ◌∙◌, ap, sym, subst, length, length-set, arith}
use Rattle.std.proofs.lemmas.List.{get_or_default}
use Rattle.ir_weave.specs.Standing.{flat_in, positions}
use Rattle.ir_stale_run.specs.Watch.{IsOpenAt}
use Rattle.ir_stale_run.specs.declared.kept.Open.{Open}
use Rattle.ir_stale_run.proofs.OpenRows.{all_satisfy_to_set_place, spans_kept_to_set_place, kept_beyond_set_place}
use Rattle.ir_stale_run.proofs.noting.note.Goals as goal

pub note_one-requires-clause-opened : goal.note_one-requires-clause-opened
note_one-requires-clause-opened c =
    subst (IsOpenAt c.args.guide.copies c.args.guide.route.fitted.now c.args.guide.rows.now c.args.t c.args.from)
    (sym (c.loop-i.invariant.others c.loop-i.i c.index-opened-i.result (omega arith)))
    (c.requires.opened c.loop-i.i c.index-opened-i.result c.loop-i-test.true)

pub loop-i-preserved : goal.loop-i-preserved
loop-i-preserved c =
    let xs = c.loop-i.opened in
    let i = c.loop-i.i in
    let k = c.loop-i.invariant in
    let new = c.note_one.new.opened in
    let l : i < length xs = (let a = k.size in let b = c.loop-i-test.true in omega (arith, a, b)) in
    record {
      size = length-set xs i new ∙ k.size;
      done = all_satisfy_to_set_place (IsOpenAt c.args.guide.copies c.args.guide.route.fitted.now c.args.guide.rows.now c.args.t
          (positions (flat_in c.args.guide.route.fitted.now c.args.state.now) c.args.t)) xs i new l k.done c.in_ok-note_one.ensures.opened;
      same = spans_kept_to_set_place c.args.opened.now xs i new l k.same (λ d. c.in_ok-note_one.ensures.same
          ∙ ap (λ (o : Open). o.span) (get_or_default xs i c.index-opened-i.result d l ∙ k.others i d (omega arith)));
      others = kept_beyond_set_place c.args.opened.now xs i new k.others;
    }
