use Rattle.std.proofs.Common.{◌<◌, ◌∙◌, List, ap, sym, refl, subst, length, arith}
use Rattle.std.specs.List.{slice_index_or}
use Rattle.std.proofs.lemmas.Option.{slice_get_within}
use Rattle.ir_stale_run.specs.Watch.{IsOpenAt}
use Rattle.ir_stale_run.specs.declared.kept.Open.{Open}
use Rattle.ir_stale_run.specs.declared.watch.Watch.{Watch}
use Rattle.ir_stale_run.proofs.OpenRows.{watch_after_row_closed, removed_still_end_later, closed_watched_or_found, adds_rests_after_set}
use Rattle.ir_stale_run.proofs.closing.close_due.Goals as goal

pub take_out-opened-requires : goal.take_out-opened-requires
take_out-opened-requires c = let a = c.in-Some.ensures.there in let b = ap (λ (xs : List Open). length xs) c.deref.ensures.value in omega (arith, a, b)

pub judged-requires-clause-opened : goal.judged-requires-clause-opened
judged-requires-clause-opened c =
    let l : c.opened.i < length c.opened.watch.opened.items = (let a = c.in-Some.ensures.there in
    let b = ap (λ (xs : List Open). length xs) c.deref.ensures.value in omega (arith, a, b)) in
    subst (IsOpenAt c.args.guide.copies c.args.guide.route.fitted.now c.args.guide.rows.now c.args.t c.args.k) (c.take_out-opened.ensures.taken c.take_out-opened.result)
    (c.opened.invariant.watch.opened c.opened.i c.take_out-opened.result l)

pub judged-requires-clause-here : goal.judged-requires-clause-here
judged-requires-clause-here c =
    let o = c.take_out-opened.result in
    ap (λ (x : Open). x.span.end) (sym (c.take_out-opened.ensures.taken o))
    ∙ ap (λ (xs : List Open). (slice_index_or xs c.opened.i o).span.end) (sym c.deref.ensures.value) ∙ c.in-Some.ensures.ends c.if-ends.true o

pub keep-requires : goal.keep-requires
keep-requires c =
    let l : c.opened.i < length c.opened.watch.opened.items = (let a = c.in-Some.ensures.there in
    let b = ap (λ (xs : List Open). length xs) c.deref.ensures.value in omega (arith, a, b)) in
    let o = c.opened.invariant.watch.opened c.opened.i c.take_out-opened.result l in
    let row = slice_get_within c.args.guide.rows.now _ o.of.row o.of.there in
    let same = ap (λ (x : Open). x.span.row) (c.take_out-opened.ensures.taken c.take_out-opened.result) in
    let size = c.opened.invariant.adds.size in
    let all = c.requires.size in
    omega (arith, row, same, size, all)

pub opened-preserved-then-ends : goal.opened-preserved-then-ends
opened-preserved-then-ends c =
    let f = c.args.guide.route.fitted.now in
    let rows = c.args.guide.rows.now in
    let w = c.opened.watch in
    let i = c.opened.i in
    let k = c.opened.invariant in
    let o = c.take_out-opened.result in
    let new : Watch = record { spans = w.spans; next = w.next; opened = c.take_out-opened.new.opened } in
    let l : i < length w.opened.items = (let a = c.in-Some.ensures.there in
    let b = ap (λ (xs : List Open). length xs) c.deref.ensures.value in omega (arith, a, b)) in
    let out = c.take_out-opened.ensures.out in
    let of = k.watch.opened i o l in
    let row : o.span.row < length c.opened.rests = (let a = slice_get_within rows _ of.of.row of.of.there in
    let same = ap (λ (x : Open). x.span.row) (c.take_out-opened.ensures.taken o) in
    let size = k.adds.size in let all = c.requires.size in omega (arith, a, same, size, all)) in
    let at = λ (d : Open). ap (λ (x : Open). x.span.row) (c.take_out-opened.ensures.taken d) in
    record {
      watch = watch_after_row_closed c.args.guide.copies f rows c.args.t c.args.k i w new k.watch refl refl out;
      ends = removed_still_end_later c.args.k i w.opened.items c.take_out-opened.new.opened.items out l k.ends;
      within = let a = out.size in omega (arith, a, l);
      spans = k.spans;
      next = k.next;
      adds = adds_rests_after_set c.args.guide.copies f rows c.args.rests.now c.opened.rests c.keep.new.rests o.span.row c.judged.result k.adds row c.keep.ensures c.judged.ensures;
      found = λ r x there was. closed_watched_or_found c.args.guide.copies f rows w new c.opened.rests c.keep.new.rests i o.span.row c.judged.result o refl refl out l at row
          c.keep.ensures c.judged.ensures r x there (k.found r x there was);
    }
