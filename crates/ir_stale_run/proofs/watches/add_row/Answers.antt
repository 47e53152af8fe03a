use Rattle.std.proofs.Common.{◌<◌, ◌++◌, ◌∷◌, [], length, sym, ap, subst, ◌∙◌, refl, arith}
use Rattle.std.proofs.lemmas.Result.{on_ok_weaker}
use Rattle.std.proofs.lemmas.Option.{slice_get-get_or}
use Rattle.std.specs.List.{slice_index_or}
use Rattle.ir_past.specs.declared.stale_write.StaleWrite.{StaleWrite}
use Rattle.ir_stale_run.specs.Watch.{IsBuilt}
use Rattle.ir_stale_run.specs.declared.found.Found.TheVariants.{Unknown}
use Rattle.ir_stale_run.specs.declared.watch.Watch.{Watch}
use Rattle.ir_stale_run.proofs.Leaving.{row_entries_are_placed}
use Rattle.ir_stale_run.proofs.Built.{built_after_own_row, all_built_watch_set, all_built_found_row}
use Rattle.ir_stale_run.proofs.Begun.{never_left_is_found, unlooked_is_found}
use Rattle.ir_stale_run.proofs.watches.add_row.Goals as goal

abbrev no_row : StaleWrite
no_row = record { thread = 0; event = 0; object = 0; written = 0; read = 0; version = 0; overwritten_by = record { thread = 0; event = 0 } }

pub returns-in-Some-clause-built : goal.returns-in-Some-clause-built
returns-in-Some-clause-built c =
    let f = c.args.guide.route.fitted.now in
    let rows = c.args.guide.rows.now in
    let x : StaleWrite = slice_index_or rows c.args.row no_row in
    let there = slice_get-get_or rows c.args.row no_row c.requires.row in
    let stale = c.requires.guide.stale.sound c.args.row x there in
    let l : x.thread < length c.args.watches.now = (let a = (row_entries_are_placed f c.requires.guide.route.last.run x stale).there in let b = c.requires.size in omega (arith, a, b)) in
    let old : Watch = c.index-watches-stale.result in
    let is : IsBuilt c.args.guide.copies f rows c.args.found.now c.args.row x.thread old =
    subst (IsBuilt c.args.guide.copies f rows c.args.found.now c.args.row x.thread) (sym c.index-watches-stale.is)
    (c.requires.built x.thread old l) in
    on_ok_weaker c.add_span.result (λ h. all_built_watch_set c.args.guide.copies f rows c.args.found.now c.args.row x.thread c.args.watches.now c.add_span.new.watch x l c.requires.built there refl
    (built_after_own_row c.args.guide.copies f rows c.args.found.now c.args.row x.thread old c.add_span.new.watch x c.in-Some.span is there refl stale c.in-Some.ensures.row c.in-Some.ensures.found
    (h.0 ∙ ap (λ (w : Watch). w.next) (sym c.index-watches-stale.is)) (h.1 ∙ ap (λ (w : Watch). w.opened.items) (sym c.index-watches-stale.is))
    (h.2 ∙ ap (λ (w : Watch). w.spans.items ++ c.in-Some.span ∷ []) (sym c.index-watches-stale.is)))) c.add_span.ensures

pub returns-in-None-clause-built : goal.returns-in-None-clause-built
returns-in-None-clause-built c =
    let f = c.args.guide.route.fitted.now in
    let rows = c.args.guide.rows.now in
    let x : StaleWrite = slice_index_or rows c.args.row no_row in
    let there = slice_get-get_or rows c.args.row no_row c.requires.row in
    all_built_found_row c.args.guide.copies f rows c.args.found.now c.args.row c.args.watches.now x c.requires.built there
    (never_left_is_found c.args.guide.copies f x (slice_index_or c.args.found.now c.args.row Unknown) (c.requires.begun c.args.row x there) c.in-None.ensures.none)

pub returns-then-not-is_looked_at-clause-built : goal.returns-then-not-is_looked_at-clause-built
returns-then-not-is_looked_at-clause-built c =
    let f = c.args.guide.route.fitted.now in
    let rows = c.args.guide.rows.now in
    let x : StaleWrite = slice_index_or rows c.args.row no_row in
    let there = slice_get-get_or rows c.args.row no_row c.requires.row in
    all_built_found_row c.args.guide.copies f rows c.args.found.now c.args.row c.args.watches.now x c.requires.built there
    (unlooked_is_found c.args.guide.copies f x (slice_index_or c.args.found.now c.args.row Unknown) (c.requires.begun c.args.row x there)
    (sym c.is_looked_at.ensures ∙ c.if-not-is_looked_at.true))
