use Rattle.std.proofs.Common.{◌+◌, None, get_or, sym, subst, List}
use Rattle.ir_opened.proofs.CallerLemmas.{slice_get_as_get_or, ArePairedTo, paired_to_no_element, paired_to_next_element, paired_if_all_paired_to}
use Rattle.ir_who.specs.FitLines.{IsDated}
use Rattle.ir_who.specs.declared.dated.Dated.{Dated}
use Rattle.ir_who.specs.declared.version.Version.{Version}
use Rattle.ir_who.proofs.fit_run.all_dated.Goals as goal

pub dated-requires : goal.dated-requires
dated-requires c = λ p made.
    let n = c.loop-row.row-index in
    let none : Version = record { made_by = None; readers = 0 } in
    c.requires n (get_or c.args.rows.now n none) p (slice_get_as_get_or c.args.rows.now n none c.loop-row-test.true) made

pub loop-row-init : goal.loop-row-init
loop-row-init c = subst (λ (xs : List Dated). ArePairedTo (IsDated c.args.fitted.now) c.args.rows.now 0 xs) (sym c.new-all.ensures.items)
    (paired_to_no_element (IsDated c.args.fitted.now) c.args.rows.now)

pub loop-row-preserved : goal.loop-row-preserved
loop-row-preserved c =
    let n = c.loop-row.row-index in
    let none : Version = record { made_by = None; readers = 0 } in
    subst (λ (xs : List Dated). ArePairedTo (IsDated c.args.fitted.now) c.args.rows.now (n + 1) xs) (sym c.in_ok-push.ensures.items)
    (paired_to_next_element (IsDated c.args.fitted.now) c.args.rows.now n c.loop-row.all.items (get_or c.args.rows.now n none) c.dated.result
    c.loop-row.invariant (slice_get_as_get_or c.args.rows.now n none c.loop-row-test.true) c.dated.ensures)

pub returns : goal.returns
returns c = paired_if_all_paired_to (IsDated c.args.fitted.now) c.args.rows.now c.loop-row.row-index c.loop-row.all.items c.loop-row.invariant
    c.loop-row-test.false c.loop-row.auto.row-index-end
