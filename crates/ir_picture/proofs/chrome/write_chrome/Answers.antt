use Rattle.std.proofs.Common.{List, sym, subst}
use Rattle.std.proofs.lemmas.Result.{err_from_is_err_and}
use Rattle.ir_files.proofs.CallerLemmas.{if_err_handed_on}
use Rattle.ir_files.specs.declared.exit_status.ExitStatus.TheVariants.{Done}
use Rattle.ir_past.specs.declared.past_err.PastErr.TheVariants.{NoMem}
use Rattle.ir_past.proofs.CallerLemmas.{answered_if_written, no_memory_no_answer, not_answered_if_stopped}
use Rattle.ir_picture.specs.Boxing.{AreSomeBoxes}
use Rattle.ir_picture.specs.Placing.{events_of_all}
use Rattle.ir_picture.specs.Chrome.{picture_slices, chrome_text, IsChromeAnswer}
use Rattle.ir_picture.specs.declared.placed_box.PlacedBox.{PlacedBox}
use Rattle.ir_picture.proofs.ViewAnswers.{chrome_text_is_answer}
use Rattle.ir_picture.proofs.chrome.write_chrome.Goals as goal

pub sights_of-requires-clause-boxes : goal.sights_of-requires-clause-boxes
sights_of-requires-clause-boxes g c = subst (λ (bs : List PlacedBox). AreSomeBoxes c.args.trace.now (events_of_all bs)) (sym c.deref.ensures.value)
    c.requires.of_trace.some

pub returns-in_err-sights-clause-fails : goal.returns-in_err-sights-clause-fails
returns-in_err-sights-clause-fails g c =
    let p = err_from_is_err_and c.from_residual.result c.from_residual.ensures.1 in
    if_err_handed_on _ c.from_residual.result NoMem p.0 p.1 p.2
    (no_memory_no_answer (IsChromeAnswer c.args.trace.now c.args.near.now c.args.picture.now (picture_slices c.args.trace.now c.args.picture.now))
    (g.O.Sink.written c.args.out.now) (g.O.Sink.broken c.args.out.now) c.requires.works)

pub returns-in_err-write_lines-clause-fails : goal.returns-in_err-write_lines-clause-fails
returns-in_err-write_lines-clause-fails g c =
    let p = err_from_is_err_and c.from_residual-in_err-write_lines.result c.from_residual-in_err-write_lines.ensures.1 in
    let e = c.in_err-write_lines.field-0.0 in
    if_err_handed_on _ c.from_residual-in_err-write_lines.result e p.0 p.1 p.2
    (not_answered_if_stopped (IsChromeAnswer c.args.trace.now c.args.near.now c.args.picture.now (picture_slices c.args.trace.now c.args.picture.now)) Done
    (chrome_text c.args.trace.now c.args.near.now c.args.picture.now.ends.items (picture_slices c.args.trace.now c.args.picture.now) c.deref-2.result.now) e _
    (chrome_text_is_answer c.args.trace.now c.args.near.now c.args.picture.now (picture_slices c.args.trace.now c.args.picture.now) c.deref.result.now
    c.in_ok-sights.sights.items c.deref-2.result.now c.deref.ensures.value c.deref-2.ensures.value c.in_ok-sights.ensures)
    c.in_err-write_lines.ensures.fails)

pub returns-clause-ok : goal.returns-clause-ok
returns-clause-ok g c =
    answered_if_written (IsChromeAnswer c.args.trace.now c.args.near.now c.args.picture.now (picture_slices c.args.trace.now c.args.picture.now)) Done
    (g.O.Sink.written c.args.out.now) (g.O.Sink.written c.write_lines.new.out) (g.O.Sink.broken c.write_lines.new.out)
    (chrome_text c.args.trace.now c.args.near.now c.args.picture.now.ends.items (picture_slices c.args.trace.now c.args.picture.now) c.deref-2.result.now)
    (chrome_text_is_answer c.args.trace.now c.args.near.now c.args.picture.now (picture_slices c.args.trace.now c.args.picture.now) c.deref.result.now
    c.in_ok-sights.sights.items c.deref-2.result.now c.deref.ensures.value c.deref-2.ensures.value c.in_ok-sights.ensures)
    c.in_ok-write_lines.ensures.ok c.in_ok-write_lines.ensures.works
