use Rattle.std.proofs.Common.{◌≡◌, ◌∙◌, List, Ok, Err, length, refl, sym, subst, ap}
use Rattle.std.specs.Prelude.{⊤}
use Rattle.std.proofs.lemmas.Result.{err_from_is_err_and}
use Rattle.ir_files.proofs.CallerLemmas.{if_err_handed_on}
use Rattle.ir_files.specs.declared.exit_status.ExitStatus.TheVariants.{Done}
use Rattle.ir_trace.specs.Recorded.{Recorded}
use Rattle.ir_past.specs.Answers.{AreCoherent}
use Rattle.ir_past.specs.declared.past_err.PastErr.{PastErr}
use Rattle.ir_past.specs.declared.past_err.PastErr.TheVariants.{NoMem}
use Rattle.ir_past.proofs.CallerLemmas.{answered_if_written, no_memory_no_answer, not_answered_if_stopped}
use Rattle.ir_picture.specs.Boxing.{AreSomeBoxes}
use Rattle.ir_picture.specs.Placing.{events_of_all}
use Rattle.ir_picture.specs.Progress.{AreBoxesOf}
use Rattle.ir_picture.specs.Chrome.{all_arrows, chrome_end, chrome_text}
use Rattle.ir_picture.specs.declared.placed_box.PlacedBox.{PlacedBox}
use Rattle.ir_picture.specs.declared.placed_box.Point.{Point}
use Rattle.ir_picture.proofs.CallerLemmas.{stops_in_second, stops_in_third, stops_in_last, four_texts_are_appended, four_parts_are_chrome}
use Rattle.ir_run_picture.specs.Answers.{IsRunChromeAnswer}
use Rattle.ir_run_picture.specs.Chrome.{drawn_slices}
use Rattle.ir_run_picture.proofs.Lasts.{drawn_are_trace_boxes}
use Rattle.ir_run_picture.proofs.Shown.{drawn_are_those_of_picture, run_chrome_text_is_chrome_answer}
use Rattle.ir_run_picture.proofs.chrome.write_chrome.Goals as goal

pub all_drawn-requires : goal.all_drawn-requires
all_drawn-requires g c = subst (AreBoxesOf c.args.fitted.now.recorded) (sym c.deref.ensures.value) c.requires.of_trace.boxes

pub sights_of-requires-clause-coherent : goal.sights_of-requires-clause-coherent
sights_of-requires-clause-coherent g c = subst AreCoherent (sym c.trace-trace.ensures.value) c.requires.coherent

pub sights_of-requires-clause-boxes : goal.sights_of-requires-clause-boxes
sights_of-requires-clause-boxes g c = subst (λ (r : Recorded). AreSomeBoxes r (events_of_all c.deref-2.result.now)) (sym c.trace-trace.ensures.value)
    (subst (λ (bs : List PlacedBox). AreSomeBoxes c.args.fitted.now.recorded (events_of_all bs)) (sym c.deref-2.ensures.value) c.requires.of_trace.some)

pub chrome_head-requires : goal.chrome_head-requires
chrome_head-requires g c = ap (λ (ps : List Point). length ps) c.deref-3.ensures.value ∙ c.requires.of_trace.ends
    ∙ ap (λ (r : Recorded). length r.threads) (sym c.trace-trace.ensures.value)

pub write_slices-requires-clause-boxes : goal.write_slices-requires-clause-boxes
write_slices-requires-clause-boxes g c =
    let f = c.args.fitted.now in
    let p = c.args.shown.now.picture in
    drawn_are_trace_boxes f p.boxes.items c.deref-4.result.now c.requires.of_trace.boxes
    (drawn_are_those_of_picture f p.boxes.items c.deref.result.now c.in_ok-drawn.drawn.items c.deref-4.result.now c.deref.ensures.value c.in_ok-drawn.ensures c.deref-4.ensures.value)

pub write_slices-requires-clause-rising : goal.write_slices-requires-clause-rising
write_slices-requires-clause-rising g c = c.requires.of_trace.stale

pub returns-in_err-sights-clause-fails : goal.returns-in_err-sights-clause-fails
returns-in_err-sights-clause-fails g c =
    let p = err_from_is_err_and c.from_residual-in_err-sights.result c.from_residual-in_err-sights.ensures.1 in
    if_err_handed_on _ c.from_residual-in_err-sights.result NoMem p.0 p.1 p.2
    (no_memory_no_answer (IsRunChromeAnswer c.args.fitted.now c.args.near.now c.args.shown.now.picture c.args.shown.now.kept.items)
    (g.O.Sink.written c.args.out.now) (g.O.Sink.broken c.args.out.now) c.requires.works)

pub returns-in_err-text-clause-fails : goal.returns-in_err-text-clause-fails
returns-in_err-text-clause-fails g c =
    let p = err_from_is_err_and c.from_residual-in_err-text.result c.from_residual-in_err-text.ensures.1 in
    if_err_handed_on _ c.from_residual-in_err-text.result NoMem p.0 p.1 p.2
    (no_memory_no_answer (IsRunChromeAnswer c.args.fitted.now c.args.near.now c.args.shown.now.picture c.args.shown.now.kept.items)
    (g.O.Sink.written c.args.out.now) (g.O.Sink.broken c.args.out.now) c.requires.works)

pub returns-in_err-write_slices-clause-fails : goal.returns-in_err-write_slices-clause-fails
returns-in_err-write_slices-clause-fails g c =
    let q = err_from_is_err_and c.from_residual-in_err-write_slices.result c.from_residual-in_err-write_slices.ensures.1 in
    let e = c.in_err-write_slices.field-0.0 in
    let f = c.args.fitted.now in
    let near = c.args.near.now in
    let p = c.args.shown.now.picture in
    let kept = c.args.shown.now.kept.items in
    let slices = drawn_slices f kept c.deref-4.result.now in
    let text = chrome_text f.recorded near p.ends.items slices c.in_ok-sights.sights.items in
    if_err_handed_on _ c.from_residual-in_err-write_slices.result e q.0 q.1 q.2
    (not_answered_if_stopped (IsRunChromeAnswer f near p kept) Done text e _
    (run_chrome_text_is_chrome_answer f near p kept c.trace-trace.result.now c.deref-2.result.now c.deref-4.result.now c.in_ok-sights.sights.items c.in_ok-sights.sights.items
    c.trace-trace.ensures.value
    (drawn_are_those_of_picture f p.boxes.items c.deref.result.now c.in_ok-drawn.drawn.items c.deref-4.result.now c.deref.ensures.value
    c.in_ok-drawn.ensures c.deref-4.ensures.value)
    c.deref-2.ensures.value c.in_ok-sights.ensures refl)
    (stops_in_second e _ _ _ c.in_ok-text.text.items slices (all_arrows 0 c.in_ok-sights.sights.items) chrome_end _
    (four_parts_are_chrome f.recorded c.trace-trace.result.now near c.deref-3.result.now p.ends.items c.in_ok-sights.sights.items c.in_ok-text.text.items slices slices
    chrome_end c.in_ok-text.ensures c.trace-trace.ensures.value c.deref-3.ensures.value refl refl)
    c.in_err-write_slices.ensures.fails))

pub returns-in_err-write_arrows-clause-fails : goal.returns-in_err-write_arrows-clause-fails
returns-in_err-write_arrows-clause-fails g c =
    let q = err_from_is_err_and c.from_residual-in_err-write_arrows.result c.from_residual-in_err-write_arrows.ensures.1 in
    let e = c.in_err-write_arrows.field-0.0 in
    let f = c.args.fitted.now in
    let near = c.args.near.now in
    let p = c.args.shown.now.picture in
    let kept = c.args.shown.now.kept.items in
    let slices = drawn_slices f kept c.deref-4.result.now in
    let text = chrome_text f.recorded near p.ends.items slices c.deref-5.result.now in
    if_err_handed_on _ c.from_residual-in_err-write_arrows.result e q.0 q.1 q.2
    (not_answered_if_stopped (IsRunChromeAnswer f near p kept) Done text e _
    (run_chrome_text_is_chrome_answer f near p kept c.trace-trace.result.now c.deref-2.result.now c.deref-4.result.now c.in_ok-sights.sights.items c.deref-5.result.now
    c.trace-trace.ensures.value
    (drawn_are_those_of_picture f p.boxes.items c.deref.result.now c.in_ok-drawn.drawn.items c.deref-4.result.now c.deref.ensures.value
    c.in_ok-drawn.ensures c.deref-4.ensures.value)
    c.deref-2.ensures.value c.in_ok-sights.ensures c.deref-5.ensures.value)
    (stops_in_third e _ _ _ _ c.in_ok-text.text.items slices (all_arrows 0 c.deref-5.result.now) chrome_end _ _
    (four_parts_are_chrome f.recorded c.trace-trace.result.now near c.deref-3.result.now p.ends.items c.deref-5.result.now c.in_ok-text.text.items slices slices
    chrome_end c.in_ok-text.ensures c.trace-trace.ensures.value c.deref-3.ensures.value refl refl)
    c.in_ok-write_slices.ensures.ok c.in_err-write_arrows.ensures.fails))

pub returns-in_err-write_last-clause-fails : goal.returns-in_err-write_last-clause-fails
returns-in_err-write_last-clause-fails g c =
    let q = err_from_is_err_and c.from_residual-in_err-write_last.result c.from_residual-in_err-write_last.ensures.1 in
    let e = c.in_err-write_last.field-0.0 in
    let f = c.args.fitted.now in
    let near = c.args.near.now in
    let p = c.args.shown.now.picture in
    let kept = c.args.shown.now.kept.items in
    let slices = drawn_slices f kept c.deref-4.result.now in
    let text = chrome_text f.recorded near p.ends.items slices c.deref-5.result.now in
    if_err_handed_on _ c.from_residual-in_err-write_last.result e q.0 q.1 q.2
    (not_answered_if_stopped (IsRunChromeAnswer f near p kept) Done text e _
    (run_chrome_text_is_chrome_answer f near p kept c.trace-trace.result.now c.deref-2.result.now c.deref-4.result.now c.in_ok-sights.sights.items c.deref-5.result.now
    c.trace-trace.ensures.value
    (drawn_are_those_of_picture f p.boxes.items c.deref.result.now c.in_ok-drawn.drawn.items c.deref-4.result.now c.deref.ensures.value
    c.in_ok-drawn.ensures c.deref-4.ensures.value)
    c.deref-2.ensures.value c.in_ok-sights.ensures c.deref-5.ensures.value)
    (stops_in_last {A = ⊤} (Err e) _ _ _ _ _ c.in_ok-text.text.items slices (all_arrows 0 c.deref-5.result.now) c.as_bytes.result.now _ _ _
    (four_parts_are_chrome f.recorded c.trace-trace.result.now near c.deref-3.result.now p.ends.items c.deref-5.result.now c.in_ok-text.text.items slices slices
    c.as_bytes.result.now c.in_ok-text.ensures c.trace-trace.ensures.value c.deref-3.ensures.value refl (c.as_bytes.ensures.value ∙ c.chrome_end.ensures))
    c.in_ok-write_slices.ensures.ok c.in_ok-write_arrows.ensures.ok c.in_err-write_last.ensures.fails))

pub returns-clause-ok : goal.returns-clause-ok
returns-clause-ok g c =
    let f = c.args.fitted.now in
    let near = c.args.near.now in
    let p = c.args.shown.now.picture in
    let kept = c.args.shown.now.kept.items in
    let slices = drawn_slices f kept c.deref-4.result.now in
    let text = chrome_text f.recorded near p.ends.items slices c.deref-5.result.now in
    answered_if_written (IsRunChromeAnswer f near p kept) Done (g.O.Sink.written c.args.out.now) (g.O.Sink.written c.write_last.new.out)
    (g.O.Sink.broken c.write_last.new.out) text
    (run_chrome_text_is_chrome_answer f near p kept c.trace-trace.result.now c.deref-2.result.now c.deref-4.result.now c.in_ok-sights.sights.items c.deref-5.result.now
    c.trace-trace.ensures.value
    (drawn_are_those_of_picture f p.boxes.items c.deref.result.now c.in_ok-drawn.drawn.items c.deref-4.result.now c.deref.ensures.value
    c.in_ok-drawn.ensures c.deref-4.ensures.value)
    c.deref-2.ensures.value c.in_ok-sights.ensures c.deref-5.ensures.value)
    (four_texts_are_appended {A = ⊤} {E = PastErr} (Ok tt) _ _ _ _ c.in_ok-text.text.items slices (all_arrows 0 c.deref-5.result.now) c.as_bytes.result.now _ _ _
    (four_parts_are_chrome f.recorded c.trace-trace.result.now near c.deref-3.result.now p.ends.items c.deref-5.result.now c.in_ok-text.text.items slices slices
    c.as_bytes.result.now c.in_ok-text.ensures c.trace-trace.ensures.value c.deref-3.ensures.value refl (c.as_bytes.ensures.value ∙ c.chrome_end.ensures))
    c.in_ok-write_slices.ensures.ok c.in_ok-write_arrows.ensures.ok c.in_ok-write_last.ensures.ok)
    c.in_ok-write_last.ensures.works
