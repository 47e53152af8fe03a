use Rattle.std.proofs.Common.{◌+◌, List, get_or, sym, subst}
use Rattle.std.proofs.lemmas.Option.{slice_get-get_or}
use Rattle.ir_opened.proofs.CallerLemmas.{ArePairedTo, paired_to_next_element}
use Rattle.ir_picture.specs.declared.event_box.EventBox.{EventBox}
use Rattle.ir_run_picture.specs.Spans.{IsSpanOfBox}
use Rattle.ir_holds.specs.declared.span.Span.{Span}
use Rattle.ir_run_picture.proofs.spans.spans_of.Goals as goal

pub span_of-requires : goal.span_of-requires
span_of-requires c = c.requires c.loop-own.own-index _ (slice_get-get_or c.args.boxes.now c.loop-own.own-index _ c.loop-own-test.true)

pub loop-own-preserved : goal.loop-own-preserved
loop-own-preserved c =
    let n = c.loop-own.own-index in
    let none : EventBox = record { thread = 0; event = 0; count = 0 } in
    subst (λ (xs : List Span). ArePairedTo (IsSpanOfBox c.args.fitted.now) c.args.boxes.now (n + 1) xs) (sym c.in_ok-push.ensures.items)
    (paired_to_next_element (IsSpanOfBox c.args.fitted.now) c.args.boxes.now n c.loop-own.spans.items (get_or c.args.boxes.now n none) c.span_of.result
    c.loop-own.invariant (slice_get-get_or c.args.boxes.now n none c.loop-own-test.true) c.span_of.ensures)
