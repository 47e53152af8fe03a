use Rattle.std.proofs.Common.{◌++◌, ◌∙◌, get_or, ap}
use Rattle.std.specs.String.{string_bytes}
use Rattle.ir_lemmas.proofs.CallerLemmas.{prefix_is_whole}
use Rattle.ir_trace.specs.Recorded.{RecordedThread}
use Rattle.ir_picture.specs.Numbers.{thread_row, thread_rows}
use Rattle.ir_picture.specs.declared.placed_box.Point.{Point}
use Rattle.ir_picture.proofs.Texts.{text_after_two_puts, thread_rows_next, thread_rows_past_end}
use Rattle.ir_picture.proofs.data.push_thread_rows.Goals as goal

pub loop-number-preserved : goal.loop-number-preserved
loop-number-preserved c =
    let first : Point = record { x = 0; u = 0 } in
    text_after_two_puts (string_bytes c.loop-number.text) c.row_start.result.now c.as_str.result.now _ _ _ (string_bytes c.push_str.new.self) _
    c.loop-number.invariant
    (thread_rows_next c.loop-number.number c.args.threads.now c.args.ends.now c.index-threads-number.result first c.row_start.result.now
    c.as_str.result.now c.loop-number-test.true c.requires c.row_start.ensures
    (c.as_str.ensures.value ∙ c.in_ok-thread_row.ensures ∙ ap (λ (t : RecordedThread). thread_row t (get_or c.args.ends.now c.loop-number.number first)) c.index-threads-number.is))
    c.in_ok-push_str.ensures.bytes c.in_ok-push_str-2.ensures.bytes

pub returns : goal.returns
returns c = prefix_is_whole (string_bytes c.loop-number.text) _ (string_bytes c.args.text.now ++ thread_rows 0 c.args.threads.now c.args.ends.now)
    c.loop-number.invariant
    (thread_rows_past_end c.loop-number.number c.loop-number.number c.args.threads.now c.args.ends.now c.loop-number-test.false c.requires)
