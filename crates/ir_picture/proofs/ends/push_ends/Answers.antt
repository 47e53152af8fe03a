use Rattle.std.proofs.Common.{◌++◌, get_or, ap}
use Rattle.ir_lemmas.proofs.CallerLemmas.{written_and_left_step, prefix_is_whole}
use Rattle.ir_trace.specs.Recorded.{RecordedThread}
use Rattle.ir_picture.specs.Chrome.{thread_end_line, end_lines}
use Rattle.ir_picture.specs.declared.placed_box.Point.{Point}
use Rattle.ir_picture.proofs.Texts.{end_lines_begin_with_next, end_lines_past_end}
use Rattle.ir_picture.proofs.ends.push_ends.Goals as goal

pub loop-number-preserved : goal.loop-number-preserved
loop-number-preserved c =
    let first : Point = record { x = 0; u = 0 } in
    let n = c.loop-number.number in
    written_and_left_step c.loop-number.text.items _ _ _ _ _ c.loop-number.invariant
    (end_lines_begin_with_next n c.args.threads.now c.args.ends.now c.index-threads-number.result first _ c.loop-number-test.true c.requires
    (ap (λ (t : RecordedThread). thread_end_line n t (get_or c.args.ends.now n first)) c.index-threads-number.is))
    c.in_ok-push_end.ensures

pub returns : goal.returns
returns c = prefix_is_whole c.loop-number.text.items _ (c.args.text.now.items ++ end_lines 0 c.args.threads.now c.args.ends.now)
    c.loop-number.invariant
    (end_lines_past_end c.loop-number.number c.loop-number.number c.args.threads.now c.args.ends.now c.loop-number-test.false c.requires)
