use Rattle.std.proofs.Common.{◌∙◌, ◌++◌}
use Rattle.std.specs.String.{string_bytes}
use Rattle.ir_lemmas.proofs.CallerLemmas.{prefix_is_whole, written_and_left_step}
use Rattle.ir_who.specs.Lines.{read_lines}
use Rattle.ir_who.proofs.Shown.{read_lines_next, no_read_lines_past_end}
use Rattle.ir_who.proofs.texts.push_reads.Goals as goal

pub loop-place-preserved : goal.loop-place-preserved
loop-place-preserved c = written_and_left_step (string_bytes c.loop-place.text) c.as_str.result.now _ _ _ _ c.loop-place.invariant
    (read_lines_next c.loop-place.place-index c.args.places.now _ c.as_str.result.now c.loop-place-test.true
    (c.as_str.ensures.value ∙ c.in_ok-read_line.ensures))
    c.in_ok-push_str.ensures.bytes

pub returns : goal.returns
returns c = prefix_is_whole (string_bytes c.loop-place.text) _ (string_bytes c.args.text.now ++ read_lines c.args.places.now) c.loop-place.invariant
    (no_read_lines_past_end c.loop-place.place-index c.args.places.now c.loop-place-test.false)
