use Rattle.std.proofs.Common.{◌∙◌}
use Rattle.std.specs.String.{string_bytes}
use Rattle.ir_lemmas.proofs.CallerLemmas.{prefix_is_whole, written_and_left_step}
use Rattle.ir_who.specs.Lines.{versions_text}
use Rattle.ir_who.proofs.Shown.{version_lines_next, version_lines_past_end}
use Rattle.ir_who.proofs.texts.object_text.Goals as goal

pub loop-number-preserved : goal.loop-number-preserved
loop-number-preserved c = written_and_left_step (string_bytes c.loop-number.text) c.as_str.result.now _ _ _ _ c.loop-number.invariant
    (version_lines_next c.loop-number.number c.args.rows.now _ c.as_str.result.now c.loop-number-test.true
    (c.as_str.ensures.value ∙ c.in_ok-version_line.ensures))
    c.in_ok-push_str.ensures.bytes

pub returns : goal.returns
returns c = prefix_is_whole (string_bytes c.loop-number.text) _ (versions_text c.args.object c.args.rows.now) c.loop-number.invariant
    (version_lines_past_end c.loop-number.number c.loop-number.number c.args.rows.now c.loop-number-test.false)
