use Rattle.std.proofs.Common.{◌∙◌, ◌++◌, get_or}
use Rattle.std.specs.String.{string_bytes}
use Rattle.ir_lemmas.proofs.CallerLemmas.{prefix_is_whole, written_and_left_step}
use Rattle.ir_past.specs.declared.place.Place.{Place}
use Rattle.ir_opened.proofs.CallerLemmas.{slice_get_as_get_or}
use Rattle.ir_who.specs.FitLines.{fit_read_lines}
use Rattle.ir_who.proofs.Shown.{fit_read_lines_next, fit_read_lines_past_end}
use Rattle.ir_who.proofs.fit_lines.push_reads.Goals as goal

pub read_line-requires : goal.read_line-requires
read_line-requires c =
    let n = c.loop-place.place-index in
    let none : Place = record { thread = 0; event = 0 } in
    c.requires n (get_or c.args.places.now n none) (slice_get_as_get_or c.args.places.now n none c.loop-place-test.true)

pub loop-place-preserved : goal.loop-place-preserved
loop-place-preserved c = written_and_left_step (string_bytes c.loop-place.text) c.as_str.result.now _ _ _ _ c.loop-place.invariant
    (fit_read_lines_next c.args.fitted.now c.loop-place.place-index c.args.places.now _ c.as_str.result.now c.loop-place-test.true
    (c.as_str.ensures.value ∙ c.in_ok-read_line.ensures))
    c.in_ok-push_str.ensures.bytes

pub returns : goal.returns
returns c = prefix_is_whole (string_bytes c.loop-place.text) _ (string_bytes c.args.text.now ++ fit_read_lines c.args.fitted.now c.args.places.now) c.loop-place.invariant
    (fit_read_lines_past_end c.args.fitted.now c.loop-place.place-index c.args.places.now c.loop-place-test.false)
