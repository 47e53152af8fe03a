use Rattle.std.proofs.Common.{◌∙◌, refl}
use Rattle.std.proofs.lemmas.Option.{slice_get-get_or}
use Rattle.std.proofs.lemmas.Result.{err_from_is_err_and}
use Rattle.ir_files.proofs.CallerLemmas.{if_err_handed_on}
use Rattle.ir_past.specs.declared.past_err.PastErr.TheVariants.{NoMem, Write}
use Rattle.ir_picture.proofs.CallerLemmas.{buffered_after_line, buffered_after_piece, buffered_is_prefix, only_held_is_unwritten, flat_map_of_drop, flat_map_past_end}
use Rattle.ir_run_picture.specs.Chrome.{drawn_line}
use Rattle.ir_text.proofs.CallerLemmas.{prefix_by_failed_write}
use Rattle.ir_run_picture.proofs.chrome.write_slices.Goals as goal

pub push_slice-requires-clause-box_of : goal.push_slice-requires-clause-box_of
push_slice-requires-clause-box_of g c =
    c.requires.boxes c.loop-own.own-index _ (slice_get-get_or c.args.drawn.now c.loop-own.own-index _ c.loop-own-test.true)

pub returns-in_err-write_piece-clause-fails : goal.returns-in_err-write_piece-clause-fails
returns-in_err-write_piece-clause-fails g c =
    let p = err_from_is_err_and c.from_residual.result c.from_residual.ensures.1 in
    if_err_handed_on _ c.from_residual.result Write p.0 p.1 p.2
    (prefix_by_failed_write _ _ _ _ _ _ c.loop-own.invariant.text c.in_err-write_piece.ensures.prefix, c.in_err-write_piece.ensures.err)

pub returns-in_err-push_slice-clause-fails : goal.returns-in_err-push_slice-clause-fails
returns-in_err-push_slice-clause-fails g c =
    let p = err_from_is_err_and c.from_residual-in_err-push_slice.result c.from_residual-in_err-push_slice.ensures.1 in
    if_err_handed_on _ c.from_residual-in_err-push_slice.result NoMem p.0 p.1 p.2 (
      buffered_is_prefix _ _ _ _ (buffered_after_piece _ _ _ _ _ _ _ c.loop-own.invariant.text c.in_ok-write_piece.ensures.ok),
      c.in_ok-write_piece.ensures.stays ∙ c.loop-own.invariant.works,
    )

pub loop-own-preserved : goal.loop-own-preserved
loop-own-preserved g c = record {
  text = buffered_after_line _ _ _ _ _ _ _ _ _ _ c.loop-own.invariant.text c.in_ok-write_piece.ensures.ok
      (flat_map_of_drop (drawn_line c.args.fitted.now c.args.shown.now.kept.items) c.loop-own.own-index c.args.drawn.now _ _ c.loop-own-test.true refl)
      c.in_ok-push_slice.ensures;
  works = c.in_ok-write_piece.ensures.stays ∙ c.loop-own.invariant.works;
}

pub returns-clause-ok : goal.returns-clause-ok
returns-clause-ok g c = only_held_is_unwritten _ _ _ _ _ c.loop-own.invariant.text
    (flat_map_past_end (drawn_line c.args.fitted.now c.args.shown.now.kept.items) c.loop-own.own-index c.args.drawn.now c.loop-own-test.false)
