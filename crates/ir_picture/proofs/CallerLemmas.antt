-- What callers may cite of pictures.
-- each box of a trace ends before the later ones begin
pub use Rattle.ir_lemmas.proofs.CallerLemmas.{appends_nest_right}
pub use Rattle.ir_picture.proofs.Cuts.{boxes_are_apart}
-- the picture of a trace has boxes of the trace in their order, an end for each thread, and stale writes by rising thread and event
pub use Rattle.ir_picture.proofs.OfTrace.{picture_is_of_trace}
-- texts that are put one after the other
pub use Rattle.ir_picture.proofs.Texts.{box_puts_append_row, rows_begin_with_line, rows_from_past_end, four_parts_framed}
pub use Rattle.ir_picture.proofs.Texts.{four_parts_are_chrome, flat_map_of_drop, flat_map_past_end, data_parts_with_end}
pub use Rattle.ir_picture.proofs.Texts.{data_parts_before_last}
-- texts that are written in pieces: what was written, what is held, and what is left
pub use Rattle.ir_picture.proofs.InPieces.{buffered_at_start, buffered_is_prefix, buffered_after_line, buffered_after_piece}
pub use Rattle.ir_picture.proofs.InPieces.{only_held_is_unwritten, stops_in_second, stops_in_third, stops_in_last, four_texts_are_appended}
-- a trace of a run has no circle
pub use Rattle.ir_picture.proofs.Unrolled.{run_has_no_circle}
-- answers that are answers of another kind
pub use Rattle.ir_picture.proofs.ViewAnswers.{answered_implied, not_answered_implied, chrome_text_is_answer}
-- the stale write at an event, among stale writes that come by rising thread and event
pub use Rattle.ir_picture.proofs.StaleReads.{IsCountBefore, GoWith, stale_at_of_all_is_that_of_next, stale_at_past_end, before_transitive}
-- the boxes that are shown are boxes in their order
pub use Rattle.ir_picture.proofs.Filtered.{shown_of_some_boxes}
-- whether an event is folded with the one before it is told by what both repeat
pub use Rattle.ir_picture.proofs.Noting.{repeat_before_next, fold_is_alike}
-- lists by their places, one of which is changed, or all of which are mapped
pub use Rattle.ir_picture.proofs.Lists.{slice_get_after_set, slice_get_set_elsewhere, slice_get_set_split, length_of_slice_set, slice_get_of_map, slice_get_map_inverse}
-- least numbers above others
pub use Rattle.ir_picture.proofs.Least.{least_above_cong, least_above_nothing, least_above_union}
pub use Rattle.ir_picture.proofs.Boxed.{box_ends_by_next}
pub use Rattle.ir_picture.proofs.Seen.{entry_at_is_unique}
pub use Rattle.ir_picture.proofs.Room.{event_length_le_one}
pub use Rattle.ir_picture.proofs.Placed.{box_has_first_event}
