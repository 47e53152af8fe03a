-- What callers may cite: all of it.
-- truth values
pub use Rattle.ir_lemmas.proofs.Bools.{and_true_from_both, conjunction_with_false, conjuncts_are_true, false_if_not_is_true}
pub use Rattle.ir_lemmas.proofs.Bools.{refuted_by_false_test, left_of_true_and, or_true_from_left, or_true_from_right, right_of_true_and}
pub use Rattle.ir_lemmas.proofs.Bools.{true_is_not_false}
-- lists, and what is at their places
pub use Rattle.ir_lemmas.proofs.Lists.{added_element_is_last, all_of_push, all_of_set, all_hold_if_each_holds, all_of_append}
pub use Rattle.ir_lemmas.proofs.Lists.{all_splits_off_last, appends_nest_right, drop_past_length, element_below_length, get_or_satisfies}
pub use Rattle.ir_lemmas.proofs.Lists.{get_or-zeros, slice_get_satisfies, append_item_cases, get_or_after_set, get_or_set_elsewhere}
pub use Rattle.ir_lemmas.proofs.Lists.{get_or_of_found_word, length_of_append_item, length_of_map, map_of_append_item, replicate_append_one}
pub use Rattle.ir_lemmas.proofs.Lists.{same_head, same_tail, slice_get-push_cases, slice_get_push_earlier, slice_get_append_kept}
pub use Rattle.ir_lemmas.proofs.Lists.{slice_get_append_cases, take_length_of_append, prefix_is_whole, written_and_left_step}
pub use Rattle.ir_lemmas.proofs.Lists.{byte_equals_itself, suc_is_plus_one, found_passes_test, take_append_is_first, related_same_length}
-- what follows from how calls end
pub use Rattle.ir_lemmas.proofs.Results.{if_ok_of_implied, ok_is_injective, on_err_holds, on_ok_of_implied, ok_fact_holds}
