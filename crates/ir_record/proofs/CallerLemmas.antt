-- What callers may cite of recordings.
-- worlds that are asked
pub use Rattle.ir_record.proofs.Asking.{asked_has_not_failed, answers_set_world, none_failed_set, broken_is_first_failed, none_failed_push, length_of_push}
-- turns in which tries may be refused
pub use Rattle.ir_record.proofs.Refusing.{plain_turns_of_append, is_run_if_in_turns, plain_turns_of_order, order_of_plain_turns, plain_turns_from_order, order_from_plain_turns, in_turns_of_append}
-- each step leaves fewer
pub use Rattle.ir_record.proofs.Tally.{HoldFewObjects, step_lowers_all_left, steps_lower_all_left}
pub use Rattle.ir_record.proofs.Running.{flat_holds_few}
pub use Rattle.ir_record.proofs.Steps.{own_log_is_logged, other_log_is_empty, answers_in-logged, answers_in_append}
pub use Rattle.ir_record.proofs.Following.{plain_turns-replicate}
pub use Rattle.ir_record.proofs.Leading.{other_step_same_thread, repeats_keep_others}
pub use Rattle.ir_record.proofs.Ended.{ask_is_done_or_not}
