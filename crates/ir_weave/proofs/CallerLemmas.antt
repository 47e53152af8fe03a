-- What callers may cite of the table of a replay.
-- what the trace leaves to the threads at a cut is the log of the steps after it
pub use Rattle.ir_weave.proofs.Behind.{guest_machine_is_lawful, guest_start_invariant, admitted_logs_next}
-- what the threads logged up to a cut is the first of what is recorded of them
pub use Rattle.ir_weave.proofs.Before.{LogsBefore, logs_before_cut_recorded}
-- a state that advances along the trace is a state at a later cut
pub use Rattle.ir_weave.proofs.Onward.{stepped_by_result, position_after_alone, other_position_alone, under_target_after_alone}
-- the result with which a thread takes its next step, by what it asks
pub use Rattle.ir_weave.proofs.Results.{suited_call_logs_next, unsuited_call_logs_none, open_entry_logs_zero, shut_entry_logs_none}
pub use Rattle.ir_weave.proofs.Results.{unsuited_entry_logs_none, refused_try_logs_zero, open_try_logs_one, shut_try_logs_none}
pub use Rattle.ir_weave.proofs.Results.{unsuited_try_logs_none, entered_index_below, entered_is_its_cell}
-- what a step of a thread in a run emits, and the thread after it, by the thread before it
pub use Rattle.ir_weave.proofs.Trails.{StepOf, emitting_is_step_of}
-- a state advances by a step of a thread that is admitted
pub use Rattle.ir_weave.proofs.Forth.{CaughtUp, catches_up_alone}
-- a thread that advances by itself beside its trace
pub use Rattle.ir_weave.proofs.Lone.{step_below_count_emits}
-- after its last step a thread is as at the end
pub use Rattle.ir_weave.proofs.Ended.{thread_in_past_length}
-- a thread of a state is where it is
pub use Rattle.ir_weave.proofs.Numbers.{state_ahead_at_position}
