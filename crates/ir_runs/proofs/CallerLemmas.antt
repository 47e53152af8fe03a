-- What callers may cite of runs, cuts, traces and verdicts.
-- tables of threads and objects
pub use Rattle.ir_runs.proofs.Tables.{upd_at_own_place, upd_at_other_place, upd_by_cases, upd_with_old_value}
-- what holds in each state that a run reaches
pub use Rattle.ir_runs.proofs.Good.{StateInvariant, state_invariant_step, state_invariant_start, state_invariant_run}
-- threads that are done stay so, and some thread has a step
pub use Rattle.ir_runs.proofs.Stuck.{some_thread_can_step, later_threads_stay_done, idle_after_run}
-- runs one after the other
pub use Rattle.ir_runs.proofs.Append.{join_if-append, trail_append, append_of_runs_is_run, end_append, events_append, log_append}
-- runs with one trace
pub use Rattle.ir_runs.proofs.Same.{thread_after_other, same_logs_same_trails}
-- the part of a run in a cut is a run
pub use Rattle.ir_runs.proofs.Sort.{PartIsRun, consistent_part_is_run}
-- runs that follow a trace
pub use Rattle.ir_runs.proofs.Follow.{events_then_left_log, maximal_reaches_own_run, fits_length_bound}
-- sums over threads
pub use Rattle.ir_runs.proofs.Tally.{sum_below_is_monotone, sum_below_less, sum_below_cong, sum_below_of_zeros, act_never_lowers_version}
-- laws of cuts, and of runs with one trace
pub use Rattle.ir_runs.proofs.Determined.{state_at_consistent_cut, same_trace_same_run, further_at_own_thread, further_at_other_thread, cut_below_further}
-- whatever follows a trace as far as any run can has gone as far as each other such run
pub use Rattle.ir_runs.proofs.Confluent.{maximal_reach_same_end}
-- a run's own trace is coherent
pub use Rattle.ir_runs.proofs.Own.{idle_stays_idle, own_trace_is_coherent}
-- a run's last step, and its end
pub use Rattle.ir_runs.proofs.Ending.{trail_cons_own, trail_cons_other, AfterThreadEnd, ended_only_leaves, last_step_can_be_taken, complete_run_follows, thread_after_own_step}
-- verdicts
pub use Rattle.ir_runs.proofs.Judge.{ask_is_done_or_not, agrees_is_decidable, follows_push, verdict_exists, verdict_unique, same_reach_same_verdict, done_follower_is_whole, whole_run_follower_done}
-- the first steps of a run, and the one step of a thread that can follow
pub use Rattle.ir_runs.proofs.OneResult.{prefix_of_run_is_run, last_step_fits, maximal_if_none_go_on}
-- there is a run that follows as far as any can
pub use Rattle.ir_runs.proofs.Onward.{MaximalRun, maximal_run_exists}
-- from where the threads are to their verdicts
pub use Rattle.ir_runs.proofs.Settled.{all_standing_is_maximal, verdict_from_standing, not_same_is_not_done, all_same_is_done}
-- cuts: order, the lattice, extremes
pub use Rattle.ir_runs.proofs.Order.{max_is_consistent, min_is_consistent, equal_cut_is_consistent, admitted_persists, Progress}
pub use Rattle.ir_runs.proofs.Order.{progress_to_consistent, least_exact_at_thread, greatest_exact_at_thread}
-- the least cut
pub use Rattle.ir_runs.proofs.Exist.{least_cut_exists}
-- the greatest cut
pub use Rattle.ir_runs.proofs.Highest.{greatest_cut_exists}
-- who may step at a cut
pub use Rattle.ir_runs.proofs.Admit.{admitted_by_log, at_place_is_unique, further_within, drop_at_element, zero_cut_part_is_empty, below_target_or_none}
-- cuts of a prefix of a run
pub use Rattle.ir_runs.proofs.Prefixes.{IsPrefix, beginning_is_prefix}
-- runs by an order of the threads
pub use Rattle.ir_runs.proofs.Turns.{run_in_turn_is_run, in_turn_of_append}
-- steps of different threads commute, unless both enter
pub use Rattle.ir_runs.proofs.Swap.{Clash, IsEntry, objects_equal_by_parts, upd_twice_is_last_upd}
pub use Rattle.ir_runs.proofs.Steps.{Clashes, StepUnchanged, step_unchanged_by_other, steps_commute}
-- results with which a thread does the same
pub use Rattle.ir_runs.proofs.Pull.{after_same_if_act_same, clash_is_symmetric, join_if_commutes}
pub use Rattle.ir_runs.proofs.Ratchet.{at_of_join_if_cases}
