-- What callers may cite of a guest's graph.
-- threads beside their sources, and runs of them
pub use Rattle.ir_graph.proofs.Full.{tables_of_full_end, answered_run_append, counts_of_live_run_seen, end_of_live_run_seen, seen_state}
-- runs of steps that concern no other thread
pub use Rattle.ir_graph.proofs.Plain.{TakesStep, rest_ask_is_not_own, goes_plain_reflexive, goes_plain_transitive, goes_plain_by_fair_step}
pub use Rattle.ir_graph.proofs.Plain.{goes_plain_by_private, rest_takes_step, resting_thread_is_live, like_reflexive, like_transitive}
pub use Rattle.ir_graph.proofs.Plain.{like_symmetric, plain_flat_is_like, step_flat_is_like}
-- where threads lead
pub use Rattle.ir_graph.proofs.Found.{all_rest_after_turn}
pub use Rattle.ir_graph.proofs.Leads.{every_number_rests, seen_is_at_rest, no_seen_refusal, no_seen_step_if_no_step, no_seen_step_if_done}
pub use Rattle.ir_graph.proofs.Leads.{way_leads_to_alike_node, begins_by_plain_steps, look_alike_reflexive}
-- a thread that goes on alone
pub use Rattle.ir_graph.proofs.Turn.{ways_taken-append, ways_taken_threads, goes_alone_no_steps, goes_alone_append, goes_alone_by_entry}
pub use Rattle.ir_graph.proofs.Turn.{alone_flat_is_like, alone_run_in_turns, going_alone_in_turns, plain_turns_as_sourced}
-- runs of a guest from its start
pub use Rattle.ir_graph.proofs.Reached.{answered_run_is_run, done_run_is_counted, reached_tables_are_end, plain_start_is_reached, reached_after_step}
-- why a search stops
pub use Rattle.ir_graph.proofs.Stops.{may_stop_by_memory, may_stop_by_thread_stop, stop_after_plain_steps, stop_after_entry}
-- hangs
pub use Rattle.ir_graph.proofs.Hangs.{answered_is_counting, hang_never_completes, can_end_if_run_can, alike_tells_nothing}
-- calls for the time
pub use Rattle.ir_graph.proofs.Ticks.{first_source_no_ticks}
-- states that look the same
pub use Rattle.ir_graph.proofs.Listed.{alike_same_outcomes}
-- how many switches a state needs
pub use Rattle.ir_graph.proofs.Standing.{needs_level_switches}
