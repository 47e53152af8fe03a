-- What callers may cite of runs from entry to entry.
-- what threads do between their entries may come first
pub use Rattle.ir_search_laws.proofs.First.{own_step_may_come_first}
-- runs that count
pub use Rattle.ir_search_laws.proofs.Rest.{counting_run_is_run, ahead_run_counts, counts_append, goes_ahead_append, entering_append}
pub use Rattle.ir_search_laws.proofs.Rest.{ahead_enters_nothing, invariant_after_counting, ahead_comes_first, none_ahead_if_done}
pub use Rattle.ir_search_laws.proofs.Rest.{none_ahead_if_at_rest, BroughtWhole, ahead_first_if_complete, AnswersFit, ComesToRest}
pub use Rattle.ir_search_laws.proofs.Rest.{completes_comes_to_rest}
-- runs lead over nodes
pub use Rattle.ir_search_laws.proofs.Closed.{ahead_from_alike, arrives_along_chain, RunByEntries, walk, shows}
-- a finished search has the outcomes, all and no others
pub use Rattle.ir_search_laws.proofs.Finished.{arrives_along_entries, done_alike_to_node, done_from_alike, finds, found, exact}
-- what a search has met by levels
pub use Rattle.ir_search_laws.proofs.Within.{OpenedForTurn, switches_arrive_open, switches_outcome_done, Levels, OpenBy}
pub use Rattle.ir_search_laws.proofs.Within.{levels_with_one_added, IsFollowed, covers_first_level, covers_after_next_level, path_append}
pub use Rattle.ir_search_laws.proofs.Within.{last_thread_of, changes_push}
-- hangs
pub use Rattle.ir_search_laws.proofs.Hangs.{Completes, back, hangs, lost_node_has_no_way, done_node_has_way, has_way_by_next}
-- states that look the same are alike
pub use Rattle.ir_search_laws.proofs.Looks.{looks_alike, looks_by}
-- orders of threads, entries and their results, and threads alone
pub use Rattle.ir_search_laws.proofs.Orders.{run_in_turn_of_threads, complete_is_by_order, longer_order_same_end, leads_to_by_equal_act}
pub use Rattle.ir_search_laws.proofs.Orders.{entry_act_zero_or_one, others_kept_by_lone_run, rest_after_lone_run}
-- threads beside their sources
pub use Rattle.ir_search_laws.proofs.Sources.{sourced_is_lawful, plain_end, AllGiven, sourced_counts, sourced_entering, sourced_live}
-- a machine and its view
pub use Rattle.ir_search_laws.proofs.Views.{sourced_view_is_view, sourced_spoils, viewed_end, viewed_entering, viewed_counts, unspoilt_run_is_live, stays_unspoilt_live}
-- a guest's runs and those of its view beside its sources
pub use Rattle.ir_search_laws.proofs.Real.{seen, real_seen, seen_real, seen_good, real_all, real_shown}
-- one state at rest, and all that can be reached
pub use Rattle.ir_search_laws.proofs.Every.{equality_tells_nothing, every, rest_ends_equal}
-- nodes opened one after the other
pub use Rattle.ir_search_laws.proofs.Opening.{OpenedPairs, IsOpened, IsFollowedBut, taken_up, passed_on, laid_down, covers_if_unchanged, followed_if_unchanged}
-- a run by the entries of a path
pub use Rattle.ir_search_laws.proofs.Told.{told}
