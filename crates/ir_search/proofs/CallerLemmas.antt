-- What callers may cite of a search.
-- what is gone over of numbers is gone over of the machine
pub use Rattle.ir_lemmas.proofs.CallerLemmas.{slice_get-push_cases, slice_get_append_kept}
pub use Rattle.ir_search.proofs.Meant.{repeat_switches_le_suc, switches_of_repeated, node_order, asked_finished, marked_way, way_to_marked, Opened, covered_covers}
-- what is gone over up to a level
pub use Rattle.ir_search.proofs.Gone.{covered_below_gone_over}
-- a list with one more
pub use Rattle.ir_search.proofs.Reached.{slice_get_some_below, WaysUnder, ways_under_number_are, same_number_same_ways}
-- a search with no next level
pub use Rattle.ir_search.proofs.Between.{empty_level_all_asked}
