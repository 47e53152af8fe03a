-- What callers may cite of a debugger that is lent.
-- a hit that is found is at a position of the thread
pub use Rattle.ir_lemmas.proofs.CallerLemmas.{all_of_push}
pub use Rattle.ir_debug.proofs.Leading.{found_hit_le_last}
-- what was opened, and how a session ends, from the answers to lines
pub use Rattle.ir_debug.proofs.Openings.{reads_up_to_of_implied, if_some_of_implied, if_served_implied_end, opens_ready_desk, read_end_is_read_fault, write_end_is_fault}
-- lists with an element more, or without some
pub use Rattle.ir_debug.proofs.Chosen.{filter_keeps_all, filter_is_not_longer}
