-- What callers may cite of steps on a walk over a recorded run.
-- the calls of steps after others, whether the replies fit, and what the steps ask
pub use Rattle.ir_event_walk.proofs.Taken.{calls_in_split, all_suit_append}
pub use Rattle.ir_event_walk.proofs.Asked.{no_call_steps_private, call_step_asks_call}
-- a thread that holds an object, and the words of the object there
pub use Rattle.ir_event_walk.proofs.Held.{object_held_after_entry, object_held_before_leave, held_words_at_standing}
-- each of a list's elements
pub use Rattle.ir_event_walk.proofs.Lists.{each_element_after_push, permuted_all_satisfy, permuted_element_exists}
