-- What callers may cite of threads.
-- the greatest object that is held
pub use Rattle.ir_thread.proofs.Highest.{none_held_above, held_count_after_leave, held_count_le_length}
-- what is known of a thread where it asks something
pub use Rattle.ir_thread.proofs.Asked.{ask_of_permitted, environment_result_word}
-- a thread enters in order, uses what it holds, and releases it after its end
pub use Rattle.ir_thread.proofs.Lawful.{thread_machine_lawful, end_number_and_code, thread_machine_closing, other_answer_keeps_held}
-- whoever answers a thread, it is the thread run alone
pub use Rattle.ir_thread.proofs.Alone.{lone_run_after_replies}
-- private steps, the first of them, and what they leave as it is
pub use Rattle.ir_thread.proofs.PrivateRuns.{KeepsOwnParts, private_steps_prefix, private_steps_keep, private_steps_keep_held}
-- those at instructions that aren't marked
pub use Rattle.ir_thread.proofs.Unmarked.{zero_unmarked_steps, unmarked_steps_prefix, thread_step_unmarked, unmarked_keep_memory}
-- a thread's registers hold words and its private memory bytes, whatever it asks, and so do its end and what it puts
pub use Rattle.ir_thread.proofs.Words.{AsksWords, ask_of_has_words, ask_reply_has_words, end_of_number_and_code}
