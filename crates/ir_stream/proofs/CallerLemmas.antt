-- What callers may cite of answers that were written.
-- a prefix of a text is one of a longer text, and after all of a first text one of both
pub use Rattle.ir_stream.proofs.Replies.{appends_prefix_append, appends_prefix_longer}
-- a call that wrote all or failed, an error that is handed on, and a call that writes the rest of a text
pub use Rattle.ir_stream.proofs.Writing.{writes_or_fails_whole, writes_or_fails_part, writes_or_fails_error, writes_text_after_part, writes_from_earlier, writes_or_fails_mono}
-- the last line, which may be empty
pub use Rattle.ir_stream.proofs.Replies.{wrote_empty_end, wrote_last_line, quits_of_empty_end, quits_of_end}
-- where a loop over lines is, byte by byte, and what it leaves at each of its exits
pub use Rattle.ir_stream.proofs.Exits.{IsSessionAt, session_at_equal_count, at_start, at_byte, at_feed, quit_ended, quit_known, feed_failed}
pub use Rattle.ir_stream.proofs.Exits.{finish_ended, finish_known, finish_failed, long_ended, long_known, prefix_after_whole}
pub use Rattle.ir_stream.proofs.Hearing.{consumed_input_satisfies}
