-- What callers may cite of texts that are written line by line.
pub use Rattle.ir_text.proofs.Buffers.{buffered_line, written_none_left, prefix_by_failed_line, prefix_by_failed_write}
