-- What callers may cite of a stream that is read on.
-- what a byte ends and where it leads, by the bytes that a reader keeps
pub use Rattle.ir_packet.proofs.Pieces.{ends_ignores_kept, kept_step_ignores_kept}
-- what two pieces hold, and what a reader finds of a piece
pub use Rattle.ir_packet.proofs.Pieces.{items_from_of_append, items_read-kept}
