-- What callers' proofs cite.
pub use Rattle.ir_thread_bytes.proofs.Alike.{over_if_shared_ask_done, shared_ask_done_if_over, same_bytes_over_same}
pub use Rattle.ir_thread_bytes.proofs.Back.{thawed-changes}
