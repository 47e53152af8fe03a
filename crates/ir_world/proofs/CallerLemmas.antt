-- What callers may cite of the worlds of a guest's threads.
-- there is a world for each thread, and each was answered by its own sources
pub use Rattle.ir_world.proofs.Fresh.{world_count_is_threads, answered_by_own_origin}
