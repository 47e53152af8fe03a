-- What callers may cite of coherence.
-- no event of a coherent trace breaks coherence
pub use Rattle.ir_coherence.proofs.Causes.{coherent_is_unbroken}
-- the counts of a recorded trace bound its threads, and their events
pub use Rattle.ir_coherence.proofs.Breaks.{recorded_thread_fits, at_of_mapped_label, event_of_label_at}
