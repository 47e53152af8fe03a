-- What callers may cite of answers with names.
-- what a writer took of an answer with names, by what is known of the plain answer, and that nothing is taken at the start
pub use Rattle.ir_names.proofs.Put.{TakesNamed, known_at_start, takes_named_if_known}
