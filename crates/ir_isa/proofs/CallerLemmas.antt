-- What callers may cite.
pub use Rattle.ir_isa.proofs.WordLaws.{extended-low_bits_12, extended-low_bits_13, extended-low_bits_21}
