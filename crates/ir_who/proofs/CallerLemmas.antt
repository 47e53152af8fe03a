-- What callers may cite.
pub use Rattle.ir_who.proofs.Within.{version_maker_is_inside}
