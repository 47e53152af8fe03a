-- What callers may cite.
pub use Rattle.ir_asm.proofs.Steps.{ok_if_at_line_is_ok, parts_of_ok_bind, parts_of_ok_unless}
