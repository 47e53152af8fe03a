use Rattle.std.proofs.Common.{refl}
use Rattle.std.specs.String.{string_bytes}
use Rattle.ir_hunt.proofs.Stopping.{left_out_are_told, none_left_out_is_told}
use Rattle.ir_hunt.proofs.hunting.tell_left_out.Goals as goal

pub returns-in-Some : goal.returns-in-Some
returns-in-Some g c left_out is = left_out_are_told (string_bytes c.in-Some.words) left_out _ _ (rw c.in-Some.is at is) (rw c.as_str.ensures.value at c.tell.ensures)

pub returns-in-None : goal.returns-in-None
returns-in-None g c left_out is = none_left_out_is_told left_out _ _ (rw c.in-None.is at is) refl
