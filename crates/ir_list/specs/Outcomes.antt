-- What a listing leaves of the device that takes it.
use Rattle.std.specs.Prelude.{Bool, true, Result, Ok, Err}
use Rattle.ir_list.specs.declared.list_err.ListErr.{ListErr}
use Rattle.ir_list.specs.declared.list_err.ListErr.TheVariants.{NoMem, Device}

-- whether the device has failed after a call: it has if it was the cause, else no more than before
abbrev pub failed_after : {A : Type 0} → Result A ListErr → Bool → Bool
failed_after (Ok x) before = before
failed_after (Err NoMem) before = before
failed_after (Err Device) before = true
