-- Acts on objects.
use Rattle.std.specs.Prelude.{Bool, true, false}
use Rattle.ir_runs.specs.Machine.{Act, Entered, Left, Got, Stored}

-- whether the act enters, leaves, reads or writes an object
abbrev pub is_shared : Act → Bool
is_shared (Entered o a v) = true
is_shared (Left o a) = true
is_shared (Got o i) = true
is_shared (Stored o i w) = true
is_shared q = false
