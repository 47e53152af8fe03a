-- What a contract sees of a reader or a writer of std.
use Rattle.std.specs.Prelude.{Bool}
use Rattle.ir_stream.specs.declared.from_std.FromStd.{FromStd}

-- the reader or the writer
abbrev pub device_of : {D : Type 0} → FromStd D → D
device_of s = s.device

-- whether one of its calls has failed
abbrev pub has_failed : {D : Type 0} → FromStd D → Bool
has_failed s = s.failed
