-- What a writer with names has: the names, and how far the answer has come.
use Rattle.ir_names.specs.Naming.{Reached}
use Rattle.ir_names.specs.Things.{NameTable}
use Rattle.ir_names.specs.declared.sink.NamedSink.{NamedSink}

-- the names that it puts in
abbrev pub names_of : {W : Type 0} → NamedSink W → NameTable
names_of sink = sink.names

-- how far the answer has come
abbrev pub reached_of : {W : Type 0} → NamedSink W → Reached
reached_of sink = sink.reached
