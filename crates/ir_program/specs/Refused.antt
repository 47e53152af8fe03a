-- How bytes are refused that are no trace.
use Rattle.std.specs.Prelude.{◌≡◌, Err}
use Rattle.ir_trace.specs.declared.trace_err.TraceErr.{TraceErr}
use Rattle.ir_debug.specs.Machine.{TraceRefused, opening_text}
use Rattle.ir_commands.specs.Listing.{shown_trace}

-- the law: what `ir trace` prints of them is the line with which a session refuses them
abbrev pub TraceRefusedAlike : Type 0
TraceRefusedAlike = (e : TraceErr) → shown_trace (Err e) ≡ opening_text (TraceRefused e)
