-- Reading fields one after the other, where memory may run out.
use Rattle.std.proofs.Common.{◌≡◌, ℕ, ◌-◌, ◌<◌, List, Result}
use Rattle.ir_bytes.specs.Reading.{Reader, fields_at}
use Rattle.ir_bytes.proofs.CallerLemmas.{with_prefix, fields_at_fails}
use Rattle.ir_trace.specs.declared.trace_err.TraceErr.{TraceErr}
use Rattle.ir_trace.specs.declared.trace_err.TraceErr.TheVariants.{Short, Magic, Count, Tag, Reserved, Range, Trailing, NoMem}
use Rattle.ir_trace.specs.Results.{FailsAsTrace}

pub fields_fail_by_field : {X : Type 0} (e : TraceErr) (one : Reader X TraceErr) (prefix : List X) (count i : ℕ) (bytes : List ℕ)
    (total : Result (List X × List ℕ) TraceErr) → i < count → FailsAsTrace e (one bytes)
    → with_prefix prefix (fields_at one (count - i) bytes) ≡ total → FailsAsTrace e total
fields_fail_by_field NoMem one prefix count i bytes total lt h so_far = tt
fields_fail_by_field Short one prefix count i bytes total lt h so_far = fields_at_fails Short one prefix count i bytes total lt h so_far
fields_fail_by_field Magic one prefix count i bytes total lt h so_far = fields_at_fails Magic one prefix count i bytes total lt h so_far
fields_fail_by_field Count one prefix count i bytes total lt h so_far = fields_at_fails Count one prefix count i bytes total lt h so_far
fields_fail_by_field Tag one prefix count i bytes total lt h so_far = fields_at_fails Tag one prefix count i bytes total lt h so_far
fields_fail_by_field Reserved one prefix count i bytes total lt h so_far = fields_at_fails Reserved one prefix count i bytes total lt h so_far
fields_fail_by_field Range one prefix count i bytes total lt h so_far = fields_at_fails Range one prefix count i bytes total lt h so_far
fields_fail_by_field Trailing one prefix count i bytes total lt h so_far = fields_at_fails Trailing one prefix count i bytes total lt h so_far
