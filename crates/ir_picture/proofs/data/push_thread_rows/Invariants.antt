use Rattle.std.proofs.Common.{◌≡◌, ◌++◌, drop}
use Rattle.std.specs.String.{string_bytes}
use Rattle.ir_picture.specs.Numbers.{thread_rows}
use Rattle.ir_picture.proofs.data.push_thread_rows.Given as goal

abbrev pub invariant-loop-number : goal.invariant-loop-number
invariant-loop-number l =
    string_bytes l.text ++ thread_rows l.number (drop l.number l.threads) (drop l.number l.ends)
    ≡ string_bytes l.fn.text ++ thread_rows 0 l.threads l.ends
