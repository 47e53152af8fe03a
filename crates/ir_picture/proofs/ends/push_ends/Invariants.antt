use Rattle.std.proofs.Common.{◌≡◌, ◌++◌, drop}
use Rattle.ir_picture.specs.Chrome.{end_lines}
use Rattle.ir_picture.proofs.ends.push_ends.Given as goal

abbrev pub invariant-loop-number : goal.invariant-loop-number
invariant-loop-number l =
    l.text.items ++ end_lines l.number (drop l.number l.threads) (drop l.number l.ends) ≡ l.fn.text.items ++ end_lines 0 l.threads l.ends
