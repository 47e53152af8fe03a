use Rattle.std.proofs.Common.{◌≡◌, ◌+◌, ◌≤◌, length}
use Rattle.ir_asm.specs.Source.{texts_of}
use Rattle.ir_asm.specs.Operands.{are_formed}
use Rattle.ir_asm.proofs.Texts.{texts_left, size_left}
use Rattle.ir_asm.proofs.operands.are_formed.Given as goal

-- what is left decides
abbrev pub invariant-loop-more : goal.invariant-loop-more
invariant-loop-more l = record {
  whole_is : are_formed l.form l.place (texts_left l.more l.rest) ≡ are_formed l.form 0 (texts_of l.text);
  small : l.place + size_left l.more l.rest ≤ length l.text + 1;
}

abbrev pub decreases-loop-more : goal.decreases-loop-more
decreases-loop-more l = size_left l.more l.rest
