use Rattle.std.proofs.Common.{◌≡◌, ◌+◌, ◌≤◌, length}
use Rattle.ir_asm.specs.Source.{texts_of}
use Rattle.ir_asm.specs.Operands.{read_all}
use Rattle.ir_asm.proofs.Texts.{texts_left, size_left, onto}
use Rattle.ir_asm.proofs.operands.read_all.Given as goal

-- the operands so far, and those that are left
abbrev pub invariant-loop-more : goal.invariant-loop-more
invariant-loop-more l = record {
  whole_is : onto l.operands.items (read_all l.form l.place (texts_left l.more l.rest)) ≡ read_all l.form 0 (texts_of l.text);
  small : l.place + size_left l.more l.rest ≤ length l.text + 1;
}

abbrev pub decreases-loop-more : goal.decreases-loop-more
decreases-loop-more l = size_left l.more l.rest
