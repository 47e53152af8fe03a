use Rattle.std.proofs.Common.{◌≡◌, false, vec_len}
use Rattle.std.specs.Io.KnownBytes.{Consumes}
use Rattle.ir_program.specs.Taking.{IsPlainLine}
use Rattle.ir_program.proofs.line.read_line.Given as goal

abbrev pub invariant-loop : goal.invariant-loop
invariant-loop g l = record {
  taken : Consumes (g.R.Source.left l.fn.reader) (g.R.Source.left l.reader) l.line.items;
  plain : IsPlainLine l.line.items;
  count : vec_len l.line ≡ l.counter;
  works : g.R.Source.broken l.reader ≡ false;
}
