use Rattle.std.proofs.Common.{◌∙◌, ◌+◌, sym, arith, length}
use Rattle.std.proofs.lemmas.Bool.{eqb-true}
use Rattle.ir_names.specs.Lines.{names_at}
use Rattle.ir_names.proofs.Feeds.{names_of_first_line, names_of_no_text, read_fault}
use Rattle.ir_names.proofs.reading.read_names.Goals as goal

pub returns-in_err-add_line-clause-faulty : goal.returns-in_err-add_line-clause-faulty
returns-in_err-add_line-clause-faulty c = read_fault (names_at c.args.bytes.now) c.loop-rest.names c.loop-rest.number c.loop-rest.rest.now
    c.first_line.result.0.now c.first_line.result.1.now c.from_residual.result c.in_err-add_line.field-0.0 c.first_line.ensures.lines c.loop-rest.invariant.names
    c.from_residual.ensures.1 c.in_err-add_line.ensures.faulty

pub loop-rest-preserved : goal.loop-rest-preserved
loop-rest-preserved c = record {
  names = sym (names_of_first_line c.loop-rest.names c.add_line.new.names (c.loop-rest.number + 1) c.loop-rest.rest.now c.first_line.result.0.now
      c.first_line.result.1.now c.first_line.ensures.lines c.in_ok-add_line.ensures.added) ∙ c.loop-rest.invariant.names;
  small = omega (arith, c.first_line.ensures.shorter, c.loop-rest.invariant.small);
}

pub returns-clause-read : goal.returns-clause-read
returns-clause-read c = sym c.loop-rest.invariant.names
    ∙ names_of_no_text c.loop-rest.names (c.loop-rest.number + 1) c.loop-rest.rest.now
    (eqb-true (length c.loop-rest.rest.now) 0 (sym c.loop-rest-test.ensures))
