use Rattle.std.proofs.Common.{◌∙◌, ◌+◌, ◌<◌, List, ap, sym, arith, append-nil, Ok}
use Rattle.ir_symbols.specs.Symbols.{Symbol}
use Rattle.ir_symbols.specs.Maps.{symbols_at, symbols_from}
use Rattle.ir_symbols.proofs.Lines.{lines_left, size_left, with_all, symbols_no_lines, symbols_silent_line, symbols_symbol_line, symbols_faulty_line, size_left_falls}
use Rattle.ir_symbols.proofs.reading.symbols.Goals as goal

pub returns-in-Faulty : goal.returns-in-Faulty
returns-in-Faulty c = symbols_faulty_line (symbols_at c.args.bytes.now) c.loop-rest.symbols.items c.loop-rest.number c.loop-rest.rest
    c.first_line.result.1 c.in-Some.text c.first_line.result.0.now c.in-Some.is c.first_line.ensures.lines
    (sym c.in-Faulty.is ∙ c.in_ok-entry.ensures) c.loop-rest.invariant.symbols

pub loop-rest-preserved-in-Nothing : goal.loop-rest-preserved-in-Nothing
loop-rest-preserved-in-Nothing c =
    let less : size_left c.first_line.result.1 < size_left c.loop-rest.rest =
    size_left_falls c.loop-rest.rest c.first_line.result.1 c.in-Some.text c.in-Some.is c.first_line.ensures.shorter in
    record {
      symbols = symbols_silent_line (symbols_at c.args.bytes.now) c.loop-rest.symbols.items c.loop-rest.number c.loop-rest.rest
          c.first_line.result.1 c.in-Some.text c.first_line.result.0.now c.in-Some.is c.first_line.ensures.lines
          (sym c.in-Nothing.is ∙ c.in_ok-entry.ensures) c.loop-rest.invariant.symbols;
      small = omega (arith, less, c.loop-rest.invariant.small);
    }

pub loop-rest-preserved : goal.loop-rest-preserved
loop-rest-preserved c =
    let less : size_left c.first_line.result.1 < size_left c.loop-rest.rest =
    size_left_falls c.loop-rest.rest c.first_line.result.1 c.in-Some.text c.in-Some.is c.first_line.ensures.shorter in
    record {
      symbols = ap (λ (l : List Symbol). with_all l (symbols_from (c.loop-rest.number + 1 + 1) (lines_left c.first_line.result.1)))
          c.in_ok-push-in-Names.ensures.items
          ∙ symbols_symbol_line (symbols_at c.args.bytes.now) c.loop-rest.symbols.items c.loop-rest.number c.loop-rest.rest
          c.first_line.result.1 c.in-Some.text c.first_line.result.0.now c.in-Names.symbol c.in-Some.is c.first_line.ensures.lines
          (sym c.in-Names.is ∙ c.in_ok-entry.ensures) c.loop-rest.invariant.symbols;
      small = omega (arith, less, c.loop-rest.invariant.small);
    }

pub returns : goal.returns
returns c = sym c.loop-rest.invariant.symbols
    ∙ ap (with_all c.loop-rest.symbols.items) (symbols_no_lines (c.loop-rest.number + 1) c.loop-rest.rest c.in_default.not-Some)
    ∙ ap (λ (l : List Symbol). Ok l) (append-nil c.loop-rest.symbols.items)
