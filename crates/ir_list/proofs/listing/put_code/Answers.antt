use Rattle.std.proofs.Common.{◌∙◌, ◌+◌, ◌*◌, ℕ, List, arith}
use Rattle.ir_lemmas.proofs.CallerLemmas.{on_err_holds}
use Rattle.ir_image.specs.Guest.{code_start}
use Rattle.ir_symbols.specs.Symbols.{Symbol}
use Rattle.ir_list.specs.Listing.{word_lines}
use Rattle.ir_list.proofs.Written.{written_next_line, prefix_of_next_line, written_whole_at_end}
use Rattle.ir_list.proofs.listing.put_code.Goals as goal

-- the lines of the word of this number
abbrev code_lines : List Symbol → ℕ → ℕ → List ℕ
code_lines symbols number word = word_lines symbols (code_start + 4 * number) word

pub returns-in_err-write_all-clause-prefix : goal.returns-in_err-write_all-clause-prefix
returns-in_err-write_all-clause-prefix g c = on_err_holds c.from_residual-in_err-write_all.result
    (prefix_of_next_line (code_lines c.args.symbols.now) (g.O.Sink.written c.args.out.now) (g.O.Sink.written c.loop-number.out) _ c.loop-number.number
    c.args.code.now c.as_bytes.result.now _ c.loop-number-test.true
    (c.as_bytes.ensures.value ∙ c.in_ok-lines.ensures) c.loop-number.invariant.text c.in_err-write_all.ensures.prefix)

pub loop-number-preserved : goal.loop-number-preserved
loop-number-preserved g c = record {
  text = written_next_line (code_lines c.args.symbols.now) (g.O.Sink.written c.args.out.now) (g.O.Sink.written c.loop-number.out) _
      c.loop-number.number c.args.code.now c.as_bytes.result.now _ c.loop-number-test.true (c.as_bytes.ensures.value ∙ c.in_ok-lines.ensures) c.loop-number.invariant.text c.in_ok-write_all.ensures.ok;
  failed = c.in_ok-write_all.ensures.stays ∙ c.loop-number.invariant.failed;
}

pub returns-clause-ok : goal.returns-clause-ok
returns-clause-ok g c = written_whole_at_end (code_lines c.args.symbols.now) _ _ c.loop-number.number c.args.code.now _
    (omega (arith, c.loop-number-test.false, c.loop-number.auto.number-end)) c.loop-number.invariant.text
