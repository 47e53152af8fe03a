use Rattle.std.proofs.Common.{◌∙◌, arith}
use Rattle.ir_lemmas.proofs.CallerLemmas.{on_err_holds}
use Rattle.ir_list.specs.Listing.{entry_thread_line}
use Rattle.ir_list.proofs.Written.{written_next_line, prefix_of_next_line, written_whole_at_end}
use Rattle.ir_list.proofs.listing.put_threads.Goals as goal

pub returns-in_err-write_all-clause-prefix : goal.returns-in_err-write_all-clause-prefix
returns-in_err-write_all-clause-prefix g c = on_err_holds c.from_residual-in_err-write_all.result
    (prefix_of_next_line (entry_thread_line c.args.symbols.now) (g.O.Sink.written c.args.out.now) (g.O.Sink.written c.loop-number.out) _ c.loop-number.number
    c.args.entries.now c.as_bytes.result.now _ c.loop-number-test.true
    (c.as_bytes.ensures.value ∙ c.in_ok-line.ensures) c.loop-number.invariant.text c.in_err-write_all.ensures.prefix)

pub loop-number-preserved : goal.loop-number-preserved
loop-number-preserved g c = record {
  text = written_next_line (entry_thread_line c.args.symbols.now) (g.O.Sink.written c.args.out.now) (g.O.Sink.written c.loop-number.out) _
      c.loop-number.number c.args.entries.now c.as_bytes.result.now _ c.loop-number-test.true
      (c.as_bytes.ensures.value ∙ c.in_ok-line.ensures) c.loop-number.invariant.text c.in_ok-write_all.ensures.ok;
  failed = c.in_ok-write_all.ensures.stays ∙ c.loop-number.invariant.failed;
}

pub returns-clause-ok : goal.returns-clause-ok
returns-clause-ok g c = written_whole_at_end (entry_thread_line c.args.symbols.now) _ _ c.loop-number.number c.args.entries.now _
    (omega (arith, c.loop-number-test.false, c.loop-number.auto.number-end)) c.loop-number.invariant.text
