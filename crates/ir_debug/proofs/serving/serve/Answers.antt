use Rattle.std.proofs.Common.{◌≡◌, ℕ, Bool, true, false, [], ◌∷◌, refl, subst, ◌∙◌, arith, Ok, Err, OnErr}
use Rattle.std.specs.Prelude.{Result}
use Rattle.ir_stream.specs.declared.serving.Served.{Served}
use Rattle.ir_stream.specs.declared.serving.Fault.{Fault}
use Rattle.ir_stream.specs.declared.serving.Fault.TheVariants.{Write}
use Rattle.std.proofs.lemmas.Bool.{ne_eqb}
use Rattle.std.specs.Io.KnownBytes.{Consumes}
use Rattle.ir_stream.specs.declared.serving.Flow.{Flow}
use Rattle.ir_stream.specs.declared.serving.Flow.TheVariants.{Goes, Quits}
use Rattle.ir_stream.specs.Endings.{flow_after}
use Rattle.ir_stream.proofs.CallerLemmas.{session_at_equal_count, at_start, at_byte, at_feed, quit_ended, quit_known, feed_failed, finish_ended, finish_known, finish_failed, long_ended, long_known}
use Rattle.ir_debug.specs.Machine.{Replies, quits}
use Rattle.ir_debug.proofs.LongLines.{replies_by_kept_bytes, quits_by_kept_bytes}
use Rattle.ir_debug.proofs.ReadThrough.{read_through_line_that_quits, read_through_end}
use Rattle.ir_debug.proofs.serving.serve.Goals as goal

goes : (f : Flow) (b : Bool) → f ≡ flow_after b → f ≡ Goes → b ≡ false
goes f true e is = absurd cc
goes f false e is = refl

quit : (f : Flow) (b : Bool) → f ≡ flow_after b → f ≡ Quits → b ≡ true
quit f true e is = refl
quit f false e is = absurd cc

err_of : (result : Result Served Fault) (P : Type 0) → result ≡ Err Write → OnErr result P → P
err_of (Ok e) P failed h = absurd cc
err_of (Err f) P failed h = h

pub loop-taken-init : goal.loop-taken-init
loop-taken-init g c = record {
  at = rw c.new-line.ensures (at_start Replies quits replies_by_kept_bytes quits_by_kept_bytes c.args.debugger.now.desk
      (g.R.Source.left c.args.reader.now) (g.W.Sink.written c.args.writer.now));
  reads = c.requires.reads;
  writes = c.requires.writes;
}

pub returns-in-End-clause-ended : goal.returns-in-End-clause-ended
returns-in-End-clause-ended g c = finish_ended Replies quits replies_by_kept_bytes quits_by_kept_bytes _ _ _ _ _ _ _ _ _
    (session_at_equal_count _ _ _ _ _ _ _ _ _ _ _ _ c.loop-taken.invariant.at c.as_slice.ensures.value refl)
    c.args.limit c.loop-taken-test.true c.in-End.ensures.bytes.0 _ _ c.finish.ensures.writes.ok c.finish.ensures.served c.finish.ensures.fault

pub returns-in-End-clause-known : goal.returns-in-End-clause-known
returns-in-End-clause-known g c = finish_known Replies quits replies_by_kept_bytes quits_by_kept_bytes _ _ _ _ _ _ _ _ _
    (session_at_equal_count _ _ _ _ _ _ _ _ _ _ _ _ c.loop-taken.invariant.at c.as_slice.ensures.value refl)
    c.args.limit c.loop-taken-test.true c.in-End.ensures.bytes.0 _ _ c.in-End.ensures.bytes.1
    c.finish.ensures.writes.ok c.finish.ensures.served c.finish.ensures.fault

pub returns-in-End-clause-last : goal.returns-in-End-clause-last
returns-in-End-clause-last g c = read_through_end _ _ _ _ _ _ _ _ _
    (session_at_equal_count _ _ _ _ _ _ _ _ _ _ _ _ c.loop-taken.invariant.at c.as_slice.ensures.value refl)
    c.args.limit c.loop-taken-test.true c.in-End.ensures.bytes.0 c.in-End.ensures.bytes.1 _ _ c.finish.ensures.writes.ok c.finish.ensures.served

pub returns-in-End-clause-write : goal.returns-in-End-clause-write
returns-in-End-clause-write g c = λ failed. (
  c.in-End.ensures.broken ∙ c.loop-taken.invariant.reads,
  err_of c.finish.result (g.W.Sink.broken c.finish.new.writer ≡ true) failed c.finish.ensures.writes.err,
  finish_failed Replies quits replies_by_kept_bytes quits_by_kept_bytes _ _ _ _ _ _ _ _ _
      (session_at_equal_count _ _ _ _ _ _ _ _ _ _ _ _ c.loop-taken.invariant.at c.as_slice.ensures.value refl)
      c.args.limit c.loop-taken-test.true c.in-End.ensures.bytes.0 _ _ c.in-End.ensures.bytes.1 failed c.finish.ensures.some
      c.finish.ensures.writes.prefix,
)

pub loop-taken-preserved-then-byte-ne10 : goal.loop-taken-preserved-then-byte-ne10
loop-taken-preserved-then-byte-ne10 g c = record {
  at = at_byte Replies quits replies_by_kept_bytes quits_by_kept_bytes _ _ _ _ _ _ _ _ _ c.loop-taken.invariant.at _ c.in-Byte.byte c.in-Byte.ensures.bytes
      (ne_eqb c.in-Byte.byte 10 c.if-byte-ne10.true) c.keep.ensures;
  reads = c.in-Byte.ensures.broken ∙ c.loop-taken.invariant.reads;
  writes = c.loop-taken.invariant.writes;
}

pub returns-in-Ok-Quits-clause-ended : goal.returns-in-Ok-Quits-clause-ended
returns-in-Ok-Quits-clause-ended g c = quit_ended Replies quits replies_by_kept_bytes quits_by_kept_bytes _ _ _ _ _ _ _ _ _
    (session_at_equal_count _ _ _ _ _ _ _ _ _ _ _ _ c.loop-taken.invariant.at c.as_slice-in-Byte.ensures.value refl)
    c.args.limit c.loop-taken-test.true _ _
    (subst (λ (b : ℕ). Consumes (g.R.Source.left c.loop-taken.reader) (g.R.Source.left c.next_byte.new.reader) (b ∷ []))
    c.if-byte-ne10.false c.in-Byte.ensures.bytes)
    c.in-Ok-Quits.ensures.writes.ok (quit _ _ c.in-Ok-Quits.ensures.flow c.in-Ok-Quits.field-0-is)

pub returns-in-Ok-Quits-clause-known : goal.returns-in-Ok-Quits-clause-known
returns-in-Ok-Quits-clause-known g c = quit_known Replies quits replies_by_kept_bytes quits_by_kept_bytes _ _ _ _ _ _ _ _ _
    (session_at_equal_count _ _ _ _ _ _ _ _ _ _ _ _ c.loop-taken.invariant.at c.as_slice-in-Byte.ensures.value refl)
    c.args.limit c.loop-taken-test.true _ _
    (subst (λ (b : ℕ). Consumes (g.R.Source.left c.loop-taken.reader) (g.R.Source.left c.next_byte.new.reader) (b ∷ []))
    c.if-byte-ne10.false c.in-Byte.ensures.bytes)
    c.in-Ok-Quits.ensures.writes.ok (quit _ _ c.in-Ok-Quits.ensures.flow c.in-Ok-Quits.field-0-is)

pub returns-in-Ok-Quits-clause-last : goal.returns-in-Ok-Quits-clause-last
returns-in-Ok-Quits-clause-last g c = read_through_line_that_quits _ _ _ _ _ _ _ _ _
    (session_at_equal_count _ _ _ _ _ _ _ _ _ _ _ _ c.loop-taken.invariant.at c.as_slice-in-Byte.ensures.value refl)
    c.args.limit c.loop-taken-test.true _ _
    (subst (λ (b : ℕ). Consumes (g.R.Source.left c.loop-taken.reader) (g.R.Source.left c.next_byte.new.reader) (b ∷ []))
    c.if-byte-ne10.false c.in-Byte.ensures.bytes)
    c.in-Ok-Quits.ensures.writes.ok

pub returns-in-Err-clause-write : goal.returns-in-Err-clause-write
returns-in-Err-clause-write g c = λ _. (
  c.in-Byte.ensures.broken ∙ c.loop-taken.invariant.reads,
  c.in-Err.ensures.writes.err,
  feed_failed Replies quits replies_by_kept_bytes quits_by_kept_bytes _ _ _ _ _ _ _ _ _
      (session_at_equal_count _ _ _ _ _ _ _ _ _ _ _ _ c.loop-taken.invariant.at c.as_slice-in-Byte.ensures.value refl)
      c.args.limit c.loop-taken-test.true _
      (subst (λ (b : ℕ). Consumes (g.R.Source.left c.loop-taken.reader) (g.R.Source.left c.next_byte.new.reader) (b ∷ []))
      c.if-byte-ne10.false c.in-Byte.ensures.bytes) c.in-Err.ensures.writes.prefix,
)

pub loop-taken-preserved : goal.loop-taken-preserved
loop-taken-preserved g c = record {
  at = rw c.clear.ensures (at_feed Replies quits replies_by_kept_bytes quits_by_kept_bytes _ _ _ _ _ _ _ _ _
      (session_at_equal_count _ _ _ _ _ _ _ _ _ _ _ _ c.loop-taken.invariant.at c.as_slice-in-Byte.ensures.value refl) _ _
      (subst (λ (b : ℕ). Consumes (g.R.Source.left c.loop-taken.reader) (g.R.Source.left c.next_byte.new.reader) (b ∷ []))
      c.if-byte-ne10.false c.in-Byte.ensures.bytes)
      c.in-Ok-Goes.ensures.writes.ok (goes _ _ c.in-Ok-Goes.ensures.flow c.in-Ok-Goes.field-0-is));
  reads = c.in-Byte.ensures.broken ∙ c.loop-taken.invariant.reads;
  writes = c.in-Ok-Goes.ensures.writes.stays ∙ c.loop-taken.invariant.writes;
}

pub returns-clause-ended : goal.returns-clause-ended
returns-clause-ended g c = long_ended Replies quits replies_by_kept_bytes quits_by_kept_bytes _ _ _ _ _ _ _ c.args.limit
    (session_at_equal_count _ _ _ _ _ _ _ _ _ _ _ _ c.loop-taken.invariant.at refl (omega (arith, c.loop-taken-test.false, c.loop-taken.auto.taken-end)))

pub returns-clause-known : goal.returns-clause-known
returns-clause-known g c = long_known Replies quits replies_by_kept_bytes quits_by_kept_bytes _ _ _ _ _ _ _ c.args.limit
    (session_at_equal_count _ _ _ _ _ _ _ _ _ _ _ _ c.loop-taken.invariant.at refl (omega (arith, c.loop-taken-test.false, c.loop-taken.auto.taken-end)))
