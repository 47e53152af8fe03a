use Rattle.std.proofs.Common.{◌≡◌, ◌<◌, ◌∙◌, sym, ap, Ok, arith, length}
use Rattle.std.proofs.lemmas.Bool.{eqb-false}
use Rattle.ir_lemmas.proofs.CallerLemmas.{on_err_holds}
use Rattle.ir_names.proofs.Written.{grown_by_end, grown_by_passing, kept_after_name, kept_in_name}
use Rattle.ir_names.proofs.sink.NamedSinkSink.write.Goals as goal

pub returns-then-count-gt0-clause-bytes : goal.returns-then-count-gt0-clause-bytes
returns-then-count-gt0-clause-bytes g c =
    grown_by_passing c.args.self.now.names c.args.self.now.reached c.take.new.self (g.W.Sink.broken c.args.self.now.sink) (g.W.Sink.broken c.write.new.self)
    c.args.bytes.now c.in_ok-taken.taken c.passed-count.result (g.W.Sink.written c.args.self.now.sink) (g.W.Sink.written c.write.new.self)
    (sym c.failed.ensures ∙ c.if-failed.false) c.in_ok-taken.ensures.stays c.passed-count.ensures.value c.in_ok-taken.ensures.count c.take.ensures
    c.in_ok-taken.ensures.bytes

pub returns-in_err-put_name-clause-kept : goal.returns-in_err-put_name-clause-kept
returns-in_err-put_name-clause-kept g c = on_err_holds c.from_residual-in_err-put_name.result
    (kept_in_name c.args.self.now.names c.args.self.now.reached (g.W.Sink.broken c.args.self.now.sink) (g.W.Sink.broken c.put_name.new.sink)
    (g.W.Sink.written c.args.self.now.sink) (g.W.Sink.written c.put_name.new.sink) (sym c.failed.ensures ∙ c.if-failed.false)
    c.in_err-put_name.ensures.err c.in_err-put_name.ensures.prefix)

pub returns-in_err-taken-2-clause-kept : goal.returns-in_err-taken-2-clause-kept
returns-in_err-taken-2-clause-kept g c = on_err_holds c.from_residual-in_err-taken-2.result
    (kept_after_name c.args.self.now.names c.args.self.now.reached (g.W.Sink.broken c.args.self.now.sink) (g.W.Sink.broken c.write-2.new.self)
    (g.W.Sink.written c.args.self.now.sink) (g.W.Sink.written c.put_name.new.sink) (g.W.Sink.written c.write-2.new.self)
    (sym c.failed.ensures ∙ c.if-failed.false) c.in_err-taken-2.ensures.err c.in_ok-put_name.ensures.ok c.in_err-taken-2.ensures.kept)

pub returns-clause-bytes : goal.returns-clause-bytes
returns-clause-bytes g c =
    let none : c.passed-count.result ≡ 0 = omega (arith, c.if-count-gt0.false) in
    let filled : length c.args.bytes.now ≡ 0 → ⊥ = eqb-false (length c.args.bytes.now) 0 (sym c.is_empty.ensures ∙ c.if-is_empty.false) in
    let some : 0 < length c.args.bytes.now = omega (arith, filled) in
    grown_by_end c.args.self.now.names c.args.self.now.reached c.take-2.new.self (g.W.Sink.broken c.args.self.now.sink) (g.W.Sink.broken c.write-2.new.self)
    c.args.bytes.now c.in_ok-taken-2.taken (g.W.Sink.written c.args.self.now.sink) (g.W.Sink.written c.put_name.new.sink) (g.W.Sink.written c.write-2.new.self)
    (sym c.failed.ensures ∙ c.if-failed.false) (sym c.passed-count.ensures.value ∙ none) some c.in_ok-taken-2.ensures.count (λ e. c.in_ok-taken-2.ensures.some (ap Ok e)) c.take-2.ensures
    c.in_ok-put_name.ensures.ok c.in_ok-taken-2.ensures.bytes
