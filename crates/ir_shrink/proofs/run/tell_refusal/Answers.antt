use Rattle.std.proofs.Common.{sym, subst}
use Rattle.ir_files.specs.Writers.{writer_of}
use Rattle.ir_shrink.specs.Stopping.{IsRefusalTold}
use Rattle.ir_shrink.proofs.run.tell_refusal.Goals as goal

pub returns-in-Unmet : goal.returns-in-Unmet
returns-in-Unmet g c = subst (λ why. IsRefusalTold why c.args.plan.now
    (writer_of (g.E.Sink.written c.args.faults.now) (g.E.Sink.written c.tell_of.new.faults) (g.E.Sink.broken c.tell_of.new.faults))) (sym c.in-Unmet.is)
    (rw c.text_at.ensures at c.tell_of.ensures)

pub returns-in-Stale : goal.returns-in-Stale
returns-in-Stale g c = subst (λ why. IsRefusalTold why c.args.plan.now
    (writer_of (g.E.Sink.written c.args.faults.now) (g.E.Sink.written c.tell_of-in-Stale.new.faults) (g.E.Sink.broken c.tell_of-in-Stale.new.faults)))
    (sym c.in-Stale.is) (rw c.wanted_text.ensures at c.tell_of-in-Stale.ensures)
