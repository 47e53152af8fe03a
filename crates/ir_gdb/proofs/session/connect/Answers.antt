use Rattle.std.proofs.Common.{refl}
use Rattle.ir_debug.specs.Session.{most_input}
use Rattle.ir_debug.specs.Openings.{opening_of}
use Rattle.ir_gdb.proofs.Sessions.{reads_up_to_of_implied, opens_ready_desk, connected_by_read, connected_by_known, never_refused_vacuous}
use Rattle.ir_gdb.proofs.Sessions.{if_not_refused_if_holds, refused_by_read, refused_by_known, announced_if_refused, refused_is_vacuous}
use Rattle.ir_gdb.proofs.Sessions.{appended_prefix_or_whole}
use Rattle.ir_gdb.proofs.session.connect.Goals as goal

pub returns-in-Ready-clause-ended : goal.returns-in-Ready-clause-ended
returns-in-Ready-clause-ended g c =
    connected_by_read c.args.image.now c.args.trace.now c.in-Ready.debugger.desk c.serve.result (g.R.Source.left c.args.reader.now)
    (g.R.Source.left c.serve.new.reader) (g.W.Sink.written c.args.writer.now) (g.W.Sink.written c.serve.new.writer)
    (opens_ready_desk c.args.image.now c.args.trace.now c.in-Ok.opened c.in-Ready.debugger c.in-Ready.is c.in-Ok.ensures) c.serve.ensures.ended

pub returns-in-Ready-clause-known : goal.returns-in-Ready-clause-known
returns-in-Ready-clause-known g c =
    connected_by_known c.args.image.now c.args.trace.now c.in-Ready.debugger.desk c.serve.result (g.R.Source.left c.args.reader.now)
    (g.W.Sink.written c.args.writer.now) (g.W.Sink.written c.serve.new.writer)
    (opens_ready_desk c.args.image.now c.args.trace.now c.in-Ok.opened c.in-Ready.debugger c.in-Ready.is c.in-Ok.ensures) c.serve.ensures.known

pub returns-in-Ready-clause-unread : goal.returns-in-Ready-clause-unread
returns-in-Ready-clause-unread g c = never_refused_vacuous c.serve.result _ c.serve.ensures.opened

pub returns-in-Ready-clause-announced : goal.returns-in-Ready-clause-announced
returns-in-Ready-clause-announced g c = never_refused_vacuous c.serve.result _ c.serve.ensures.opened

pub returns-in-Ready-clause-quiet : goal.returns-in-Ready-clause-quiet
returns-in-Ready-clause-quiet g c = if_not_refused_if_holds c.serve.result _ refl

pub returns-in-Ready-clause-read : goal.returns-in-Ready-clause-read
returns-in-Ready-clause-read g c = λ e.
    let r = c.serve.ensures.read e in (
      r.0,
      r.1,
      reads_up_to_of_implied most_input _ _ _ _ (λ consumed p. record {
        desk = c.in-Ready.debugger.desk;
        opens = opens_ready_desk c.args.image.now c.args.trace.now c.in-Ok.opened c.in-Ready.debugger c.in-Ready.is c.in-Ok.ensures;
        wrote = p;
      }) r.2,
    )

pub returns-in-Ready-clause-write : goal.returns-in-Ready-clause-write
returns-in-Ready-clause-write g c = λ e.
    let r = c.serve.ensures.write e in (
      r.0,
      r.1,
      reads_up_to_of_implied most_input _ _ _ _ (λ consumed p. record {
        desk = c.in-Ready.debugger.desk;
        opens = opens_ready_desk c.args.image.now c.args.trace.now c.in-Ok.opened c.in-Ready.debugger c.in-Ready.is c.in-Ok.ensures;
        wrote = p;
      }) r.2,
    )

pub returns-in_default-opened-clause-ended : goal.returns-in_default-opened-clause-ended
returns-in_default-opened-clause-ended g c =
    refused_by_read c.args.image.now c.args.trace.now (opening_of c.in-Ok.opened) c.refusal_of.result (g.R.Source.left c.args.reader.now)
    (g.W.Sink.written c.args.writer.now) c.in-Ok.ensures c.refusal_of.ensures

pub returns-in_default-opened-clause-known : goal.returns-in_default-opened-clause-known
returns-in_default-opened-clause-known g c =
    refused_by_known c.args.image.now c.args.trace.now (opening_of c.in-Ok.opened) c.refusal_of.result (g.R.Source.left c.args.reader.now)
    (g.W.Sink.written c.args.writer.now) c.in-Ok.ensures c.refusal_of.ensures

pub returns-in_default-opened-clause-announced : goal.returns-in_default-opened-clause-announced
returns-in_default-opened-clause-announced g c =
    announced_if_refused c.args.image.now c.args.trace.now (opening_of c.in-Ok.opened) c.refusal_of.result _ c.in-Ok.ensures c.refusal_of.ensures
    (appended_prefix_or_whole c.announce.result (g.E.Sink.written c.args.faults.now) (g.E.Sink.written c.announce.new.writer) (g.E.Sink.broken c.announce.new.writer)
    _ c.announce.ensures.ok c.announce.ensures.prefix c.announce.ensures.err)

pub returns-in_default-opened-clause-quiet : goal.returns-in_default-opened-clause-quiet
returns-in_default-opened-clause-quiet g c = refused_is_vacuous (opening_of c.in-Ok.opened) c.refusal_of.result _ c.refusal_of.ensures
