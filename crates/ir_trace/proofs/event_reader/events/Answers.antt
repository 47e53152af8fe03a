use Rattle.std.proofs.Common.{arith, ◌∙◌, ap, length, length-append, ◌∷◌, []}
use Rattle.std.proofs.lemmas.Result.{err_from_is_err_and}
use Rattle.ir_log.specs.Logged.{Logged}
use Rattle.ir_bytes.specs.Reading.{fields_at}
use Rattle.ir_trace.specs.Recorded.{event_reading}
use Rattle.ir_bytes.proofs.CallerLemmas.{prefixed_fields_at_step, fields_total_is_prefix}
use Rattle.ir_trace.proofs.Loop.{fields_fail_by_field}
use Rattle.ir_trace.proofs.Room.{event_room_step, next_event_has_room}
use Rattle.ir_trace.proofs.event_reader.events.Goals as goal

pub returns-in_err-one-clause-exact : goal.returns-in_err-one-clause-exact
returns-in_err-one-clause-exact c =
    let p = err_from_is_err_and c.from_residual-in_err-one.result c.from_residual-in_err-one.ensures.1 in
    rw (p.1, p.2) (fields_fail_by_field c.in_err-one.field-0.0 (event_reading c.args.profile c.args.objects) c.loop.log.events c.args.count c.loop.counter c.loop.rest.now
    (fields_at (event_reading c.args.profile c.args.objects) c.args.count c.args.bytes.now) c.loop-test.true c.in_err-one.ensures.exact
    c.loop.invariant.emitted)

pub push-requires : goal.push-requires
push-requires c =
    rw (c.loop.invariant.pushed, c.loop.invariant.room) (next_event_has_room c.args.profile c.loop.counter c.args.count (length c.args.bytes.now)
    (length c.loop.rest.now) (length c.in_ok-one.after.now) c.loop-test.true c.loop.invariant.taken c.in_ok-one.ensures.taken)

pub loop-preserved : goal.loop-preserved
loop-preserved c =
    let events = ap (λ (l : Logged). l.events) c.push.ensures in
    record {
      emitted = rw events (prefixed_fields_at_step (event_reading c.args.profile c.args.objects) c.loop.log.events c.args.count c.loop.counter c.loop.rest.now c.in_ok-one.one
          c.in_ok-one.after.now (fields_at (event_reading c.args.profile c.args.objects) c.args.count c.args.bytes.now) c.loop-test.true
          c.in_ok-one.ensures.exact c.loop.invariant.emitted);
      pushed = omega (arith, ap length events, length-append c.loop.log.events (c.in_ok-one.one ∷ []), c.loop.invariant.pushed);
      room = ap (λ (l : Logged). l.room) c.push.ensures ∙ c.loop.invariant.room;
      taken = event_room_step c.args.profile c.loop.counter (length c.args.bytes.now) (length c.loop.rest.now) (length c.in_ok-one.after.now)
          c.loop.invariant.taken c.in_ok-one.ensures.taken;
    }

pub returns-clause-exact : goal.returns-clause-exact
returns-clause-exact c = fields_total_is_prefix (event_reading c.args.profile c.args.objects) c.loop.log.events c.args.count c.loop.counter c.loop.rest.now
    (fields_at (event_reading c.args.profile c.args.objects) c.args.count c.args.bytes.now) c.loop-test.false c.loop.invariant.emitted
