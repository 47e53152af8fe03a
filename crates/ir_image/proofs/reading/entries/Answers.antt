use Rattle.std.proofs.lemmas.Result.{err_from_is_err_and}
use Rattle.ir_bytes.specs.Reading.{fields_at}
use Rattle.ir_image.specs.Fields.{entry_at}
use Rattle.ir_bytes.proofs.CallerLemmas.{prefixed_fields_at_step, fields_total_is_prefix}
use Rattle.ir_image.proofs.Loop.{fields_fail}
use Rattle.ir_image.proofs.reading.entries.Goals as goal

pub returns-in_err-one : goal.returns-in_err-one
returns-in_err-one c =
    let p = err_from_is_err_and c.from_residual.result c.from_residual.ensures.1 in
    rw (p.1, p.2) (fields_fail c.in_err-one.field-0.0 (entry_at c.args.words) c.loop.entries.items c.args.count c.loop.counter c.loop.rest.now
    (fields_at (entry_at c.args.words) c.args.count c.args.bytes.now) c.loop-test.true c.in_err-one.ensures c.loop.invariant)

pub loop-preserved : goal.loop-preserved
loop-preserved c =
    rw c.in_ok-push.ensures.items (prefixed_fields_at_step (entry_at c.args.words) c.loop.entries.items c.args.count c.loop.counter c.loop.rest.now
    c.in_ok-one.one c.in_ok-one.after.now (fields_at (entry_at c.args.words) c.args.count c.args.bytes.now) c.loop-test.true
    c.in_ok-one.ensures c.loop.invariant)

pub returns : goal.returns
returns c = fields_total_is_prefix (entry_at c.args.words) c.loop.entries.items c.args.count c.loop.counter c.loop.rest.now
    (fields_at (entry_at c.args.words) c.args.count c.args.bytes.now) c.loop-test.false c.loop.invariant
