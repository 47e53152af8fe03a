use Rattle.std.proofs.lemmas.Result.{err_from_is_err_and}
use Rattle.ir_bytes.specs.Reading.{fields_at}
use Rattle.ir_bytes.proofs.CallerLemmas.{prefixed_fields_at_step, fields_at_fails, fields_total_is_prefix}
use Rattle.ir_elf.specs.Table.{table_entry_at}
use Rattle.ir_elf.proofs.table.entries.Goals as goal

pub returns-in_err-one : goal.returns-in_err-one
returns-in_err-one c =
    let p = err_from_is_err_and c.from_residual.result c.from_residual.ensures.1 in
    rw (p.1, p.2) (fields_at_fails c.in_err-one.field-0.0 (table_entry_at c.args.code) c.loop.entries.items c.args.count c.loop.counter c.loop.rest.now
    (fields_at (table_entry_at c.args.code) c.args.count c.args.bytes.now) c.loop-test.true c.in_err-one.ensures c.loop.invariant)

pub loop-preserved : goal.loop-preserved
loop-preserved c =
    rw c.in_ok-push.ensures.items (prefixed_fields_at_step (table_entry_at c.args.code) c.loop.entries.items c.args.count c.loop.counter c.loop.rest.now
    c.in_ok-one.one c.in_ok-one.after.now (fields_at (table_entry_at c.args.code) c.args.count c.args.bytes.now) c.loop-test.true
    c.in_ok-one.ensures c.loop.invariant)

pub returns : goal.returns
returns c = fields_total_is_prefix (table_entry_at c.args.code) c.loop.entries.items c.args.count c.loop.counter c.loop.rest.now
    (fields_at (table_entry_at c.args.code) c.args.count c.args.bytes.now) c.loop-test.false c.loop.invariant
