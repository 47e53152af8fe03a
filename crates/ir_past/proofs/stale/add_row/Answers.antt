use Rattle.std.proofs.Common.{length, sym, arith}
use Rattle.ir_past.specs.declared.stale_write.StaleWrite.{StaleWrite}
use Rattle.ir_past.specs.Past.{IsRow}
use Rattle.ir_past.proofs.Rows.{has_rows_with_stale}
use Rattle.ir_past.proofs.Noted.{stale_has_overwriter}
use Rattle.ir_past.proofs.stale.add_row.Goals as goal

pub returns-in-None : goal.returns-in-None
returns-in-None c = absurd (stale_has_overwriter c.args.trace.now c.args.makers.now (length c.args.trace.now.threads) c.args.write.thread
    c.args.pair.read c.args.write.event c.args.pair.object c.args.pair.version c.args.pair.written c.requires.coherent (omega arith)
    c.requires.makes c.requires.pair (sym c.in-None.ensures))

pub returns-in_ok-push-in-Some : goal.returns-in_ok-push-in-Some
returns-in_ok-push-in-Some c =
    let made = c.requires.makes.sound c.args.pair.object c.args.pair.version c.in-Some.overwritten_by (sym c.in-Some.ensures) in
    let row : StaleWrite = record {
      thread = c.args.write.thread;
      event = c.args.write.event;
      object = c.args.pair.object;
      written = c.args.pair.written;
      read = c.args.pair.read;
      version = c.args.pair.version;
      overwritten_by = c.in-Some.overwritten_by;
    } in
    let is : IsRow c.args.trace.now row = record { stale = c.requires.pair; readers = made.0; overwriter = made.1 } in
    rw c.in_ok-push-in-Some.ensures.items (has_rows_with_stale c.args.trace.now row c.args.rows.now.items c.requires.rows is)
