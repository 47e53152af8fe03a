use Rattle.std.proofs.Common.{refl}
use Rattle.std.specs.Prelude.{None}
use Rattle.std.specs.List.{slice_index_or}
use Rattle.std.proofs.lemmas.Option.{slice_get-get_or}
use Rattle.ir_past.specs.declared.stale_write.StaleWrite.{StaleWrite}
use Rattle.ir_run_picture.proofs.Kept.{first_kept_of_no_row, first_kept_step}
use Rattle.ir_run_picture.proofs.keeping.resting_writes.Goals as goal

abbrev no_row : StaleWrite
no_row = record { thread = 0; event = 0; object = 0; written = 0; read = 0; version = 0; overwritten_by = record { thread = 0; event = 0 } }

pub loop-i-init : goal.loop-i-init
loop-i-init c = first_kept_of_no_row c.args.boxes.now c.args.rows.now c.args.rests.now c.new-kept.result.items c.new-kept.ensures.items

pub loop-i-preserved : goal.loop-i-preserved
loop-i-preserved c = first_kept_step c.args.boxes.now c.args.rows.now c.args.rests.now c.loop-i.i (slice_index_or c.args.rows.now c.loop-i.i no_row)
    (slice_index_or c.args.rests.now c.loop-i.i None) c.loop-i.kept.items c.keep.new.kept.items c.loop-i.invariant c.in_ok-keep.ensures
    (slice_get-get_or c.args.rows.now c.loop-i.i no_row c.loop-i-test.true) refl
