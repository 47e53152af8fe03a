use Rattle.std.proofs.Common.{◌<◌, length, vec_len, refl, sym, subst, arith}
use Rattle.std.proofs.lemmas.Result.{on_ok_weaker}
use Rattle.ir_coherence.proofs.Tables.{element_value_has_room, reads_after_read, read_keeps_writes, writes_after_write, write_keeps_reads}
use Rattle.ir_coherence.specs.Counting.{MayStand, count_at, OneMore}
use Rattle.ir_coherence.proofs.entry_counts.EntryCounts.add.Goals as goal

pub add-requires : goal.add-requires
add-requires c =
    let objects = c.args.self.now.objects in
    let fits = subst (MayStand (vec_len objects)) c.in-Read.is c.requires.object in
    let within : c.in-Read.object < length objects.items = omega (arith, fits.1.0, objects.ok.0) in
    element_value_has_room (λ x. count_at x.reads c.in-Read.version) objects.items c.in-Read.object c.index_mut.result.now 4294967296 within
    (sym c.index_mut.ensures.value) (c.requires.room.reads c.in-Read.object c.in-Read.version)

pub add-requires-in-Write : goal.add-requires-in-Write
add-requires-in-Write c =
    let objects = c.args.self.now.objects in
    let fits = subst (MayStand (vec_len objects)) c.in-Write.is c.requires.object in
    let within : c.in-Write.object < length objects.items = omega (arith, fits.1.0, objects.ok.0) in
    element_value_has_room (λ x. count_at x.writes c.in-Write.version) objects.items c.in-Write.object c.index_mut-in-Write.result.now 4294967296 within
    (sym c.index_mut-in-Write.ensures.value) (c.requires.room.writes c.in-Write.object c.in-Write.version)

pub returns-in-Read : goal.returns-in-Read
returns-in-Read c =
    let objects = c.args.self.now.objects in
    let fits = subst (MayStand (vec_len objects)) c.in-Read.is c.requires.object in
    let within : c.in-Read.object < length objects.items = omega (arith, fits.1.0, objects.ok.0) in
    rw c.in-Read.is (on_ok_weaker c.add.result (λ (more : OneMore c.index_mut.result.now.reads c.add.new.self c.in-Read.version). record {
      objects = refl;
      reads = reads_after_read objects.items c.in-Read.object c.in-Read.version c.index_mut.result.now c.add.new.self within
          (sym c.index_mut.ensures.value) more;
      writes = read_keeps_writes objects.items c.in-Read.object c.index_mut.result.now c.add.new.self within (sym c.index_mut.ensures.value);
    }) c.add.ensures)

pub returns-in-Write : goal.returns-in-Write
returns-in-Write c =
    let objects = c.args.self.now.objects in
    let fits = subst (MayStand (vec_len objects)) c.in-Write.is c.requires.object in
    let within : c.in-Write.object < length objects.items = omega (arith, fits.1.0, objects.ok.0) in
    rw c.in-Write.is (on_ok_weaker c.add-in-Write.result
    (λ (more : OneMore c.index_mut-in-Write.result.now.writes c.add-in-Write.new.self c.in-Write.version). record {
      objects = refl;
      reads = write_keeps_reads objects.items c.in-Write.object c.index_mut-in-Write.result.now c.add-in-Write.new.self within
          (sym c.index_mut-in-Write.ensures.value);
      writes = writes_after_write objects.items c.in-Write.object c.in-Write.version c.index_mut-in-Write.result.now c.add-in-Write.new.self within
          (sym c.index_mut-in-Write.ensures.value) more;
    }) c.add-in-Write.ensures)
