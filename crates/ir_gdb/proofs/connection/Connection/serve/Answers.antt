use Rattle.std.proofs.Common.{◌≡◌, ◌∙◌, Bool, true, false, refl, sym, ap, subst}
use Rattle.ir_stream.specs.Endings.{flow_after}
use Rattle.ir_stream.specs.declared.serving.Flow.{Flow}
use Rattle.ir_stream.specs.declared.serving.Flow.TheVariants.{Quits}
use Rattle.ir_packet.specs.Reading.{Reading, item_found, items_found}
use Rattle.ir_packet.specs.Stream as stream
use Rattle.ir_gdb.specs.Connection.{Connecting, item_ends}
use Rattle.ir_gdb.proofs.Items.{AfterBytes, found_payload_within, after_bytes_at_start, at_byte, at_item, quit_ended, quit_known, write_failed}
use Rattle.ir_gdb.proofs.connection.Connection.serve.Goals as goal

goes : (f : Flow) (b : Bool) → f ≡ flow_after b → (f ≡ Quits → ⊥) → b ≡ false
goes f true e is = absurd (is e)
goes f false e is = refl

quit : (f : Flow) (b : Bool) → f ≡ flow_after b → f ≡ Quits → b ≡ true
quit f true e is = refl
quit f false e is = absurd cc

pub loop-taken-init : goal.loop-taken-init
loop-taken-init g c = record {
  at = after_bytes_at_start c.args.self.now.link (g.R.Source.left c.args.reader.now) (g.W.Sink.written c.args.writer.now) c.args.self.now.reading.place
      c.requires.start;
  reads = c.requires.reads;
  writes = c.requires.writes;
}

pub loop-taken-preserved-in_default : goal.loop-taken-preserved-in_default
loop-taken-preserved-in_default g c =
    let at : AfterBytes c.args.self.now.link (g.R.Source.left c.args.reader.now) (g.W.Sink.written c.args.writer.now)
    (g.R.Source.left c.loop-taken.reader) (g.W.Sink.written c.loop-taken.writer)
    (record { stub = c.self.inside.remote.stub; acknowledges = c.self.inside.acknowledges; is_owed = c.self.inside.is_owed; last = c.self.inside.packet.items })
    c.self.inside.reader.place c.loop-taken.taken =
    subst (λ (x : Connecting). AfterBytes c.args.self.now.link (g.R.Source.left c.args.reader.now) (g.W.Sink.written c.args.writer.now)
    (g.R.Source.left c.loop-taken.reader) (g.W.Sink.written c.loop-taken.writer) x.link x.reading.place c.loop-taken.taken)
    (sym c.self.view_is) c.loop-taken.invariant.at in
    record {
      at = at_byte c.args.self.now.link (g.R.Source.left c.args.reader.now) (g.W.Sink.written c.args.writer.now)
          (g.R.Source.left c.loop-taken.reader) (g.R.Source.left c.next_byte.new.reader) (g.W.Sink.written c.loop-taken.writer) _
          c.self.inside.reader.place c.loop-taken.taken at c.in-Byte.byte c.take.new.self.place c.take.new.self.payload c.in-Byte.ensures.bytes
          (subst (λ (f : _). items_found f c.take.new.self.payload ≡ stream.ended_items c.self.inside.reader.place c.in-Byte.byte) c.in_default.is
          c.take.ensures.found) c.take.ensures.place;
      reads = c.in-Byte.ensures.broken ∙ c.loop-taken.invariant.reads;
      writes = c.loop-taken.invariant.writes;
    }

pub take-requires-in-loop-taken-after_bounds : goal.take-requires-in-loop-taken-after_bounds
take-requires-in-loop-taken-after_bounds g c κs within = λ is.
    found_payload_within c.in-Some.found c.self.inside.reader.place c.in-Byte.byte c.take.new.self.payload c.in-Some.ensures.found is

pub returns-in_err-take-clause-write : goal.returns-in_err-take-clause-write
returns-in_err-take-clause-write g c =
    let at : AfterBytes c.args.self.now.link (g.R.Source.left c.args.reader.now) (g.W.Sink.written c.args.writer.now)
    (g.R.Source.left c.loop-taken.reader) (g.W.Sink.written c.loop-taken.writer)
    (record { stub = c.self.inside.remote.stub; acknowledges = c.self.inside.acknowledges; is_owed = c.self.inside.is_owed; last = c.self.inside.packet.items })
    c.self.inside.reader.place c.loop-taken.taken =
    subst (λ (x : Connecting). AfterBytes c.args.self.now.link (g.R.Source.left c.args.reader.now) (g.W.Sink.written c.args.writer.now)
    (g.R.Source.left c.loop-taken.reader) (g.W.Sink.written c.loop-taken.writer) x.link x.reading.place c.loop-taken.taken)
    (sym c.self.view_is) c.loop-taken.invariant.at in
    λ _. (
      c.in-Byte.ensures.broken ∙ c.loop-taken.invariant.reads,
      c.in_err-take.ensures.writes.err,
      write_failed c.args.self.now.link (g.R.Source.left c.args.reader.now) (g.W.Sink.written c.args.writer.now)
          (g.R.Source.left c.loop-taken.reader) (g.R.Source.left c.next_byte.new.reader) (g.W.Sink.written c.loop-taken.writer) _
          c.self.inside.reader.place c.loop-taken.taken at c.in-Byte.byte c.in-Some.found c.take.new.self.payload c.in-Byte.ensures.bytes
          c.in-Some.ensures.found
          c.args.limit c.loop-taken-test.true (g.W.Sink.written c.take-in-loop-taken.new.writer) c.in_err-take.ensures.writes.prefix,
    )

pub returns-in-Quits-clause-ended : goal.returns-in-Quits-clause-ended
returns-in-Quits-clause-ended g c =
    let at : AfterBytes c.args.self.now.link (g.R.Source.left c.args.reader.now) (g.W.Sink.written c.args.writer.now)
    (g.R.Source.left c.loop-taken.reader) (g.W.Sink.written c.loop-taken.writer)
    (record { stub = c.self.inside.remote.stub; acknowledges = c.self.inside.acknowledges; is_owed = c.self.inside.is_owed; last = c.self.inside.packet.items })
    c.self.inside.reader.place c.loop-taken.taken =
    subst (λ (x : Connecting). AfterBytes c.args.self.now.link (g.R.Source.left c.args.reader.now) (g.W.Sink.written c.args.writer.now)
    (g.R.Source.left c.loop-taken.reader) (g.W.Sink.written c.loop-taken.writer) x.link x.reading.place c.loop-taken.taken)
    (sym c.self.view_is) c.loop-taken.invariant.at in
    quit_ended c.args.self.now.link (g.R.Source.left c.args.reader.now) (g.W.Sink.written c.args.writer.now)
    (g.R.Source.left c.loop-taken.reader) (g.R.Source.left c.next_byte.new.reader) (g.W.Sink.written c.loop-taken.writer) _
    c.self.inside.reader.place c.loop-taken.taken at c.in-Byte.byte c.in-Some.found c.take.new.self.payload c.in-Byte.ensures.bytes
    c.in-Some.ensures.found
    c.args.limit c.loop-taken-test.true c.take-in-loop-taken.new.self.link (g.W.Sink.written c.take-in-loop-taken.new.writer)
    (quit c.in_ok-take.field-0 (item_ends (record { stub = c.self.inside.remote.stub; acknowledges = c.self.inside.acknowledges; is_owed = c.self.inside.is_owed; last = c.self.inside.packet.items })
    (item_found c.in-Some.found c.take.new.self.payload)) c.in_ok-take.ensures.flow c.in-Quits.is) c.in_ok-take.ensures.writes.ok

pub returns-in-Quits-clause-known : goal.returns-in-Quits-clause-known
returns-in-Quits-clause-known g c =
    let at : AfterBytes c.args.self.now.link (g.R.Source.left c.args.reader.now) (g.W.Sink.written c.args.writer.now)
    (g.R.Source.left c.loop-taken.reader) (g.W.Sink.written c.loop-taken.writer)
    (record { stub = c.self.inside.remote.stub; acknowledges = c.self.inside.acknowledges; is_owed = c.self.inside.is_owed; last = c.self.inside.packet.items })
    c.self.inside.reader.place c.loop-taken.taken =
    subst (λ (x : Connecting). AfterBytes c.args.self.now.link (g.R.Source.left c.args.reader.now) (g.W.Sink.written c.args.writer.now)
    (g.R.Source.left c.loop-taken.reader) (g.W.Sink.written c.loop-taken.writer) x.link x.reading.place c.loop-taken.taken)
    (sym c.self.view_is) c.loop-taken.invariant.at in
    quit_known c.args.self.now.link (g.R.Source.left c.args.reader.now) (g.W.Sink.written c.args.writer.now)
    (g.R.Source.left c.loop-taken.reader) (g.R.Source.left c.next_byte.new.reader) (g.W.Sink.written c.loop-taken.writer) _
    c.self.inside.reader.place c.loop-taken.taken at c.in-Byte.byte c.in-Some.found c.take.new.self.payload c.in-Byte.ensures.bytes
    c.in-Some.ensures.found
    c.args.limit c.loop-taken-test.true c.take-in-loop-taken.new.self.link (g.W.Sink.written c.take-in-loop-taken.new.writer)
    (quit c.in_ok-take.field-0 (item_ends (record { stub = c.self.inside.remote.stub; acknowledges = c.self.inside.acknowledges; is_owed = c.self.inside.is_owed; last = c.self.inside.packet.items })
    (item_found c.in-Some.found c.take.new.self.payload)) c.in_ok-take.ensures.flow c.in-Quits.is) c.in_ok-take.ensures.writes.ok

pub loop-taken-preserved : goal.loop-taken-preserved
loop-taken-preserved g c =
    let at : AfterBytes c.args.self.now.link (g.R.Source.left c.args.reader.now) (g.W.Sink.written c.args.writer.now)
    (g.R.Source.left c.loop-taken.reader) (g.W.Sink.written c.loop-taken.writer)
    (record { stub = c.self.inside.remote.stub; acknowledges = c.self.inside.acknowledges; is_owed = c.self.inside.is_owed; last = c.self.inside.packet.items })
    c.self.inside.reader.place c.loop-taken.taken =
    subst (λ (x : Connecting). AfterBytes c.args.self.now.link (g.R.Source.left c.args.reader.now) (g.W.Sink.written c.args.writer.now)
    (g.R.Source.left c.loop-taken.reader) (g.W.Sink.written c.loop-taken.writer) x.link x.reading.place c.loop-taken.taken)
    (sym c.self.view_is) c.loop-taken.invariant.at in
    record {
      at = at_item c.args.self.now.link (g.R.Source.left c.args.reader.now) (g.W.Sink.written c.args.writer.now)
          (g.R.Source.left c.loop-taken.reader) (g.R.Source.left c.next_byte.new.reader) (g.W.Sink.written c.loop-taken.writer) _
          c.self.inside.reader.place c.loop-taken.taken at c.in-Byte.byte c.in-Some.found c.take.new.self.payload c.in-Byte.ensures.bytes
          c.in-Some.ensures.found
          c.take-in-loop-taken.new.self.link (g.W.Sink.written c.take-in-loop-taken.new.writer) c.take-in-loop-taken.new.self.reading.place
          (ap (λ (r : Reading). r.place) c.in_ok-take.ensures.reading ∙ c.in-Some.ensures.place)
          (goes c.in_ok-take.field-0
          (item_ends (record {
            stub = c.self.inside.remote.stub;
            acknowledges = c.self.inside.acknowledges;
            is_owed = c.self.inside.is_owed;
            last = c.self.inside.packet.items;
          })
          (item_found c.in-Some.found c.take.new.self.payload)) c.in_ok-take.ensures.flow c.in_default-2.not-Quits) c.in_ok-take.ensures.writes.ok;
      reads = c.in-Byte.ensures.broken ∙ c.loop-taken.invariant.reads;
      writes = c.in_ok-take.ensures.writes.stays ∙ c.loop-taken.invariant.writes;
    }
