use Rattle.std.proofs.Common.{◌∙◌, ◌^◌}
use Rattle.ir_picture.specs.Placing.{version_in, noted_all}
use Rattle.ir_picture.proofs.Known.{noted_all_next, readers_below_limit}
use Rattle.ir_picture.proofs.table.Table.note_all.Goals as goal

pub loop-event-preserved : goal.loop-event-preserved
loop-event-preserved c =
    let es = c.args.events.now in
    let k = c.loop-event.event-index in
    record {
      objects = c.in_ok-note.ensures.objects ∙ c.loop-event.invariant.objects;
      room = readers_below_limit es k (2 ^ 32) _ c.args.after (version_in c.loop-event.self) (version_in c.note.new.self) c.loop-event-test.true
          c.in_ok-note.ensures.noted c.loop-event.invariant.room;
      noted = noted_all_next es k _ c.args.after (version_in c.loop-event.self) (version_in c.note.new.self)
          (noted_all es c.args.after (version_in c.args.self.now)) c.loop-event-test.true c.in_ok-note.ensures.noted c.loop-event.invariant.noted;
    }
