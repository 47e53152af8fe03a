use Rattle.std.proofs.Common.{◌≡◌, ℕ, ◌+◌, ◌^◌, ◌<◌, length, drop, vec_len}
use Rattle.ir_picture.specs.Placing.{version_in, noted_all}
use Rattle.ir_picture.proofs.table.Table.note_all.Given as goal

abbrev pub invariant-loop-event : goal.invariant-loop-event
invariant-loop-event l = record {
  objects : vec_len l.self.objects ≡ vec_len l.fn.self.objects;
  room : (o v : ℕ) → (version_in l.self o v).readers + length (drop l.event-index l.events) < 2 ^ 32;
  noted : noted_all (drop l.event-index l.events) l.after (version_in l.self) ≡ noted_all l.events l.after (version_in l.fn.self);
}
