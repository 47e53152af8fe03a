use Rattle.std.specs.Slots.{slots_items}
use Rattle.ir_weave.specs.Woven.{IsEnd}
use Rattle.ir_weave.proofs.Opening.{AreObjects}
use Rattle.ir_weave.proofs.weave.Weave.close.Given as goal

abbrev pub invariant-loop-o : goal.invariant-loop-o
invariant-loop-o l = (e : IsEnd l.fn.self.table.shared.key l.fn.seat.me.0 (slots_items l.closed.words)) → AreObjects e.cells l.objects l.o
