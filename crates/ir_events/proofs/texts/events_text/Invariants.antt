use Rattle.std.proofs.Common.{◌≡◌}
use Rattle.ir_events.specs.Texts.{first_threads}
use Rattle.ir_events.proofs.texts.events_text.Given as goal

abbrev pub invariant-loop-t : goal.invariant-loop-t
invariant-loop-t l = l.text.items ≡ first_threads l.fn.fitted l.fn.pcs l.fn.symbols l.t
