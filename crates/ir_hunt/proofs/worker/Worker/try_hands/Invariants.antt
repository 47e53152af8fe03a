use Rattle.ir_hunt.specs.Parts.{HasTried}
use Rattle.ir_hunt.proofs.worker.Worker.try_hands.Given as goal

-- each part so far was tried
abbrev pub invariant-hands : goal.invariant-hands
invariant-hands g l = HasTried l.fn.self.tries l.self.tries l.self.parts.items
