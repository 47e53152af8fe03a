use Rattle.std.proofs.Common.{subst, sym}
use Rattle.ir_hunt.specs.Parts.{HasTried}
use Rattle.ir_hunt.proofs.Parts.{has_tried_a_part_more}
use Rattle.ir_hunt.proofs.worker.Worker.try_hand.Goals as goal

pub returns : goal.returns
returns g c hunt before = subst (HasTried hunt c.try_all.new.self) (sym c.in_ok-push.ensures.items)
    (has_tried_a_part_more hunt c.args.self.now.tries c.try_all.new.self c.args.self.now.parts.items c.args.hand c.in_ok-part.part c.in_ok-part.ensures.same before
    c.in_ok-part.ensures.part)
