use Rattle.std.proofs.Common.{◌∙◌}
use Rattle.ir_hunt.proofs.Parts.{each_of_hunt_push}
use Rattle.ir_hunt.proofs.search.workers.Goals as goal

pub workers-preserved : goal.workers-preserved
workers-preserved g c = each_of_hunt_push c.workers.workers.items c.push.new.self.items c.new-in-workers.result (λ w. w.tries) c.args.own.now
    c.workers.invariant c.in_ok-push.ensures.items (c.new-in-workers.ensures ∙ c.in_ok-tries.ensures)
