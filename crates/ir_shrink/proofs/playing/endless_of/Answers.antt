use Rattle.std.proofs.Common.{◌+◌, ap}
use Rattle.ir_record_command.specs.Plan.{Plan}
use Rattle.ir_shrink.proofs.playing.endless_of.Goals as goal

pub returns : goal.returns
returns c = ap (λ (p : Plan). p.budget + 65) c.plan.view_is
