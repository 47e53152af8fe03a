use Rattle.std.proofs.Common.{inr}
use Rattle.ir_commands.proofs.hunt.hunt_file.Goals as goal

pub returns-in-Err : goal.returns-in-Err
returns-in-Err g c = inr c.in-Err.ensures.stopped
