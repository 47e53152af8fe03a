use Rattle.ir_gdb.specs.Moves.{interrupted_at}
use Rattle.ir_gdb.proofs.Telling.{is_there_after_told}
use Rattle.ir_gdb.proofs.remote.Remote.stay.Goals as goal

pub returns-clause-there : goal.returns-clause-there
returns-clause-there g c =
    is_there_after_told c.be_here.new.self c.tell.new.self (interrupted_at c.args.thread) c.tell.ensures.stub c.tell.ensures.state c.in-Ok.ensures.there
