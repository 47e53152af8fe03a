use Rattle.ir_gdb.proofs.InSight.{byte_in_sight_is_seen}
use Rattle.ir_gdb.proofs.remote.Remote.byte.Goals as goal

pub returns : goal.returns
returns c = byte_in_sight_is_seen c.args.self.now.stub c.general_sight.result c.args.address c.byte_at.result c.general_sight.ensures c.byte_at.ensures
