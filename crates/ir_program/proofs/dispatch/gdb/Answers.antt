use Rattle.std.proofs.Common.{refl}
use Rattle.ir_program.proofs.Held.{holds_connection}
use Rattle.ir_program.proofs.dispatch.gdb.Goals as goal

pub returns : goal.returns
returns g c = holds_connection (g.I.Source.left c.args.input) c.gdb_files.ensures refl
