use Rattle.std.proofs.Common.{ap}
use Rattle.ir_past.specs.Past.{entered}
use Rattle.ir_picture.proofs.table.Table.note.Goals as goal

pub set-requires-clause-object : goal.set-requires-clause-object
set-requires-clause-object c = c.requires.object c.in-Read.object (ap entered c.in-Read.is)

pub set-requires-in-Write-clause-object : goal.set-requires-in-Write-clause-object
set-requires-in-Write-clause-object c = c.requires.object c.in-Write.object (ap entered c.in-Write.is)
