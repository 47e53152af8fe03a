use Rattle.std.proofs.Common.{ap}
use Rattle.ir_past.specs.Past.{entered}
use Rattle.ir_holds.proofs.needing.Ends.note.Goals as goal

pub put-requires : goal.put-requires
put-requires c = c.requires.left c.in-Read.object (ap entered c.in-Read.is)

pub put-requires-in-Write : goal.put-requires-in-Write
put-requires-in-Write c = c.requires.made c.in-Write.object (ap entered c.in-Write.is)
