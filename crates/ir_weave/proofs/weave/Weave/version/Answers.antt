use Rattle.std.proofs.Common.{arith}
use Rattle.ir_weave.proofs.Seats.{VersionReport, seated_load_allowed, read_version_reports, left_word_in_table}
use Rattle.ir_runs.specs.declared.access.Access.TheVariants.{Writing}
use Rattle.ir_weave.proofs.weave.Weave.version.Goals as goal
use Rattle.ir_weave.proofs.weave.Weave.version.Goals.{After-load}

pub load-requires : goal.load-requires
load-requires c = (
  c.requires.seat,
  left_word_in_table c.args.self.now.table.shared.key c.args.thread.now c.args.seat.now.me.0 c.args.object _ Writing c.requires.thread
      c.requires.asking c.args.self.now.words,
  seated_load_allowed c.args.self.now.table.shared.key _ _ c.args.object c.args.thread.now c.args.seat.now.me c.requires.thread
      c.requires.asking,
)

seen : (c : After-load) → VersionReport c.args.self.now.table.shared.key c.args.thread.now c.args.object c.args.seat.now.me c.load.new.seat.me
    c.load.result
seen c = read_version_reports c.args.self.now.table.shared.key c.args.object c.args.thread.now c.args.seat.now.me c.load.new.seat.me c.load.result
    c.requires.thread c.requires.asking c.load.ensures.2

pub returns-clause-seat : goal.returns-clause-seat
returns-clause-seat c = (c.load.ensures.0, c.load.ensures.1, (seen c).view)

pub returns-clause-small : goal.returns-clause-small
returns-clause-small c = let s = (seen c).small in omega (arith, s)

pub returns-clause-version : goal.returns-clause-version
returns-clause-version c = (seen c).version
