use Rattle.std.proofs.KnownBytes.{Appends-nil}
use Rattle.ir_files.specs.Writers.{writer_of}
use Rattle.ir_explore.proofs.Sought.{no_guest_no_hang}
use Rattle.ir_explore.proofs.hang.tell_hang.Goals as goal

pub returns-in-Err-clause-fails : goal.returns-in-Err-clause-fails
returns-in-Err-clause-fails g c =
    let out = g.O.Sink.written c.args.out.now in
    let w = writer_of out out (g.O.Sink.broken c.args.out.now) in
    no_guest_no_hang c.in-Err.why c.args.plan.now.image.now c.args.plan.now.explore w (c.in-Err.ensures.refused w (Appends-nil out))
