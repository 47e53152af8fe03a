use Rattle.std.proofs.KnownBytes.{Appends-nil}
use Rattle.ir_files.specs.Writers.{writer_of}
use Rattle.ir_within.specs.Plans.{aspects_of}
use Rattle.ir_within.proofs.Firsts.{no_guest_no_classes}
use Rattle.ir_within.proofs.classes.tell_classes.Goals as goal

pub returns-in-Err-clause-fails : goal.returns-in-Err-clause-fails
returns-in-Err-clause-fails g c =
    let out = g.O.Sink.written c.args.out.now in
    let w = writer_of out out (g.O.Sink.broken c.args.out.now) in
    no_guest_no_classes c.in-Err.why c.args.plan.now.image.now c.args.plan.now.explore (aspects_of c.args.plan.now.aspects) w
    (c.in-Err.ensures.refused w (Appends-nil out))
