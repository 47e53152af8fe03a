use Rattle.std.proofs.Common.{◌≡◌, refl, subst, sym}
use Rattle.ir_commands.specs.Writing.{storing}
use Rattle.ir_files.specs.Writers.{writer_of}
use Rattle.ir_program.specs.Doing.{Does}
use Rattle.ir_program.proofs.dispatch.serve.Goals as goal

pub returns-in-Record : goal.returns-in-Record
returns-in-Record g c =
    let folder = c.args.around.now.folder.now in
    let stored = storing g.D.Folder.known g.D.Folder.known_closed (g.D.Folder.knows folder) (g.D.Folder.was_put folder) in
    let out = writer_of (g.O.Sink.written c.args.out.now) (g.O.Sink.written c.record_file.new.out) (g.O.Sink.broken c.record_file.new.out) in
    let faults = writer_of (g.E.Sink.written c.args.faults.now) (g.E.Sink.written c.record_file.new.faults) (g.E.Sink.broken c.record_file.new.faults) in
    subst (λ what. Does (g.D.Folder.bytes_at folder) stored what c.record_file.result (g.I.Source.left c.args.input) out faults
    (c.record_file.new.out ≡ c.args.out.now)) (sym c.in-Record.is) c.record_file.ensures

pub returns-in-Hunt : goal.returns-in-Hunt
returns-in-Hunt g c =
    let folder = c.args.around.now.folder.now in
    let stored = storing g.D.Folder.known g.D.Folder.known_closed (g.D.Folder.knows folder) (g.D.Folder.was_put folder) in
    let out = writer_of (g.O.Sink.written c.args.out.now) (g.O.Sink.written c.hunt_file.new.out) (g.O.Sink.broken c.hunt_file.new.out) in
    let faults = writer_of (g.E.Sink.written c.args.faults.now) (g.E.Sink.written c.hunt_file.new.faults) (g.E.Sink.broken c.hunt_file.new.faults) in
    subst (λ what. Does (g.D.Folder.bytes_at folder) stored what c.hunt_file.result (g.I.Source.left c.args.input) out faults
    (c.hunt_file.new.out ≡ c.args.out.now)) (sym c.in-Hunt.is) c.hunt_file.ensures

pub returns-in-Shrink : goal.returns-in-Shrink
returns-in-Shrink g c =
    let folder = c.args.around.now.folder.now in
    let stored = storing g.D.Folder.known g.D.Folder.known_closed (g.D.Folder.knows folder) (g.D.Folder.was_put folder) in
    let out = writer_of (g.O.Sink.written c.args.out.now) (g.O.Sink.written c.shrink_file.new.out) (g.O.Sink.broken c.shrink_file.new.out) in
    let faults = writer_of (g.E.Sink.written c.args.faults.now) (g.E.Sink.written c.shrink_file.new.faults) (g.E.Sink.broken c.shrink_file.new.faults) in
    subst (λ what. Does (g.D.Folder.bytes_at folder) stored what c.shrink_file.result (g.I.Source.left c.args.input) out faults
    (c.shrink_file.new.out ≡ c.args.out.now)) (sym c.in-Shrink.is) c.shrink_file.ensures

pub returns-in-Make : goal.returns-in-Make
returns-in-Make g c =
    let folder = c.args.around.now.folder.now in
    let stored = storing g.D.Folder.known g.D.Folder.known_closed (g.D.Folder.knows folder) (g.D.Folder.was_put folder) in
    let out = writer_of (g.O.Sink.written c.args.out.now) (g.O.Sink.written c.args.out.now) (g.O.Sink.broken c.args.out.now) in
    let faults = writer_of (g.E.Sink.written c.args.faults.now) (g.E.Sink.written c.make.new.faults) (g.E.Sink.broken c.make.new.faults) in
    subst (λ what. Does (g.D.Folder.bytes_at folder) stored what c.make.result (g.I.Source.left c.args.input) out faults
    (c.args.out.now ≡ c.args.out.now)) (sym c.in-Make.is) (c.make.ensures, refl)
