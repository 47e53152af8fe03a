use Rattle.std.proofs.Common.{List, ℕ, ap, sym}
use Rattle.std.proofs.lemmas.Result.{on_err_weaker}
use Rattle.ir_files.specs.Writers.{writer_of}
use Rattle.ir_commands.specs.Writing.{storing}
use Rattle.ir_commands.proofs.Searched.{search_comes_to}
use Rattle.ir_commands.proofs.until.until_file.Goals as goal

pub returns : goal.returns
returns g c =
    let folder = c.args.around.now.folder.now in
    let stored = storing g.D.Folder.known g.D.Folder.known_closed (g.D.Folder.knows folder) (g.D.Folder.was_put folder) in
    let out = writer_of (g.O.Sink.written c.args.out.now) (g.O.Sink.written c.found_by-found.new.out) (g.O.Sink.broken c.found_by-found.new.out) in
    search_comes_to (g.D.Folder.bytes_at folder) stored c.args.arguments.now c.recorded_status.result out
    (writer_of (g.E.Sink.written c.args.faults.now) (g.E.Sink.written c.found_by-found.new.faults) (g.E.Sink.broken c.found_by-found.new.faults))
    (writer_of (g.E.Sink.written c.args.faults.now) (g.E.Sink.written c.recorded_status.new.faults) (g.E.Sink.broken c.recorded_status.new.faults))
    c.found_by-found.result c.found_by-found.ensures.found c.found_by-found.ensures.none c.recorded_status.ensures.done
    c.recorded_status.ensures.stopped (on_err_weaker c.found_by-found.result (λ e. ap
    (λ f. writer_of (g.E.Sink.written c.args.faults.now) (g.E.Sink.written f) (g.E.Sink.broken f)) (sym e)) c.recorded_status.ensures.kept)
