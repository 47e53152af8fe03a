use Rattle.std.proofs.Common.{sym, subst}
use Rattle.ir_files.specs.Given.{Has}
use Rattle.ir_files.proofs.Given.{new_file_has_given}
use Rattle.ir_files.proofs.output_files.written_at.Goals as goal

pub returns-in-Ok-put_all-clause-bytes : goal.returns-in-Ok-put_all-clause-bytes
returns-in-Ok-put_all-clause-bytes g c = subst (λ z. Has (g.D.Folder.knows c.args.folder.now) z c.args.bytes.now) (sym c.close.ensures)
    (new_file_has_given (g.D.Folder.knows c.args.folder.now) (g.D.Folder.known c.put_all.new.file) (g.D.Folder.known c.in-Ok.file).bytes c.args.bytes.now
    c.in-Ok.ensures.empty c.in-Ok-put_all.ensures.bytes)
