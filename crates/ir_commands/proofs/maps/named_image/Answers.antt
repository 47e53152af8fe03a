use Rattle.std.proofs.Common.{inl, subst}
use Rattle.std.specs.String.{string_bytes}
use Rattle.ir_commands.specs.Files.{IsFileIn}
use Rattle.ir_commands.proofs.Written.{read_file_status}
use Rattle.ir_commands.proofs.maps.named_image.Goals as goal

pub returns-in-Err-image_of_file-clause-status : goal.returns-in-Err-image_of_file-clause-status
returns-in-Err-image_of_file-clause-status g c =
    let at = g.D.Folder.bytes_at c.args.folder.now in
    let file = c.in-Some.file.items in
    inl (read_file_status (at (string_bytes c.args.path.now)) file c.in-Err-image_of_file.status
    (subst (λ p. IsFileIn (at p) file) c.as_str-path.ensures.value c.in-Some.ensures.bytes) c.in-Err-image_of_file.ensures.status)
