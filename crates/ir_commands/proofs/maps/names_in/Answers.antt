use Rattle.std.proofs.Common.{Some, sym, subst}
use Rattle.ir_symbols.specs.Maps.{symbols_at, IsMapFault}
use Rattle.ir_commands.specs.Files.{IsFileIn, IsStatusOfNoNames}
use Rattle.ir_commands.proofs.Written.{map_fault_status}
use Rattle.ir_commands.proofs.maps.names_in.Goals as goal

pub returns-clause-status : goal.returns-clause-status
returns-clause-status g c =
    let at = g.D.Folder.bytes_at c.args.folder.now in
    let path = c.in-Some.path in
    let bytes = c.in-Some-bytes_of.bytes.items in
    let why = c.in-Err.why in
    subst (λ map. IsStatusOfNoNames at map c.refused.result) (sym c.in-Some.is)
    (subst (IsStatusOfNoNames at (Some path)) (sym c.refused.ensures.status)
    (map_fault_status at path bytes why (subst (λ p. IsFileIn (at p) bytes) c.as_str-path.ensures.value c.in-Some-bytes_of.ensures.bytes)
    (subst (λ b. IsMapFault why (symbols_at b)) c.as_slice.ensures.value c.in-Err.ensures.faulty)))
