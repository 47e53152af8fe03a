use Rattle.std.proofs.Common.{arith}
use Rattle.std.proofs.lemmas.Option.{slice_get_within, slice_get-get_or}
use Rattle.ir_holds.proofs.Defaults.{no_span}
use Rattle.ir_holds.proofs.settling.put_once.Goals as goal

pub ends_of-requires-clause-small : goal.ends_of-requires-clause-small
ends_of-requires-clause-small c = λ k b at.
    let within = slice_get_within c.args.boxes.now k b at in
    let size = c.requires.size in
    let near = c.requires.near.end k b _ at (slice_get-get_or c.args.spans.now k no_span (omega (arith, within, size))) in
    let x = near.x in
    let u = near.u in
    (omega (arith, x), omega (arith, u))
