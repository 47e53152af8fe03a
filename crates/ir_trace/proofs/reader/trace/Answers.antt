use Rattle.std.proofs.Common.{◌≡◌, [], sym, subst, arith, rules}
use Rattle.std.proofs.lemmas.List.{nil_from_length}
use Rattle.ir_trace.specs.Recorded.{Recorded}
use Rattle.ir_trace.specs.Bounds.{IsRecorded}
use Rattle.ir_trace.specs.Encoding.{encoding}
use Rattle.ir_trace.proofs.Whole.{read_parts_take_recorded}
use Rattle.ir_trace.proofs.reader.trace.Goals as goal

pub new-requires : goal.new-requires
new-requires c =
    let nothing : c.in_ok-threads.rest.now ≡ [] = nil_from_length c.in_ok-threads.rest.now (search rules) in
    (read_parts_take_recorded c.args.bytes.now c.in_ok-header.header c.in_ok-header.rest.now c.in_ok-threads.threads.items c.in_ok-threads.rest.now
    (λ i. omega (arith, c.type_inv.bytes i)) c.in_ok-header.ensures c.in_ok-threads.ensures nothing).0

pub returns-clause-found : goal.returns-clause-found
returns-clause-found c =
    let nothing : c.in_ok-threads.rest.now ≡ [] = nil_from_length c.in_ok-threads.rest.now (search rules) in
    subst (λ (r : Recorded). IsRecorded r × (c.args.bytes.now ≡ encoding r)) (sym c.new.ensures)
    (read_parts_take_recorded c.args.bytes.now c.in_ok-header.header c.in_ok-header.rest.now c.in_ok-threads.threads.items c.in_ok-threads.rest.now
    (λ i. omega (arith, c.type_inv.bytes i)) c.in_ok-header.ensures c.in_ok-threads.ensures nothing)
