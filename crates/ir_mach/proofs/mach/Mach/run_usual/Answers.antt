use Rattle.std.proofs.Common.{◌≡◌, sym, ◌∙◌}
use Rattle.std.specs.Vec.{with_items}
use Rattle.std.proofs.lemmas.List.{with_items_is}
use Rattle.ir_mach.proofs.mach.Mach.run_usual.Goals as goal

pub returns-clause-call : goal.returns-clause-call
returns-clause-call c is code marks are =
    let memory = c.self.inside.memory in
    let same : (with_items memory c.carry_out-place.new.memory).items ≡ c.carry_out-place.new.memory =
    with_items_is memory c.carry_out-place.new.memory (c.carry_out-place.ensures.size ∙ sym c.self.invariant.0 ∙ sym memory.ok.0) in
    rw (c.address_of-self-inside.ensures, same) (c.carry_out-place.ensures.call is code marks are)
