use Rattle.std.proofs.Common.{◌≡◌, length, ap, sym, ◌∙◌, subst, arith}
use Rattle.ir_checkpoint.specs.Store.{Entry, AreEntries, thread_count}
use Rattle.ir_checkpoint.proofs.Calls.{keeping_cut_length, number_at_nearest_place}
use Rattle.ir_checkpoint.proofs.keeper.Keeper.nearest.Goals as goal

pub nearest-place-requires-clause-each : goal.nearest-place-requires-clause-each
nearest-place-requires-clause-each c =
    let entries = c.self.inside.entries.items in
    let same : length c.positions.result.now ≡ thread_count entries =
    ap length c.positions.ensures ∙ keeping_cut_length (thread_count entries) c.self.inside.last entries c.args.cut.now c.args.self.now c.self.invariant c.self.view_is c.requires in
    subst (AreEntries (length c.positions.result.now)) (sym c.as_slice.ensures.value) (subst (λ n. AreEntries n entries) (sym same) c.self.invariant.each)

pub nearest-place-requires-clause-few : goal.nearest-place-requires-clause-few
nearest-place-requires-clause-few c =
    let entries = c.self.inside.entries.items in
    let same : length c.positions.result.now ≡ thread_count entries =
    ap length c.positions.ensures ∙ keeping_cut_length (thread_count entries) c.self.inside.last entries c.args.cut.now c.args.self.now c.self.invariant c.self.view_is c.requires in
    omega (arith, same, c.self.invariant.threads)

pub returns : goal.returns
returns c =
    let entries = c.self.inside.entries.items in
    number_at_nearest_place (thread_count entries) c.self.inside.last c.nearest-place.result c.entry.inside.number entries
    c.as_slice.result.now c.args.cut.now c.positions.result.now c.index-entry.result.now c.args.self.now
    c.self.invariant c.self.view_is c.as_slice.ensures.value c.positions.ensures c.nearest-place.ensures (ap (λ (e : Entry). e.number) (c.entry.view_is ∙ c.index-entry.ensures))
