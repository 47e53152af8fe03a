use Rattle.std.proofs.Common.{◌≡◌, ap, ◌∙◌, sym, subst, Some}
use Rattle.std.specs.Prelude.{slice_get}
use Rattle.ir_world.specs.Sources.{Source}
use Rattle.ir_thread.specs.State.{ThreadState}
use Rattle.ir_state_store.specs.Nodes.{MomentsLookSame}
use Rattle.ir_state_store.specs.Table as table
use Rattle.ir_state_store.proofs.Looks.{same_numbers_look_same}
use Rattle.ir_state_store.proofs.table.Table.same_look.Goals as goal

pub returns-clause-same : goal.returns-clause-same
returns-clause-same c = λ is.
    let t : table.Table = c.self.inside.rows in
    let same : c.look-2.result ≡ c.look.result = sym (c.same_number.ensures.same is) in
    subst (λ (z : table.Table). (x y : ThreadState × Source) → slice_get z.items c.args.m ≡ Some x → slice_get z.items c.args.n ≡ Some y → MomentsLookSame z.basis.code x y)
    c.self.view_is
    (same_numbers_look_same c.tells_apart.ensures t.basis t.items t.looks c.each.ensures.basis c.each.ensures.bounded c.each.ensures.looks c.args.m c.args.n
    c.look.result c.look.ensures (c.look-2.ensures ∙ ap Some same))
