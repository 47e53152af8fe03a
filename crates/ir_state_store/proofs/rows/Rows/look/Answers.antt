use Rattle.std.proofs.Common.{◌≡◌, ◌<◌, ◌∙◌, sym, subst, length, Some}
use Rattle.std.specs.Prelude.{slice_get}
use Rattle.ir_lemmas.proofs.CallerLemmas.{length_of_map}
use Rattle.ir_state_store.specs.Rows.{beside_in, look_of}
use Rattle.ir_state_store.specs.Table as table
use Rattle.ir_state_store.proofs.Rowed.{looked_up_row_is_mapped}
use Rattle.ir_state_store.proofs.rows.Rows.look.Goals as goal

pub returns : goal.returns
returns c =
    let start = c.self.inside.basis.memory in
    let rows = c.self.inside.rows.items in
    let less = subst (λ (z : table.Table). c.args.n < length z.items) (sym c.self.view_is) c.requires in
    let within = subst (λ k. c.args.n < k) (length_of_map (beside_in start) rows ∙ sym (length_of_map look_of rows)) less in
    subst (λ (z : table.Table). slice_get z.looks c.args.n ≡ Some c.look.result) c.self.view_is
    (looked_up_row_is_mapped look_of rows c.index.result.now c.args.n c.look.result within c.index.ensures c.look.ensures)
