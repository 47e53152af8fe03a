use Rattle.std.proofs.Common.{◌∙◌, ap, sym, ◌++◌, ◌∷◌, [], map}
use Rattle.indexmap.proofs.CallerLemmas.{insert_entry-new}
use Rattle.ir_names.specs.Things.{name_among}
use Rattle.ir_names.specs.contracts.thing.ThingPartialEq.TheImpl as thing_eq
use Rattle.ir_names.proofs.Rows.{found_is_name, none_of_found, row_if_unnamed, row_seen, rows_append, unnamed_if_none}
use Rattle.ir_names.proofs.table.Names.add.Goals as goal

pub returns : goal.returns
returns c =
    let name = c.in_ok-name.name in
    let old = c.self.inside.rows in
    let unnamed = unnamed_if_none c.get.result (name_among c.args.self.now c.args.thing) c.get.ensures (sym c.is_some.ensures ∙ c.if-is_some.false) in
    let none = none_of_found (λ v. v.items) _ (found_is_name (λ v. v.items) c.args.thing old.entries ∙ ap (λ l. name_among l c.args.thing) c.self.view_is ∙ unnamed) in
    ap (λ l. map (row_seen (λ v. v.items)) l) (c.in_ok-insert.ensures.entries ∙ insert_entry-new ((thing_eq.ghosts).eq) old c.args.thing name none)
    ∙ rows_append (λ v. v.items) old.entries ((c.args.thing, name) ∷ [])
    ∙ (λ j. c.self.view_is j ++ (c.args.thing, c.in_ok-name.ensures.items j) ∷ [])
    ∙ sym (row_if_unnamed c.args.self.now (c.args.thing, c.args.name.now) unnamed)
