use Rattle.std.proofs.Common.{◌∙◌, ap, Some}
use Rattle.std.specs.Prelude.{option_map}
use Rattle.ir_names.specs.Things.{name_among}
use Rattle.ir_names.proofs.Rows.{found_is_name}
use Rattle.ir_names.proofs.table.Names.get.Goals as goal

pub returns-in-Some : goal.returns-in-Some
returns-in-Some c = ap Some c.as_slice.ensures.value ∙ ap (option_map (λ v. v.items)) c.in-Some.ensures.value
    ∙ found_is_name (λ v. v.items) c.args.thing c.self.inside.rows.entries ∙ ap (λ l. name_among l c.args.thing) c.self.view_is

pub returns-in-None : goal.returns-in-None
returns-in-None c = ap (option_map (λ v. v.items)) c.in-None.ensures.value
    ∙ found_is_name (λ v. v.items) c.args.thing c.self.inside.rows.entries ∙ ap (λ l. name_among l c.args.thing) c.self.view_is
