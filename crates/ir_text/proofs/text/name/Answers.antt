use Rattle.std.proofs.Common.{◌≤◌, List, ℕ, length, sym, subst, ◌∙◌}
use Rattle.ir_text.proofs.RegisterNames.{register_name_short}
use Rattle.ir_text.proofs.text.name.Goals as goal

pub returns-clause-short : goal.returns-clause-short
returns-clause-short c =
    let is = c.as_bytes.ensures.value ∙ c.reg_name.ensures in
    let P : List ℕ → Type 0 = λ name. length name ≤ 4 in
    subst P (sym is) (register_name_short c.args.number)
