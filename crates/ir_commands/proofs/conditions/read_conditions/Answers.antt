use Rattle.std.proofs.Common.{◌∷◌, [], ◌++◌, take, sym, ap, ◌∙◌, subst}
use Rattle.std.proofs.lemmas.List.{take_more}
use Rattle.ir_commands.specs.Conditions.{AreWritten}
use Rattle.ir_commands.proofs.Written.{written_more}
use Rattle.ir_commands.proofs.conditions.read_conditions.Goals as goal

pub loop-text-preserved : goal.loop-text-preserved
loop-text-preserved c =
    let xs = c.args.texts.now in
    let i = c.loop-text.text-index in
    let own = c.in_ok-condition.condition in
    let all = c.loop-text.conditions.items in
    subst (λ z. AreWritten z c.push.new.self.items)
    (ap (λ y. take i xs ++ y ∷ []) c.text-item.is ∙ sym (take_more xs i c.text-item.result c.loop-text-test.true))
    (subst (AreWritten (take i xs ++ c.text-item.result ∷ [])) (sym c.in_ok-push.ensures.items)
    (written_more (take i xs) all c.text-item.result own c.loop-text.invariant c.in_ok-condition.ensures))
