use Rattle.std.proofs.Common.{◌++◌, ◌∙◌, List, ℕ, codes, decimal, ap, append_assoc}
use Rattle.std.proofs.lemmas.Result.{on_ok_weaker}
use Rattle.ir_picture.proofs.Texts.{append_assoc_5}
use Rattle.ir_picture.proofs.arrows.push_end.Goals as goal

pub returns : goal.returns
returns c = on_ok_weaker c.push_words.result
    (λ e. append_assoc_5 c.args.text.now.items _ _ _ _ _ _ _ _ _ _ c.in_ok-push_number.ensures c.in_ok-push_number-2.ensures
    c.in_ok-push_number-3.ensures c.in_ok-push_number-4.ensures e
    ∙ ap (λ (x : List ℕ). c.args.text.now.items ++ (codes ",\n{\"name\":\"object " ++ (decimal c.args.object ++ x)))
    (append_assoc c.args.words.now (decimal c.args.number) (codes ",\"ts\":" ++ (decimal c.args.time ++ (codes ",\"pid\":1,\"tid\":"
    ++ (decimal c.args.row ++ codes "}"))))))
    c.push_words.ensures
