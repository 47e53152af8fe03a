use Rattle.std.proofs.Common.{rules, ◌≡◌, ◌==◌, ◌++◌, ◌∷◌, true, List, [], ℕ, map, take, length, sym, ap, subst, ◌∙◌, IfOk, string_bytes, codes, decimal}
use Rattle.ir_make.specs.Assembling.{most_shown, shown_fault, source_line_at, shown_line, after_cause, cause_words}
use Rattle.ir_make.proofs.ShownLines.{after_cause_of_empty}
use Rattle.ir_make.proofs.reporting.explaining_line.Goals as goal

pub returns-then-is_empty : goal.returns-then-is_empty
returns-then-is_empty c =
    let part : c.shown_part-part.result.now ≡ take most_shown (source_line_at c.args.text.now c.args.line) =
    c.shown_part-part.ensures ∙ ap (take most_shown) (c.as_bytes.ensures.value ∙ c.line_at.ensures) in
    let empty : (length c.shown_part-part.result.now == 0) ≡ true = search rules in
    let none : after_cause (shown_line c.args.text.now c.args.line) ≡ [] =
    ap (λ (l : List ℕ). after_cause (map shown_fault l)) (sym part) ∙ after_cause_of_empty c.shown_part-part.result.now empty in
    let P : List ℕ → List ℕ → Type 0 = λ words rest. IfOk c.format.result (λ s. string_bytes s ≡ c.args.name.now
    ++ (codes ":" ++ (decimal c.args.line ++ (codes ": " ++ (words ++ (rest ++ 10 ∷ [])))))) in
    subst (P (cause_words c.args.cause)) (sym none) (subst (λ (words : List ℕ). P words []) c.words_of-words.ensures c.format.ensures.ok)
