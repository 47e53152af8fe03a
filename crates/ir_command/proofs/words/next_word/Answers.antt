use Rattle.std.proofs.Common.{◌≡◌, ℕ, false, eqb, List, [], ◌∷◌, length, take, drop, refl, sym, ap, ◌∙◌}
use Rattle.std.proofs.lemmas.List.{nil_from_length}
use Rattle.std.proofs.lemmas.Bool.{eqb-true}
use Rattle.ir_command.specs.Commands.{words_of, is_empty}
use Rattle.ir_command.specs.Cuts.{skip_blanks, word_end}
use Rattle.ir_command.proofs.FirstWord.{words_of_first_word, words_of_blank_line}
use Rattle.ir_command.proofs.words.next_word.Goals as goal

some_byte : (line : List ℕ) → eqb (length line) 0 ≡ false → is_empty line ≡ false
some_byte [] e = absurd cc
some_byte (b ∷ bytes) e = refl

pub returns-then-is_empty : goal.returns-then-is_empty
returns-then-is_empty c = words_of_blank_line c.args.line.now (sym c.skip-line.ensures ∙ nil_from_length _ (eqb-true _ _ (sym c.if-is_empty.ensures)))

cut : (line l word rest : List ℕ) (n : ℕ) → l ≡ skip_blanks line → is_empty l ≡ false → n ≡ word_end l → word ≡ take n l → rest ≡ drop n l
    → words_of line ≡ word ∷ words_of rest
cut line l word rest n skipped some end prefix back =
    let first = words_of_first_word line (ap is_empty (sym skipped) ∙ some) in
    let word_is : take (word_end (skip_blanks line)) (skip_blanks line) ≡ word = rw (← skipped, ← end) (sym prefix) in
    let rest_is : drop (word_end (skip_blanks line)) (skip_blanks line) ≡ rest = rw (← skipped, ← end) (sym back) in
    first ∙ rw (word_is, rest_is) refl

pub returns : goal.returns
returns c = cut c.args.line.now c.skip-line.result.now _ _ c.word_len.result c.skip-line.ensures
    (some_byte _ (sym c.is_empty.ensures ∙ c.if-is_empty.false)) c.word_len.ensures.value c.split_at.ensures.front c.split_at.ensures.back
