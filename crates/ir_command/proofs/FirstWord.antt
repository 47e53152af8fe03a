-- The words of a line, by its first.
use Rattle.std.proofs.Common.{◌≡◌, ℕ, Bool, true, false, List, [], ◌∷◌, take, drop, refl, sym, ap, ◌∙◌}
use Rattle.std.specs.Prelude.{filter, not}
use Rattle.std.specs.List.{slice_split}
use Rattle.ir_command.specs.Commands.{is_empty, words_of}
use Rattle.ir_command.specs.Cuts.{skip_blanks, word_end, is_blank}

abbrev is_nonempty : List ℕ → Bool
is_nonempty word = not (is_empty word)

-- the parts after the first, where what is left begins with a blank
abbrev parts_after_word : List ℕ → List (List ℕ)
parts_after_word [] = []
parts_after_word (b ∷ bytes) = slice_split is_blank bytes

split_first_word_step : (t : Bool) (b : ℕ) (bytes : List ℕ) → is_blank b ≡ t → slice_split is_blank bytes ≡ take (word_end bytes) bytes
    ∷ parts_after_word (drop (word_end bytes) bytes)
    → slice_split is_blank (b ∷ bytes) ≡ take (word_end (b ∷ bytes)) (b ∷ bytes) ∷ parts_after_word (drop (word_end (b ∷ bytes)) (b ∷ bytes))
unfolding word_end
split_first_word_step true b bytes e split = rw e refl
split_first_word_step false b bytes e split = rw (e, split) refl

split_first_word : (line : List ℕ) → slice_split is_blank line ≡ take (word_end line) line ∷ parts_after_word (drop (word_end line) line)
unfolding word_end
split_first_word [] = refl
split_first_word (b ∷ bytes) = split_first_word_step (is_blank b) b bytes refl (split_first_word bytes)

-- what is left after a word begins with a blank, or is nothing
pub record HasWordsAfterBlank (line : List ℕ) : Type 0 where
  pub words : words_of line ≡ filter is_nonempty (parts_after_word line)

rest_has_words_step : (t : Bool) (b : ℕ) (bytes : List ℕ) → is_blank b ≡ t → HasWordsAfterBlank (drop (word_end bytes) bytes)
    → HasWordsAfterBlank (drop (word_end (b ∷ bytes)) (b ∷ bytes))
unfolding word_end words_of
rest_has_words_step true b bytes e at = record { words = rw e (rw e refl) }
rest_has_words_step false b bytes e at = rw e at

rest_has_words : (line : List ℕ) → HasWordsAfterBlank (drop (word_end line) line)
unfolding word_end words_of
rest_has_words [] = record { words = refl }
rest_has_words (b ∷ bytes) = rest_has_words_step (is_blank b) b bytes refl (rest_has_words bytes)

skipped_words_step : (t : Bool) (b : ℕ) (bytes : List ℕ) → is_blank b ≡ t → words_of (skip_blanks bytes) ≡ words_of bytes
    → words_of (skip_blanks (b ∷ bytes)) ≡ words_of (b ∷ bytes)
unfolding words_of skip_blanks
skipped_words_step true b bytes e same = rw e same
skipped_words_step false b bytes e same =
    let here : skip_blanks (b ∷ bytes) ≡ b ∷ bytes = rw e refl in
    ap words_of here

-- blanks before the first word don't matter
pub skipped_words_same : (line : List ℕ) → words_of (skip_blanks line) ≡ words_of line
unfolding skip_blanks
skipped_words_same [] = refl
skipped_words_same (b ∷ bytes) = skipped_words_step (is_blank b) b bytes refl (skipped_words_same bytes)

first_word_nonempty : (t : Bool) (b : ℕ) (bytes : List ℕ) → is_blank b ≡ t
    → (is_empty (skip_blanks bytes) ≡ false → is_empty (take (word_end (skip_blanks bytes)) (skip_blanks bytes)) ≡ false)
    → is_empty (skip_blanks (b ∷ bytes)) ≡ false → is_empty (take (word_end (skip_blanks (b ∷ bytes))) (skip_blanks (b ∷ bytes))) ≡ false
unfolding skip_blanks word_end
first_word_nonempty true b bytes e begin some = rw e (begin (rw e at some))
first_word_nonempty false b bytes e begin some = rw e (rw e refl)

-- what begins with no blank begins with a word
first_word_not_empty : (line : List ℕ) → is_empty (skip_blanks line) ≡ false → is_empty (take (word_end (skip_blanks line)) (skip_blanks line)) ≡ false
unfolding skip_blanks
first_word_not_empty [] some = absurd cc
first_word_not_empty (b ∷ bytes) some = first_word_nonempty (is_blank b) b bytes refl (first_word_not_empty bytes) some

filter_keeps_first_word : (word : List ℕ) (rest : List (List ℕ)) → is_empty word ≡ false → filter is_nonempty (word ∷ rest) ≡ word ∷ filter is_nonempty rest
filter_keeps_first_word word rest some = rw some refl

-- the first word, and the words of what is left
pub words_of_first_word : (line : List ℕ) → is_empty (skip_blanks line) ≡ false
    → words_of line ≡ take (word_end (skip_blanks line)) (skip_blanks line)
    ∷ words_of (drop (word_end (skip_blanks line)) (skip_blanks line))
unfolding words_of
words_of_first_word line some =
    let l = skip_blanks line in
    let split : words_of l ≡ filter is_nonempty (take (word_end l) l ∷ parts_after_word (drop (word_end l) l)) = ap (filter is_nonempty) (split_first_word l) in
    let first = filter_keeps_first_word (take (word_end l) l) (parts_after_word (drop (word_end l) l)) (first_word_not_empty line some) in
    let rest = ap (λ (words : List (List ℕ)). take (word_end l) l ∷ words) (sym (rest_has_words l).words) in
    sym (skipped_words_same line) ∙ split ∙ first ∙ rest

pub words_of_blank_line : (line : List ℕ) → skip_blanks line ≡ [] → words_of line ≡ []
unfolding words_of
words_of_blank_line line none =
    let e : words_of (skip_blanks line) ≡ [] = ap words_of none in
    sym (skipped_words_same line) ∙ e
