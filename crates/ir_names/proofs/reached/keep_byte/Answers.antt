use Rattle.std.proofs.Common.{◌≡◌, ◌≤◌, ◌<◌, ◌++◌, ◌∷◌, [], length, take, List, ℕ, true, false, eqb, arith, sym, ◌∙◌, length-append}
use Rattle.std.proofs.lemmas.Bool.{eqb-true, eqb-false}
use Rattle.std.proofs.lemmas.List.{take-append-le, take_all}
use Rattle.ir_names.specs.Naming.{most_word_bytes}
use Rattle.ir_names.proofs.reached.keep_byte.Goals as goal

word_with_room : (word : List ℕ) (b : ℕ) → length word ≤ most_word_bytes → eqb (length word) most_word_bytes ≡ false
    → word ++ b ∷ [] ≡ take most_word_bytes (word ++ b ∷ [])
word_with_room word b fits room =
    let other : length word ≡ most_word_bytes → ⊥ = eqb-false (length word) most_word_bytes room in
    let below : length word < most_word_bytes = omega (arith, other) in
    sym (take_all most_word_bytes (word ++ b ∷ []) (omega (arith, length-append word (b ∷ []))))

full_word : (word : List ℕ) (b : ℕ) → eqb (length word) most_word_bytes ≡ true → word ≡ take most_word_bytes (word ++ b ∷ [])
full_word word b none =
    let e : length word ≡ most_word_bytes = eqb-true (length word) most_word_bytes none in
    sym (take-append-le most_word_bytes word (b ∷ []) (omega arith) ∙ take_all most_word_bytes word (omega arith))

pub returns-then-not-is_full : goal.returns-then-not-is_full
returns-then-not-is_full c = c.push.ensures.items
    ∙ word_with_room c.args.word.now.items c.args.byte c.is_full.ensures.fits (sym c.is_full.ensures.value ∙ c.if-not-is_full.true)

pub returns-else-not-is_full : goal.returns-else-not-is_full
returns-else-not-is_full c = full_word c.args.word.now.items c.args.byte (sym c.is_full.ensures.value ∙ c.if-not-is_full.false)
