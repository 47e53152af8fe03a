use Rattle.std.proofs.Common.{◌≡◌, ◌≤◌, ◌<◌, ◌++◌, ◌∷◌, [], length, take, List, ℕ, true, false, eqb, arith, sym, ◌∙◌, length-append}
use Rattle.std.proofs.lemmas.Bool.{eqb-true, eqb-false}
use Rattle.std.proofs.lemmas.List.{take-append-le, take_all}
use Rattle.ir_stream.specs.Written.{most_kept_bytes}
use Rattle.ir_stream.proofs.line.keep.Goals as goal

put : (n : ℕ) (xs : List ℕ) (b : ℕ) → length xs ≤ n → eqb (length xs) n ≡ false → xs ++ b ∷ [] ≡ take n (xs ++ b ∷ [])
put n xs b fits room =
    let other : length xs ≡ n → ⊥ = eqb-false (length xs) n room in
    let below : length xs < n = omega (arith, other) in
    sym (take_all n (xs ++ b ∷ []) (omega (arith, length-append xs (b ∷ []))))

full : (n : ℕ) (xs : List ℕ) (b : ℕ) → eqb (length xs) n ≡ true → xs ≡ take n (xs ++ b ∷ [])
full n xs b none =
    let e : length xs ≡ n = eqb-true (length xs) n none in
    sym (take-append-le n xs (b ∷ []) (omega arith) ∙ take_all n xs (omega arith))

pub returns-then-not-is_full : goal.returns-then-not-is_full
returns-then-not-is_full c = c.push.ensures.items
    ∙ put most_kept_bytes c.args.line.now.items c.args.byte c.is_full.ensures.fits (sym c.is_full.ensures.value ∙ c.if-not-is_full.true)

pub returns-else-not-is_full : goal.returns-else-not-is_full
returns-else-not-is_full c = full most_kept_bytes c.args.line.now.items c.args.byte (sym c.is_full.ensures.value ∙ c.if-not-is_full.false)
