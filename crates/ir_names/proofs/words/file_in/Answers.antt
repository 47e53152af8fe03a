use Rattle.std.proofs.Common.{◌≡◌, ◌∙◌, ◌++◌, Bool, true, false, List, ℕ, Option, Some, None, Bor, MatchOption, ap, sym, refl, take, drop, codes, take-append-drop}
use Rattle.std.proofs.lemmas.Slice.Eq.{bytes_eq-Decides}
use Rattle.std.specs.Str.Pattern.{FindsTextPrefix, LacksTextAt, StripsPrefix}
use Rattle.ir_names.specs.Words.{has_file}
use Rattle.ir_names.proofs.words.file_in.Goals as goal

no_file : (word : List ℕ) (b : Bool) → has_file word ≡ b → LacksTextAt (codes "--names=") word 0 → b ≡ false
no_file word true e lacks = absurd (lacks (drop 8 word) (sym (take-append-drop 8 word)
    ∙ ap (λ (first : List ℕ). first ++ drop 8 word) ((bytes_eq-Decides (take 8 word) (codes "--names=")).0 e)))
no_file word false e lacks = refl

tested : (word : List ℕ) (r : Option (Bor (List ℕ)))
    → MatchOption r (LacksTextAt (codes "--names=") word 0) (λ x. StripsPrefix (FindsTextPrefix (codes "--names=")) word x.now)
    → MatchOption r (has_file word ≡ false) (λ x. (has_file word ≡ true) × (x.now ≡ drop 8 word))
tested word None lacks = no_file word (has_file word) refl lacks
tested word (Some x) strips = (
  (bytes_eq-Decides (take 8 word) (codes "--names=")).1 (ap (take 8) strips.1.1),
  strips.2 ∙ ap (λ (n : ℕ). drop n word) strips.1.0,
)

pub returns : goal.returns
returns c = tested c.args.word.now c.strip_prefix.result c.strip_prefix.ensures.cases
