use Rattle.std.proofs.Common.{List, ℕ, ap, ◌∙◌, ◌++◌, ◌∷◌, [], map}
use Rattle.std.specs.String.{string_bytes}
use Rattle.ir_lemmas.proofs.CallerLemmas.{map_of_append_item}
use Rattle.ir_names.proofs.words.push_word.Goals as goal

pub returns : goal.returns
returns c = ap (map string_bytes) c.in_ok-push.ensures.items ∙ map_of_append_item string_bytes c.args.words.now.items c.in_ok-word.word
    ∙ ap (λ (word : List ℕ). map string_bytes c.args.words.now.items ++ word ∷ []) c.in_ok-word.ensures.ok
