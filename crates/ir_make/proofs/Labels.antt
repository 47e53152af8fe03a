-- The symbols of labels, one after the other.
use Rattle.std.proofs.Common.{◌≡◌, ◌+◌, ℕ, List, [], ◌∷◌, ◌++◌, take, get_or, refl, ap, subst, ◌∙◌}
use Rattle.std.specs.Prelude.{Some, slice_get}
use Rattle.std.specs.List.{All}
use Rattle.std.proofs.lemmas.List.{take_more}
use Rattle.std.proofs.lemmas.Option.{get_or_from_slice_get, slice_get_within}
use Rattle.ir_asm.specs.declared.item.Place.{Place}
use Rattle.ir_make.specs.Mapping.{IsNamed, label_symbol, label_symbols}

label_symbols_of_append : (labels : List (List ℕ × Place)) (label : List ℕ × Place)
    → label_symbols (labels ++ label ∷ []) ≡ label_symbols labels ++ label_symbol label ∷ []
label_symbols_of_append [] label = refl
label_symbols_of_append (x ∷ labels) label = ap (λ symbols. label_symbol x ∷ symbols) (label_symbols_of_append labels label)

-- the symbols of the first labels and of the next one
pub label_symbols_step : (labels : List (List ℕ × Place)) (i : ℕ) (label : List ℕ × Place) → slice_get labels i ≡ Some label
    → label_symbols (take (i + 1) labels) ≡ label_symbols (take i labels) ++ label_symbol label ∷ []
label_symbols_step labels i label e = ap label_symbols (take_more labels i label (slice_get_within labels i label e))
    ∙ label_symbols_of_append (take i labels) (get_or labels i label)
    ∙ ap (λ l. label_symbols (take i labels) ++ label_symbol l ∷ []) (get_or_from_slice_get labels i label label e)

-- the label of an index is named, as all are
pub label_at_index_is_named : (labels : List (List ℕ × Place)) (i : ℕ) (label : List ℕ × Place) → slice_get labels i ≡ Some label → All IsNamed labels → IsNamed label
label_at_index_is_named labels i label e all = subst IsNamed (get_or_from_slice_get labels i label label e) (all i label (slice_get_within labels i label e))
