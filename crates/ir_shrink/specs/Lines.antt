-- The lines of a shrunk run.
use Rattle.std.specs.Prelude.{ℕ, Bool, true, false, List, [], ◌∷◌, ◌++◌, codes, decimal}

-- whether no turn boundary can be taken from the list, or the time was over before that was known
abbrev pub search_end_line : Bool → List ℕ
search_end_line true = codes "minimal" ++ 10 ∷ []
search_end_line false = codes "stopped seconds" ++ 10 ∷ []

-- how many switches the run had and has, with the list that spells its order, and how the search ended
abbrev pub shrunk_lines : ℕ → ℕ → List ℕ → Bool → List ℕ
shrunk_lines before after list is_minimal =
    codes "shrunk " ++ (decimal before ++ (codes " to " ++ (decimal after ++ (codes " order " ++ (list ++ 10 ∷ search_end_line is_minimal)))))
