-- The lines of a hunt.
use Rattle.std.specs.Prelude.{ℕ, List, [], ◌∷◌, ◌++◌, codes, decimal, if◌then◌else◌, nat_lt}

-- a seed that was found, with the list that spells its order
abbrev pub found_line : ℕ → List ℕ → List ℕ
found_line seed list = codes "found seed " ++ (decimal seed ++ (codes " order " ++ (list ++ 10 ∷ [])))

-- that these many seeds were left out
abbrev pub left_out_words : ℕ → List ℕ
left_out_words count = codes "seeds that were left out, since their runs have too many turns to be followed: " ++ decimal count

-- none of these seeds
abbrev pub none_line : ℕ → ℕ → List ℕ
none_line first last = codes "none " ++ (decimal first ++ (codes ".." ++ (decimal last ++ 10 ∷ [])))

-- that the time was over before the last seed was tried
abbrev pub seconds_line : List ℕ
seconds_line = codes "stopped seconds" ++ 10 ∷ []

-- none of the seeds from the first to the one that was tried last, and whether more were to be tried
abbrev pub none_lines : ℕ → ℕ → ℕ → List ℕ
none_lines first tried last = if nat_lt tried last then none_line first tried ++ seconds_line else none_line first tried
