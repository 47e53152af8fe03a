-- The lines of `ir explore`.
use Rattle.std.specs.Prelude.{ℕ, zero, suc, ◌*◌, Bool, true, false, List, [], ◌∷◌, ◌++◌, codes, decimal, length, take, drop, flat_map, Option, Some, None}
use Rattle.hex.specs.Hex.{encode_lower}
use Rattle.ir_thread.specs.State.{end_number, end_code, ThreadState}
use Rattle.ir_thread.specs.declared.end.End.{End}
use Rattle.ir_text.specs.Texts.{hex_word}
use Rattle.ir_text.specs.Parts.{lines_for}
use Rattle.ir_search.specs.declared.search.Ended.{Ended}
use Rattle.ir_search.specs.declared.search.Ended.TheVariants.{Finished, Covered, Stopped}
use Rattle.ir_search.specs.declared.stop.Stop.{Stop}
use Rattle.ir_search.specs.declared.stop.Stop.TheVariants as stop

-- the line of an outcome by its number, with the list that spells its order
abbrev pub outcome_line : ℕ → ℕ → List ℕ → List ℕ
outcome_line number switches list =
    codes "outcome " ++ (decimal number ++ (codes " switches " ++ (decimal switches ++ (codes " order " ++ (list ++ 10 ∷ [])))))

-- the line of a thread: how it ended, and how many bytes it printed
abbrev pub outcome_thread_line : ℕ → ℕ → ℕ → ℕ → List ℕ
outcome_thread_line thread end code printed =
    codes "thread " ++ (decimal thread ++ (codes " end " ++ (decimal end ++ (codes " code " ++ (decimal code
    ++ (codes " out " ++ (decimal printed ++ 10 ∷ [])))))))

-- of bytes, the line from byte 32 * k on
abbrev pub byte_line : List ℕ → ℕ → List ℕ
byte_line bytes k = encode_lower (take 32 (drop (32 * k) bytes)) ++ 10 ∷ []

-- the first n lines of bytes
abbrev pub byte_lines : List ℕ → ℕ → List ℕ
byte_lines bytes zero = []
byte_lines bytes (suc n) = byte_lines bytes n ++ byte_line bytes n

-- the number of an end and its code, zeros where there is none
abbrev pub end_pair : Option End → ℕ
end_pair None = 0
end_pair (Some e) = end_number e

abbrev pub end_code_of : Option End → ℕ
end_code_of None = 0
end_code_of (Some e) = end_code e

-- the lines of a thread
abbrev pub outcome_thread_text : ℕ → ThreadState → List ℕ
outcome_thread_text t s = outcome_thread_line t (end_pair s.ended) (end_code_of s.ended) (length s.output)
    ++ byte_lines s.output (lines_for 32 (length s.output))

-- words, each after a blank
abbrev pub spaced_words : List ℕ → List ℕ
spaced_words words = flat_map (λ w. codes " " ++ hex_word w) words

-- the line of an object
abbrev pub outcome_object_line : ℕ → List ℕ → List ℕ
outcome_object_line object words = codes "object " ++ (decimal object ++ (codes " words" ++ (spaced_words words ++ 10 ∷ [])))

-- why a search stopped, in words
abbrev pub stop_words : Stop → List ℕ
stop_words stop.Nodes = codes "states"
stop_words (stop.Private t) = codes "private " ++ decimal t
stop_words (stop.Log t) = codes "log " ++ decimal t
stop_words (stop.World t) = codes "world " ++ decimal t
stop_words stop.Memory = codes "memory"
stop_words stop.Time = codes "seconds"
stop_words stop.Outcomes = codes "outcomes"

-- up to how many switches the outcomes are complete, if so many levels are gone over
abbrev pub covered_text : ℕ → List ℕ
covered_text zero = codes "-"
covered_text (suc c) = decimal c

-- the line of a hang, with the list that spells the order that leads to it
abbrev pub hang_line : ℕ → List ℕ → List ℕ
hang_line switches list = codes "hang switches " ++ (decimal switches ++ (codes " order " ++ (list ++ 10 ∷ [])))

-- how many outcomes there are, and how many states
abbrev pub counts_text : ℕ → ℕ → List ℕ
counts_text outcomes states = codes "outcomes " ++ (decimal outcomes ++ (codes " states " ++ decimal states))

-- how a search ended
abbrev pub ended_text : Ended → ℕ → List ℕ
ended_text Finished levels = codes "finished"
ended_text Covered levels = codes "covered " ++ covered_text levels
ended_text (Stopped why) levels = codes "stopped " ++ (stop_words why ++ (codes " covered " ++ covered_text levels))

-- how many states have no way to an end, where that is known
abbrev pub hangs_text : Ended → ℕ → List ℕ
hangs_text Finished hangs = codes " hangs " ++ decimal hangs
hangs_text Covered hangs = []
hangs_text (Stopped why) hangs = []

-- that a call for the time is answered by a count
abbrev pub clock_text : Bool → List ℕ
clock_text true = codes " clock counted"
clock_text false = []

-- the last line
abbrev pub search_line : List ℕ → List ℕ → List ℕ → List ℕ → List ℕ
search_line ended counts hangs clock = ended ++ (codes " " ++ (counts ++ (hangs ++ (clock ++ 10 ∷ []))))

-- the line of the outcome that is recorded, by its number, with the list that spells its order
abbrev pub outcome_found_line : ℕ → ℕ → List ℕ → List ℕ
outcome_found_line number switches list = codes "found " ++ outcome_line number switches list
