-- What a line asks of a recorded run.
use Rattle.std.specs.Prelude.{ℕ, nat_lt, List, [], ◌∷◌, length, codes, Option, Some, None, if◌then◌else◌, option_map, option_and_then}
use Rattle.std.specs.Str.{bytes_eq}
use Rattle.ir_command.specs.Commands.{number_up_to, most_small, words_of, without_return, most_line}
use Rattle.ir_monitor.specs.declared.asked.Form.{Form}
use Rattle.ir_monitor.specs.declared.asked.Form.TheVariants as form
use Rattle.ir_monitor.specs.declared.asked.Asked.{Asked}
use Rattle.ir_monitor.specs.declared.asked.Asked.TheVariants.{Object, Version, Word, Stale, Event, LastEvent, Events, ThreadEvents, Misspelt}

-- made of the number that a word writes, as in a session's line
abbrev pub of_one : {X : Type 0} → (ℕ → X) → List ℕ → Option X
of_one make word = option_map make (number_up_to most_small word)

-- made of the numbers that two words write
abbrev pub of_two : {X : Type 0} → (ℕ → ℕ → X) → List ℕ → List ℕ → Option X
of_two make first second = option_and_then (λ a. of_one (make a) second) (number_up_to most_small first)

-- what these words ask behind `who`
abbrev pub asked_by_who : List (List ℕ) → Option Asked
asked_by_who (object ∷ []) = of_one Object object
asked_by_who (object ∷ version ∷ []) = of_two Version object version
asked_by_who (object ∷ between ∷ word ∷ []) = if bytes_eq between (codes "word") then of_two Word object word else None
asked_by_who words = None

-- behind `stale`
abbrev pub asked_by_stale : List (List ℕ) → Option Asked
asked_by_stale [] = Some Stale
asked_by_stale words = None

-- behind `why`
abbrev pub asked_by_why : List (List ℕ) → Option Asked
asked_by_why [] = Some LastEvent
asked_by_why (thread ∷ event ∷ []) = of_two Event thread event
asked_by_why words = None

-- behind `events`
abbrev pub asked_by_events : List (List ℕ) → Option Asked
asked_by_events [] = Some Events
asked_by_events (thread ∷ []) = of_one ThreadEvents thread
asked_by_events words = None

-- what is asked, or that it is no question of this form
abbrev pub or_misspelt : Form → Option Asked → Asked
or_misspelt form (Some asked) = asked
or_misspelt form None = Misspelt form

-- what the words of a line ask
unfoldable pub asked_by_words : List (List ℕ) → Option Asked
asked_by_words [] = None
asked_by_words (name ∷ words) =
    if bytes_eq name (codes "who") then Some (or_misspelt form.Who (asked_by_who words))
    else if bytes_eq name (codes "stale") then Some (or_misspelt form.Stale (asked_by_stale words))
    else if bytes_eq name (codes "why") then Some (or_misspelt form.Why (asked_by_why words))
    else if bytes_eq name (codes "events") then Some (or_misspelt form.Events (asked_by_events words))
    else None

-- what a line asks, which is given as a session's line is; a line that is no question is answered by a session
unfoldable pub asked_of : List ℕ → Option Asked
asked_of line = if nat_lt most_line (length line) then None else asked_by_words (words_of (without_return line))
