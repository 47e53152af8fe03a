-- Lists that say which thread takes each next step.
use Rattle.std.specs.Prelude.{codes, if◌then◌else◌, ℕ, ◌-◌, ◌==◌, ◌&&◌, nat_le, length, Bool, true, false, List, [], ◌∷◌, ◌++◌, replicate, Option, Some, None}
use Rattle.std.specs.List.{slice_split}
use Rattle.std.specs.Option.{is_none, is_some}
use Rattle.std.specs.Str.{all_ascii_digits}
use Rattle.ir_record.specs.Refusing.{Turn}
use Rattle.ir_record_command.specs.Numerals.{number_within}

-- the most steps of an item
abbrev pub most_turns : ℕ
most_turns = 1000000

-- a turn of a thread, if there is a thread
abbrev pub turn : Option ℕ → Bool → Option Turn
turn (Some thread) refused = Some (thread, refused)
turn None refused = None

-- a turn by its parts: `T`, of thread T; or `T!`, in which a try is refused
abbrev pub turn_by : ℕ → List (List ℕ) → Option Turn
turn_by threads (thread ∷ []) = turn (number_within 0 (threads - 1) thread) false
turn_by threads (thread ∷ [] ∷ []) = turn (number_within 0 (threads - 1) thread) true
turn_by threads parts = None

-- what a turn's text spells, its parts being around the mark !
abbrev pub turn_of : ℕ → List ℕ → Option Turn
turn_of threads text = turn_by threads (slice_split (λ b. b == 33) text)

-- count such turns, if both are spelled
abbrev pub turns : Option Turn → Option ℕ → Option (List Turn)
turns (Some one) (Some count) = Some (replicate count one)
turns one count = None

-- an item by its parts: a turn; or a turn and N, that turn N times
abbrev pub item_by : ℕ → List (List ℕ) → Option (List Turn)
item_by threads (one ∷ []) = turns (turn_of threads one) (Some 1)
item_by threads (one ∷ count ∷ []) = turns (turn_of threads one) (number_within 1 most_turns count)
item_by threads parts = None

-- what an item spells, its parts being around the letter x
abbrev pub item_of : ℕ → List ℕ → Option (List Turn)
item_of threads item = item_by threads (slice_split (λ b. b == 120) item)

-- what the first item spells and then the others, if each spells something
abbrev pub items_joined : Option (List Turn) → Option (List Turn) → Option (List Turn)
items_joined (Some first) (Some rest) = Some (first ++ rest)
items_joined first rest = None

abbrev pub items_of : ℕ → List (List ℕ) → Option (List Turn)
items_of threads [] = Some []
items_of threads (item ∷ items) = items_joined (item_of threads item) (items_of threads items)

-- the turns in the order that a list spells, which is items with commas between them; the first argument is how many threads the guest has
abbrev pub order_of : ℕ → List ℕ → Option (List Turn)
order_of threads list = items_of threads (slice_split (λ b. b == 44) list)

-- the first of these items that spells no steps
abbrev pub first_bad : ℕ → List (List ℕ) → Option (List ℕ)
first_bad threads [] = None
first_bad threads (item ∷ items) = if is_none (item_of threads item) then Some item else first_bad threads items

-- one decimal digit or more, and nothing else
abbrev pub is_digits : List ℕ → Bool
is_digits text = nat_le 1 (length text) && all_ascii_digits text

-- whether a turn is written as T or T!, with digits for T, by its parts around the mark !
abbrev pub is_turn_by : List (List ℕ) → Bool
is_turn_by (thread ∷ []) = is_digits thread
is_turn_by (thread ∷ [] ∷ []) = is_digits thread
is_turn_by parts = false

-- whether an item is written as a turn, or as a turn, an x and digits, by its parts around the letter x
abbrev pub is_item_by : List (List ℕ) → Bool
is_item_by (one ∷ []) = is_turn_by (slice_split (λ b. b == 33) one)
is_item_by (one ∷ count ∷ []) = is_turn_by (slice_split (λ b. b == 33) one) && is_digits count
is_item_by parts = false

-- whether the turn of an item, which is its first part around the letter x, is of a thread of the guest
abbrev pub names_thread_by : ℕ → List (List ℕ) → Bool
names_thread_by threads [] = false
names_thread_by threads (one ∷ parts) = is_some (turn_of threads one)

-- why an item that spells no steps spells none, in words: it isn't written as an item, or its thread isn't of the guest, or else its count is over the limit or 0
abbrev pub item_why : ℕ → List ℕ → List ℕ
item_why threads item = if is_item_by (slice_split (λ b. b == 120) item)
    then (if names_thread_by threads (slice_split (λ b. b == 120) item) then codes "has an N that is not from 1 to 1000000" else codes "names no thread of the image")
    else codes "is none of T, TxN, T! and T!xN"
