-- Lists that are printed, item by item.
use Rattle.std.specs.Prelude.{◌≡◌, ◌≢◌, ◌<◌, ◌==◌, if◌then◌else◌, ℕ, Bool, true, false, List, [], ◌∷◌, ◌++◌, decimal, Some}
use Rattle.std.specs.List.{AllByRecursion}
use Rattle.ir_record.specs.Refusing.{Turn, plain_turns}
use Rattle.ir_record_command.specs.Order.{order_of}

-- count turns of a thread, as an item, with a mark if tries in them are refused
abbrev pub item_text : ℕ → Bool → ℕ → List ℕ
item_text thread false count = if count == 1 then decimal thread else decimal thread ++ 120 ∷ decimal count
item_text thread true count = if count == 1 then decimal thread ++ 33 ∷ [] else decimal thread ++ 33 ∷ 120 ∷ decimal count

-- a list with one item more
abbrev pub with_item : List ℕ → List ℕ → List ℕ
with_item [] item = item
with_item (b ∷ list) item = (b ∷ list) ++ 44 ∷ item

-- the list spells these turns, for each guest that has their threads
abbrev pub SpellsTurns : List ℕ → List Turn → Type 0
SpellsTurns list turns = (n : ℕ) → AllByRecursion (λ t. t.0 < n) turns → order_of n list ≡ Some turns

-- the list spells turns of these threads in which no try is refused that may enter, for each guest that has the threads
abbrev pub Spells : List ℕ → List ℕ → Type 0
Spells list order = (n : ℕ) → AllByRecursion (λ t. t < n) order → order_of n list ≡ Some (plain_turns order)

-- the list of turns: it spells them, and is empty where there is none
abbrev pub IsListOf : List ℕ → List Turn → Type 0
IsListOf [] turns = turns ≡ []
IsListOf (b ∷ list) turns = (turns ≢ []) × SpellsTurns (b ∷ list) turns
