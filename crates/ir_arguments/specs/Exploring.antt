-- What the arguments of `ir explore` ask for, by the rows of clap's matches.
use Rattle.std.specs.Prelude.{ℕ, ◌==◌, nat_lt, Bool, true, false, not, List, [], ◌∷◌, ◌++◌, length, codes, Option, Some, None, is_some, option_map, if◌then◌else◌}
use Rattle.std.specs.List.{list_all, list_any, slice_split}
use Rattle.std.specs.Option.{option_map_or}
use Rattle.std.specs.Str.{bytes_eq}
use Rattle.clap.specs.Words.{Text}
use Rattle.ir_record_command.specs.Numerals.{number_within}
use Rattle.ir_schedule.specs.Conditions.{Condition, Fact, End, Code, Word, Printed, Fault, Bad, Budget}
use Rattle.ir_schedule.specs.Spelling.{condition_of}
use Rattle.ir_arguments.specs.Asking.{random_in, seconds_in}
use Rattle.ir_arguments.specs.Conditions.{conditions_given, stale_named}
use Rattle.ir_arguments.specs.Reading.{◌>>=◌, if_given, last_large, profile_named}
use Rattle.ir_arguments.specs.Requests.{Compare, GuestComparison, Exploration, Explore, Parts, RecordOutside, Request, SearchFor, ShowClasses}
use Rattle.ir_arguments.specs.Values.{Rows, first_given, text_for, texts_for}

-- a condition asks for a spent budget
abbrev pub is_budget : Fact → Bool
is_budget Budget = true
is_budget (End thread number) = false
is_budget (Code thread code) = false
is_budget (Word object index value) = false
is_budget (Printed thread text) = false
is_budget Fault = false
is_budget Bad = false

abbrev pub asks_for_budget : Condition → Bool
asks_for_budget condition = list_any (λ l. is_budget l.fact) condition.alternatives

-- a text is a condition that an outcome may fulfil
abbrev pub is_of_outcome : Text → Bool
is_of_outcome text = if is_some (stale_named text) then false else option_map_or (λ condition. not (asks_for_budget condition)) (condition_of text) false

-- the conditions that an outcome has to fulfil, if it can fulfil each
abbrev pub conditions_on_outcome : List Text → Option (List Text)
conditions_on_outcome texts = if list_all is_of_outcome texts then conditions_given texts else None

-- a run that hangs is asked for
abbrev pub has_hang : List Text → Bool
has_hang texts = list_any (λ text. bytes_eq text (codes "hang")) texts

-- the same; nothing, if something else is asked for too
abbrev pub hang_wanted : List Text → Option Bool
hang_wanted texts = if has_hang texts then (if nat_lt 1 (length texts) then None else Some true) else Some false

-- the conditions beside a run that hangs are none
abbrev pub conditions_beside : Bool → List Text → Option (List Text)
conditions_beside true texts = Some []
conditions_beside false texts = conditions_on_outcome texts

-- the most switches, if they are bounded
abbrev pub switches_given : Option Text → Option ℕ
switches_given None = Some last_large
switches_given (Some text) = number_within 0 1000000 text

-- the most outcomes, if they are bounded
abbrev pub outcomes_in : Rows → Option (Option ℕ)
outcomes_in rows = if_given (number_within 1 100000000) (first_given rows (codes "max"))

-- the most seconds and outcomes, if they are bounded
abbrev pub ends_in : Rows → Option (Option ℕ × Option ℕ)
ends_in rows = seconds_in rows >>= λ seconds. outcomes_in rows >>= λ outcomes. Some (seconds, outcomes)

-- how far a guest is explored: the most states, steps of a thread and switches, and the most seconds and outcomes, if they are bounded
unfoldable pub reach_in : Rows → Option (ℕ × ℕ × ℕ × Option ℕ × Option ℕ)
reach_in rows = do
  states ← number_within 1 100000000 (text_for rows (codes "states"))
  private ← number_within 1 1000000000000 (text_for rows (codes "private"))
  switches ← switches_given (first_given rows (codes "switches"))
  ends ← ends_in rows
  Some (states, private, switches, ends.0, ends.1)

-- which guest is explored, how far, and what answers it
unfoldable pub exploration_in : Rows → Option Exploration
exploration_in rows = do
  reach ← reach_in rows
  random ← random_in rows
  profile ← profile_named (text_for rows (codes "profile"))
  Some (record {
    image = text_for rows (codes "IMAGE");
    states = reach.0;
    private = reach.1;
    switches = reach.2;
    seconds = reach.3;
    outcomes = reach.4;
    profile = profile;
    random = random;
    input = first_given rows (codes "input");
  })

-- what counts by the parts so far, whether all objects do, and else which
pub record Taken : Type 0 where
  pub outputs : Bool
  pub ends : Bool
  pub all : Bool
  pub objects : List ℕ

abbrev pub nothing_taken : Taken
nothing_taken = record { outputs = false; ends = false; all = false; objects = [] }

abbrev pub taken_with_object : Taken → ℕ → Taken
taken_with_object taken object = record taken { objects = taken.objects ++ object ∷ [] }

-- what counts with a part more, if it is a part
unfoldable pub with_part : Taken → Text → Option Taken
with_part taken part =
    if bytes_eq part (codes "out") then Some (record taken { outputs = true }) else
    if bytes_eq part (codes "codes") then Some (record taken { ends = true }) else
    if bytes_eq part (codes "objects") then Some (record taken { all = true }) else
    option_map (λ object. taken_with_object taken object) (number_within 0 63 part)

-- what counts with more parts, if each is a part
abbrev pub with_parts : Taken → List Text → Option Taken
with_parts taken [] = Some taken
with_parts taken (part ∷ parts) = with_part taken part >>= λ more. with_parts more parts

abbrev pub parts_taken : Taken → Parts
parts_taken taken = record { outputs = taken.outputs; ends = taken.ends; objects = if taken.all then None else Some taken.objects }

-- what counts by a list of parts with commas between them
abbrev pub parts_listed : Text → Option Parts
parts_listed text = option_map parts_taken (with_parts nothing_taken (slice_split (λ b. b == 44) text))

-- what counts; all of it, if nothing is given
abbrev pub parts_given : Option Text → Option Parts
parts_given None = Some (record { outputs = true; ends = true; objects = None })
parts_given (Some text) = parts_listed text

-- all outcomes, or the one that is recorded in TRACE; conditions are read though no TRACE is given
unfoldable pub outcomes_asked : Exploration → Rows → Option Request
outcomes_asked explore rows = do
  hang ← hang_wanted (texts_for rows (codes "until"))
  until ← conditions_beside hang (texts_for rows (codes "until"))
  Some (option_map_or (λ trace. SearchFor (record {
    explore = explore;
    trace = trace;
    until = until;
    hang = hang;
    output = first_given rows (codes "output");
  })) (first_given rows (codes "TRACE")) (Explore explore))

-- outcomes that another guest doesn't have, of which the first is recorded in TRACE, if one is given
abbrev pub compared_in : Rows → GuestComparison → Request
compared_in rows comparison = option_map_or (λ trace. RecordOutside (record {
  comparison = comparison;
  trace = trace;
  output = first_given rows (codes "output");
})) (first_given rows (codes "TRACE")) (Compare comparison)

abbrev pub comparison_asked : Exploration → Rows → Option Request
comparison_asked explore rows = option_map (λ parts. compared_in rows (record {
  explore = explore;
  other = text_for rows (codes "within");
  counted = parts;
})) (parts_given (first_given rows (codes "only")))

-- outcomes by classes
abbrev pub classes_asked : Exploration → Rows → Option Request
classes_asked explore rows = option_map (λ parts. ShowClasses (record { explore = explore; counted = parts })) (parts_given (first_given rows (codes "only")))

-- a comparison, if another guest is given; or classes, if parts are; or outcomes
abbrev pub outcomes_or_parts : Exploration → Rows → Option Request
outcomes_or_parts explore rows =
    if is_some (first_given rows (codes "within")) then comparison_asked explore rows else
    if is_some (first_given rows (codes "only")) then classes_asked explore rows else outcomes_asked explore rows

-- `ir explore IMAGE`
abbrev pub exploring_asked : Rows → Option Request
exploring_asked rows = exploration_in rows >>= λ explore. outcomes_or_parts explore rows
