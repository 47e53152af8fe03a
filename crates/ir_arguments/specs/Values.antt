-- What is given for the arguments of a command, by the rows of clap's matches.
use Rattle.std.specs.Prelude.{◌≡◌, Bool, false, List, [], codes, Option, Some, None, unwrap_or, Result, Ok, Err}
use Rattle.std.specs.Option.{option_map_or}
use Rattle.std.specs.Str.{bytes_eq}
use Rattle.clap.specs.Words.{Row, Text, all_of, first_of, found_of, rows_of}
use Rattle.clap.specs.declared.parser.matches.ArgMatches.{ArgMatches}
use Rattle.ir_arguments.specs.declared.argument_err.ArgumentErr.{ArgumentErr}
use Rattle.ir_arguments.specs.declared.argument_err.ArgumentErr.TheVariants.{Wrong, NoMem}

-- a row for each argument that has a value
abbrev pub Rows : Type 0
Rows = List Row

abbrev pub rows_of_matches : ArgMatches → Rows
rows_of_matches matches = rows_of (found_of matches)

-- the text that is given for an argument, the first of several
abbrev pub first_given : Rows → Text → Option Text
first_given rows id = first_of id rows

-- the same, empty where none is given
abbrev pub text_for : Rows → Text → Text
text_for rows id = unwrap_or (first_of id rows) []

-- all the texts that are given for an argument
abbrev pub texts_for : Rows → Text → List Text
texts_for rows id = unwrap_or (all_of id rows) []

-- a flag is given
abbrev pub has_flag : Rows → Text → Bool
has_flag rows id = option_map_or (λ value. bytes_eq value (codes "true")) (first_of id rows) false

-- nothing is read, as a text says, or memory ran out
abbrev pub IsWrong : {Y : Type 0} → ArgumentErr → Option Y → Type 0
IsWrong (Wrong why) read = None ≡ read
IsWrong NoMem read = Unit {0}

-- an answer, seen by a function, is what is read, unless memory ran out
abbrev pub YieldsOrNothing : {X Y : Type 0} → (X → Y) → Result X ArgumentErr → Option Y → Type 0
YieldsOrNothing view (Ok value) read = Some (view value) ≡ read
YieldsOrNothing view (Err e) read = IsWrong e read
