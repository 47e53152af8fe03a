-- What a line asks: one table of names and of the numbers after them.
use Rattle.std.specs.Prelude.{ℕ, nat_lt, List, [], ◌∷◌, length, codes, find, slice_index, Option, Some, None, if◌then◌else◌, option_map}
use Rattle.std.specs.Prelude.{option_and_then, Result, Ok, Err, ◌-◌, ◌==◌, ◌||◌, not, Bool, true, false, take, filter, ◌^◌, ◌&&◌, nat_le}
use Rattle.std.specs.Str.{bytes_eq}
use Rattle.ir_command.specs.declared.command.Command.{Command}
use Rattle.ir_command.specs.declared.command.Command.TheVariants as command
use Rattle.ir_command.specs.declared.command.Move.TheVariants.{Step, Back, Goto, Start, End}
use Rattle.ir_command.specs.declared.command.Direction.TheVariants.{Forwards, Backwards}
use Rattle.ir_command.specs.declared.command.Point.TheVariants.{Break, Watch, WatchObject}
use Rattle.ir_command.specs.declared.command.Show.TheVariants.{Registers, Memory, Object, Output, Log, Next}
use Rattle.ir_command.specs.declared.command.Keeping.TheVariants.{Keep, Load, Drop, Kept}
use Rattle.ir_command.specs.declared.refusal.Refusal.{Refusal}
use Rattle.ir_command.specs.declared.refusal.Refusal.TheVariants.{UnknownCommand, BadArgument, LineTooLong, NoSuchThread, NoSuchObject, NoSuchNumber, BadAddress, NoMemory, Full}
use Rattle.std.specs.List.{slice_split}
use Rattle.ir_numerals.specs.Numerals.{number_in}

-- the numbers that a word may write: of a thread, an object, a count or an address; of a position; of bytes that are shown
pub data Kind : Type 0 where
  Small : Kind
  Position : Kind
  Bytes : Kind

-- the most that a thread, an object, a count or an address may be
abbrev pub most_small : ℕ
most_small = 2 ^ 32 - 1

-- the most that a position may be
abbrev pub most_position : ℕ
most_position = 2 ^ 64 - 1

-- the most bytes that one command shows
abbrev pub most_bytes : ℕ
most_bytes = 256

-- 1 to 20 decimal digits, or `0x` and 1 to 16 hexadecimal digits of either case
unfoldable pub number_of : List ℕ → Option ℕ
number_of word = number_in 20 16 word

-- a number that may not pass the limit
abbrev pub number_up_to : ℕ → List ℕ → Option ℕ
number_up_to limit word = option_and_then (λ n. if nat_le n limit then Some n else None) (number_of word)

-- the number of a kind that a word writes
abbrev pub argument : Kind → List ℕ → Option ℕ
argument Small word = number_up_to most_small word
argument Position word = number_up_to most_position word
argument Bytes word = option_and_then (λ n. if nat_le 1 n && nat_le n most_bytes then Some n else None) (number_of word)

-- the numbers that the words write, if there is a word of each kind and no other
abbrev pub arguments : List Kind → List (List ℕ) → Option (List ℕ)
arguments [] [] = Some []
arguments (kind ∷ kinds) (word ∷ words) = option_and_then (λ n. option_map (λ ns. n ∷ ns) (arguments kinds words)) (argument kind word)
arguments kinds words = None

-- a command's name, the kinds of its arguments, and the command that they make
pub record Row : Type 0 where
  pub name : List ℕ
  pub kinds : List Kind
  pub makes : List ℕ → Command

abbrev pub row : List ℕ → List Kind → (List ℕ → Command) → Row
row name kinds makes = record { name = name; kinds = kinds; makes = makes }

abbrev pub first : List ℕ → ℕ
first ns = slice_index ns 0

abbrev pub second : List ℕ → ℕ
second ns = slice_index ns 1

abbrev pub third : List ℕ → ℕ
third ns = slice_index ns 2

abbrev pub table : List Row
table =
    row (codes "step") (Small ∷ Small ∷ []) (λ ns. command.Move (Step (first ns) (second ns))) ∷
    row (codes "back") (Small ∷ Small ∷ []) (λ ns. command.Move (Back (first ns) (second ns))) ∷
    row (codes "goto") (Small ∷ Position ∷ []) (λ ns. command.Move (Goto (first ns) (second ns))) ∷
    row (codes "cont") (Small ∷ []) (λ ns. command.Continue (first ns) Forwards) ∷
    row (codes "rcont") (Small ∷ []) (λ ns. command.Continue (first ns) Backwards) ∷
    row (codes "start") [] (λ ns. command.Move Start) ∷
    row (codes "end") [] (λ ns. command.Move End) ∷
    row (codes "pos") [] (λ ns. command.Position) ∷
    row (codes "break") (Small ∷ Small ∷ []) (λ ns. command.Set (Break (first ns) (second ns))) ∷
    row (codes "watch") (Small ∷ Small ∷ []) (λ ns. command.Set (Watch (first ns) (second ns))) ∷
    row (codes "owatch") (Small ∷ []) (λ ns. command.Set (WatchObject (first ns))) ∷
    row (codes "clear") (Small ∷ []) (λ ns. command.Clear (first ns)) ∷
    row (codes "regs") (Small ∷ []) (λ ns. command.Show (Registers (first ns))) ∷
    row (codes "mem") (Small ∷ Small ∷ Bytes ∷ []) (λ ns. command.Show (Memory (first ns) (second ns) (third ns))) ∷
    row (codes "obj") (Small ∷ []) (λ ns. command.Show (Object (first ns))) ∷
    row (codes "out") (Small ∷ []) (λ ns. command.Show (Output (first ns))) ∷
    row (codes "log") (Small ∷ []) (λ ns. command.Show (Log (first ns))) ∷
    row (codes "next") (Small ∷ []) (λ ns. command.Show (Next (first ns))) ∷
    row (codes "keep") [] (λ ns. command.Keeping Keep) ∷
    row (codes "load") (Small ∷ []) (λ ns. command.Keeping (Load (first ns))) ∷
    row (codes "drop") (Small ∷ []) (λ ns. command.Keeping (Drop (first ns))) ∷
    row (codes "kept") [] (λ ns. command.Keeping Kept) ∷
    row (codes "quit") [] (λ ns. command.Quit) ∷
    []

abbrev pub made_by : Row → Option (List ℕ) → Result Command Refusal
made_by r (Some ns) = Ok (r.makes ns)
made_by r None = Err BadArgument

-- the command of a row with these arguments
abbrev pub made_of : Option Row → List (List ℕ) → Result Command Refusal
made_of (Some r) words = made_by r (arguments r.kinds words)
made_of None words = Err UnknownCommand

-- the command of this name with these arguments
unfoldable pub command_named : List ℕ → List (List ℕ) → Result Command Refusal
command_named name words = made_of (find (λ r. bytes_eq name r.name) table) words

abbrev pub some_command : Result Command Refusal → Result (Option Command) Refusal
some_command (Ok command) = Ok (Some command)
some_command (Err refusal) = Err refusal

-- no words are no command
abbrev pub command_of_words : List (List ℕ) → Result (Option Command) Refusal
command_of_words [] = Ok None
command_of_words (name ∷ words) = some_command (command_named name words)

-- the line without a carriage return at its end
abbrev pub without_return : List ℕ → List ℕ
without_return line = if slice_index line (length line - 1) == 13 then take (length line - 1) line else line

abbrev pub is_empty : List ℕ → Bool
is_empty [] = true
is_empty (b ∷ bytes) = false

-- the words of a line, parted by spaces and tabs
unfoldable pub words_of : List ℕ → List (List ℕ)
words_of line = filter (λ word. not (is_empty word)) (slice_split (λ b. (b == 32) || (b == 9)) line)

-- the most bytes of a line, a carriage return among them
abbrev pub most_line : ℕ
most_line = 1024

-- what a line asks, which is given without its line feed
unfoldable pub command_of : List ℕ → Result (Option Command) Refusal
command_of line = if nat_lt most_line (length line) then Err LineTooLong else command_of_words (words_of (without_return line))

abbrev pub refusal_number : Refusal → ℕ
refusal_number UnknownCommand = 1
refusal_number BadArgument = 2
refusal_number NoSuchThread = 3
refusal_number NoSuchObject = 4
refusal_number NoSuchNumber = 5
refusal_number BadAddress = 6
refusal_number LineTooLong = 7
refusal_number NoMemory = 8
refusal_number Full = 9
