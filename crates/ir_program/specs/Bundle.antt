-- What the input of the program without a subcommand holds: an image and a trace in hexadecimal, each in a line, and then commands.
use Rattle.std.specs.Prelude.{◌≡◌, ◌==◌, ℕ, nat_le, Bool, List, [], ◌∷◌, codes, length, Option, Some, None, Result, if◌then◌else◌}
use Rattle.std.specs.Result.{result_ok}
use Rattle.hex.specs.Hex.{decode_of}
use Rattle.ir_command.specs.Commands.{without_return}
use Rattle.ir_debug.specs.Session.{Session, most_input}
use Rattle.ir_debug.specs.declared.ended.Ended.{Ended}
use Rattle.ir_debug.specs.declared.ended.Ended.TheVariants.{Quit, InputEnd, ImageRefused, TraceRefused, NotFit}
use Rattle.ir_debug.specs.declared.ended.SessionErr.{SessionErr}
use Rattle.ir_files.specs.declared.exit_status.ExitStatus.{ExitStatus}
use Rattle.ir_files.specs.declared.exit_status.ExitStatus.TheVariants as status
use Rattle.ir_program.specs.declared.fault.ProgramErr.{ProgramErr}
use Rattle.ir_program.specs.declared.fault.ProgramErr.TheVariants.{BadLine, NoMem, Read, Write, TooLong}

-- the most hexadecimal digits of a line
abbrev pub most_digits : ℕ
most_digits = 4194304

abbrev pub is_feed : ℕ → Bool
is_feed b = b == 10

-- the first line, which is all of an input without a line feed
unfoldable pub line_of : List ℕ → List ℕ
line_of [] = []
line_of (b ∷ input) = if is_feed b then [] else b ∷ line_of input

-- what comes after the first line feed
unfoldable pub after_line : List ℕ → List ℕ
after_line [] = []
after_line (b ∷ input) = if is_feed b then input else after_line input

-- the bytes that the digits write
abbrev pub bytes_of_digits : List ℕ → Option (List ℕ)
bytes_of_digits digits = if nat_le (length digits) most_digits then result_ok (decode_of digits) else None

-- the bytes that a line writes in hexadecimal digits, a carriage return at its end left out
unfoldable pub bytes_of_line : List ℕ → Option (List ℕ)
bytes_of_line line = bytes_of_digits (without_return line)

pub record Bundle : Type 0 where
  pub image : List ℕ
  pub trace : List ℕ
  pub commands : List ℕ

abbrev pub bundle_by : Option (List ℕ) → Option (List ℕ) → List ℕ → Option Bundle
bundle_by (Some image) (Some trace) commands = Some (record { image = image; trace = trace; commands = commands })
bundle_by image trace commands = None

-- the image, the trace and the commands of an input, if both lines are hexadecimal within their limit
unfoldable pub bundle_of : List ℕ → Option Bundle
bundle_of input = bundle_by (bytes_of_line (line_of input)) (bytes_of_line (line_of (after_line input))) (after_line (after_line input))

-- the input is a bundle, and its session came to this result and wrote these bytes
pub record Bundled (result : Result Ended SessionErr) (old new : Option (List ℕ)) (input : List ℕ) : Type 0 where
  pub bundle : Bundle
  pub is : bundle_of input ≡ Some bundle
  pub session : Session bundle.image bundle.trace most_input result old new bundle.commands

-- the exit status of a session that ended
abbrev pub status_of : Ended → ExitStatus
status_of Quit = status.Done
status_of InputEnd = status.Done
status_of ImageRefused = status.Refused
status_of TraceRefused = status.Refused
status_of NotFit = status.NotFit

-- a fault in words
abbrev pub program_fault_words : ProgramErr → List ℕ
program_fault_words BadLine = codes "a line of the image or the trace isn't whole bytes in at most 4194304 hexadecimal digits"
program_fault_words NoMem = codes "memory ran out"
program_fault_words Read = codes "standard input can't be read"
program_fault_words Write = codes "standard output can't be written"
program_fault_words TooLong = codes "1073741824 bytes were read, and nothing ended the session"
