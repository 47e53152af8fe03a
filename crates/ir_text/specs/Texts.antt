-- The texts of answers, by what is at the cut.
use Rattle.std.specs.Prelude.{◌==◌, ℕ, zero, suc, ◌+◌, ◌/◌, List, [], ◌∷◌, ◌++◌, take, drop, length, flat_map, codes, decimal, Option, Some, None, if◌then◌else◌, ◌%◌, unwrap_or}
use Rattle.hex.specs.Hex.{encode_lower}
use Rattle.ir_image.specs.Guest.{word_at_pc}
use Rattle.ir_mach.specs.Execution.{byte_at}
use Rattle.ir_thread.specs.State.{highest, ThreadState}
use Rattle.ir_runs.specs.Machine.{Label, Answer, EnteredAt, FailedTry, Object}
use Rattle.ir_runs.specs.declared.access.Access.{Access}
use Rattle.ir_runs.specs.declared.access.Access.TheVariants.{Reading, Writing}
use Rattle.ir_runs.specs.declared.env_kind.EnvKind.{EnvKind}
use Rattle.ir_runs.specs.declared.env_kind.EnvKind.TheVariants.{Clock, Random, Input}
use Rattle.ir_thread.specs.declared.end.End.{End}
use Rattle.ir_disasm.specs.Printed.{text_of}
use Rattle.ir_command.specs.declared.hit.Hit.{Hit}
use Rattle.ir_coherence.specs.Breaking.{cause_number}
use Rattle.ir_fit.specs.Fit.{header_cause_number}
use Rattle.ir_runs.specs.declared.thread_verdict.ThreadVerdict.{ThreadVerdict}
use Rattle.ir_runs.specs.declared.thread_verdict.ThreadVerdict.TheVariants.{Same, Disagrees, Starves}
use Rattle.ir_fit.specs.declared.verdict.Verdict.{Verdict}
use Rattle.ir_fit.specs.declared.verdict.Verdict.TheVariants.{Header, Incoherent, Threads}
use Rattle.std.specs.Int.{bytes_high_first}
use Rattle.ir_isa.specs.Fields.{register_name}
use Rattle.ir_mach.specs.Core.{Core, register}
use Rattle.ir_command.specs.declared.refusal.Refusal.{Refusal}
use Rattle.ir_command.specs.declared.refusal.Refusal.TheVariants.{UnknownCommand, BadArgument, NoSuchThread, NoSuchObject, NoSuchNumber, BadAddress, LineTooLong, NoMemory, Full}
use Rattle.ir_command.specs.Commands.{refusal_number}

-- words and a number in a line
abbrev pub number_line : List ℕ → ℕ → List ℕ
number_line words n = words ++ decimal n ++ codes "\n"

-- the position of each thread
abbrev pub positions_text : List ℕ → List ℕ
positions_text at = codes "at" ++ flat_map (λ p. codes " " ++ decimal p) at

-- the point that hit, if one did
abbrev pub hit_text : Option Hit → List ℕ
hit_text (Some hit) = codes " hit " ++ decimal hit.number
hit_text None = []

-- whether a thread is at its last position, which is given, or at 0
abbrev pub stop_text : ℕ → ℕ → List ℕ
stop_text last at = if at == last then codes " end" else if at == 0 then codes " start" else []

-- ---- bytes

-- a word in eight lower-case hexadecimal digits, the highest first
abbrev pub hex_word : ℕ → List ℕ
hex_word n = encode_lower (bytes_high_first 4 n)

-- n lines of 16 bytes, each with the address of its first
unfoldable pub memory_lines : ℕ → ℕ → List ℕ → List ℕ
memory_lines zero address bytes = []
memory_lines (suc n) address bytes = hex_word address ++ codes ": " ++ encode_lower (take 16 bytes) ++ codes "\n" ++ memory_lines n
    (address + 16) (drop 16 bytes)

-- the bytes from an address on
abbrev pub memory_text : ℕ → List ℕ → List ℕ
memory_text address bytes = memory_lines ((length bytes + 15) / 16) address bytes

-- n lines of 32 bytes
unfoldable pub output_lines : ℕ → List ℕ → List ℕ
output_lines zero bytes = []
output_lines (suc n) bytes = encode_lower (take 32 bytes) ++ codes "\n" ++ output_lines n (drop 32 bytes)

-- what was printed
abbrev pub output_text : List ℕ → List ℕ
output_text bytes = number_line (codes "out ") (length bytes) ++ output_lines ((length bytes + 31) / 32) bytes

-- n bytes from an address on, of code or private memory
unfoldable pub bytes_from : List ℕ → List ℕ → ℕ → ℕ → List ℕ
bytes_from code memory zero address = []
bytes_from code memory (suc n) address = unwrap_or (byte_at code memory address) 0 ∷ bytes_from code memory n (address + 1)

-- ---- objects

-- the number, for a thread that is inside so
abbrev pub if_inside : Access → Option Access → ℕ → List ℕ
if_inside Reading (Some Reading) n = n ∷ []
if_inside Writing (Some Writing) n = n ∷ []
if_inside access inside n = []

-- the numbers of those of the first n threads that are inside so, rising
unfoldable pub inside_for : Access → (ℕ → Option Access) → ℕ → List ℕ
inside_for access inside zero = []
inside_for access inside (suc n) = inside_for access inside n ++ if_inside access (inside n) n

-- numbers joined by commas, or `-` for none
abbrev pub joined : List ℕ → List ℕ
joined [] = codes "-"
joined (n ∷ ns) = decimal n ++ flat_map (λ m. codes "," ++ decimal m) ns

-- the first n of its words
abbrev pub words_text : (ℕ → ℕ) → ℕ → List ℕ
words_text words zero = []
words_text words (suc n) = words_text words n ++ codes " " ++ hex_word (words n)

-- an object by the number of threads and the number of its words that are shown
abbrev pub object_text : ℕ → ℕ → Object → List ℕ
object_text threads words o =
    codes "version " ++ decimal o.version ++ codes " left " ++ decimal o.left
    ++ codes " readers " ++ joined (inside_for Reading o.inside threads) ++ codes " writer " ++ joined (inside_for Writing o.inside threads)
    ++ codes "\n"
    ++ codes "words" ++ words_text o.words words ++ codes "\n"

abbrev pub kind_text : EnvKind → List ℕ
kind_text Clock = codes "clock"
kind_text Random = codes "random"
kind_text Input = codes "input"

-- what is logged of a step; nothing of one that logs nothing
abbrev pub event_text : Label → List ℕ
event_text (Answer kind value) = kind_text kind ++ codes " " ++ decimal value
event_text (EnteredAt object Reading version left) = codes "read " ++ decimal object ++ codes " version " ++ decimal version
event_text (EnteredAt object Writing version left) = codes "write " ++ decimal object ++ codes " version " ++ decimal version ++ codes " readers "
    ++ decimal left
event_text (FailedTry object) = codes "try " ++ decimal object
event_text other = []

-- the events from a number on
unfoldable pub event_lines : ℕ → List Label → List ℕ
event_lines i [] = []
event_lines i (e ∷ es) = decimal i ++ codes " " ++ event_text e ++ codes "\n" ++ event_lines (i + 1) es

-- those so far, and the number of all
abbrev pub log_text : List Label → ℕ → List ℕ
log_text so_far all = codes "log " ++ decimal (length so_far) ++ codes " of " ++ decimal all ++ codes "\n" ++ event_lines 0 so_far

-- ---- what comes next

abbrev pub disassembled : ℕ → Option ℕ → List ℕ
disassembled pc (Some word) = text_of pc word
disassembled pc None = codes "none"

abbrev pub released : Option (ℕ × Access) → List ℕ
released (Some top) = number_line (codes "next give back ") top.0
released None = codes "next done\n"

abbrev pub next_by : Option End → List ℕ → ThreadState → List ℕ
next_by None code s = codes "next " ++ hex_word s.core.pc ++ codes " " ++ disassembled s.core.pc (word_at_pc code s.core.pc) ++ codes "\n"
next_by (Some e) code s = released (highest s.held)

-- the word at a thread's pc, which its next step carries out unless its budget is spent; or what it releases after its end
abbrev pub next_text : List ℕ → ThreadState → List ℕ
next_text code s = next_by s.ended code s

abbrev pub thread_verdict_text : ThreadVerdict → List ℕ
thread_verdict_text Same = codes " same"
thread_verdict_text (Disagrees event step) = codes " disagrees event " ++ decimal event ++ codes " step " ++ decimal step
thread_verdict_text (Starves event) = codes " starves event " ++ decimal event

-- a line for each thread, from this one on
unfoldable pub threads_text : ℕ → List ThreadVerdict → List ℕ
threads_text t [] = []
threads_text t (v ∷ vs) = (codes "thread " ++ decimal t ++ thread_verdict_text v ++ codes "\n") ++ threads_text (t + 1) vs

-- the lines of a verdict
abbrev pub verdict_text : Verdict → List ℕ
verdict_text (Header cause) = (codes "header differs " ++ decimal (header_cause_number cause)) ++ codes "\n"
verdict_text (Incoherent thread event cause) = (codes "incoherent thread " ++ decimal thread ++ codes " event " ++ decimal event ++ codes " cause "
    ++ decimal (cause_number cause)) ++ codes "\n"
verdict_text (Threads vs) = threads_text 0 vs.items

abbrev pub reason_text : Refusal → List ℕ
reason_text UnknownCommand = codes "unknown command"
reason_text BadArgument = codes "bad argument"
reason_text NoSuchThread = codes "no such thread"
reason_text NoSuchObject = codes "no such object"
reason_text NoSuchNumber = codes "no such number"
reason_text BadAddress = codes "bad address"
reason_text LineTooLong = codes "line too long"
reason_text NoMemory = codes "no memory"
reason_text Full = codes "full"

abbrev pub refusal_text : Refusal → List ℕ
refusal_text r = codes "refused " ++ decimal (refusal_number r) ++ codes " " ++ reason_text r ++ codes "\n"

-- the first n registers, four in a line
unfoldable pub registers_text : Core → ℕ → List ℕ
registers_text m zero = []
registers_text m (suc n) = registers_text m n
    ++ (register_name n ++ codes "=" ++ hex_word (register m n) ++ (if n % 4 == 3 then codes "\n" else codes " "))

-- pc and all registers
abbrev pub core_text : Core → List ℕ
core_text m = codes "pc " ++ hex_word m.pc ++ codes "\n" ++ registers_text m 32
