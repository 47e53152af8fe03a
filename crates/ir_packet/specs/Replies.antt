-- The payloads of replies.
use Rattle.std.specs.Prelude.{ℕ, ◌+◌, ◌/◌, ◌%◌, ◌^◌, nat_lt, Bool, true, false, List, [], ◌∷◌, ◌++◌, length, codes, take, drop, if◌then◌else◌}
use Rattle.hex.specs.Hex.{encode_lower}
use Rattle.ir_packet.specs.Packets.{word_bytes}
use Rattle.ir_packet.specs.declared.reply.Reply.{Reply}
use Rattle.ir_packet.specs.declared.reply.Reply.TheVariants as reply
use Rattle.ir_packet.specs.declared.reply.Reason.{Reason}
use Rattle.ir_packet.specs.declared.reply.Reason.TheVariants as reason
use Rattle.ir_packet.specs.declared.reply.Signal.{Signal}
use Rattle.ir_packet.specs.declared.reply.Signal.TheVariants as signal
use Rattle.ir_packet.specs.declared.reply.Stop.{Stop}

-- a number as eight lower-case digits, the highest first
abbrev pub hex_number_text : ℕ → List ℕ
hex_number_text n = encode_lower (n / 2 ^ 24 % 256 ∷ n / 2 ^ 16 % 256 ∷ n / 256 % 256 ∷ n % 256 ∷ [])

-- a word as eight digits, its lowest byte first
abbrev pub word_digits : ℕ → List ℕ
word_digits word = encode_lower (word_bytes word)

-- replies that are always the same; an error's number is that of Linux, and gdb shows a text behind `E.`
unfoldable pub reply_text : Reply → List ℕ
reply_text reply.Done = codes "OK"
reply_text reply.Nothing = []
reply_text reply.NotPermitted = codes "E01"
reply_text reply.NoMemory = codes "E0C"
reply_text reply.BadAddress = codes "E0E"
reply_text reply.NoSpace = codes "E1C"
reply_text reply.ReadOnly = codes "E.a recording can't be changed"
reply_text reply.Attached = codes "1"
reply_text reply.Offsets = codes "Text=0;Data=0;Bss=0"
reply_text reply.Motions = codes "vCont;c;C;s;S;r"

-- why a thread stopped
unfoldable pub stop_reason_text : Reason → List ℕ
stop_reason_text reason.Step = []
stop_reason_text reason.SoftwareBreak = codes "swbreak:;"
stop_reason_text reason.HardwareBreak = codes "hwbreak:;"
stop_reason_text (reason.Watch address) = codes "watch:" ++ hex_number_text address ++ codes ";"
stop_reason_text reason.End = codes "replaylog:end;"
stop_reason_text reason.Begin = codes "replaylog:begin;"
stop_reason_text (reason.Ended how) = []
stop_reason_text reason.Waits = []

-- a signal by the number that gdb's protocol gives it
abbrev pub ended_signal : Signal → List ℕ
ended_signal signal.Illegal = codes "T04"
ended_signal signal.Aborted = codes "T06"
ended_signal signal.Misaligned = codes "T0a"
ended_signal signal.Outside = codes "T0b"
ended_signal signal.BadCall = codes "T0c"
ended_signal signal.Terminated = codes "T0f"
ended_signal signal.TooLong = codes "T18"
ended_signal signal.TooLarge = codes "T19"

-- the signal of a stop: 24 in hexadecimal, that a process waits, is one that gdb neither shows nor stops at
abbrev pub reason_signal : Reason → List ℕ
reason_signal reason.Step = codes "T05"
reason_signal reason.SoftwareBreak = codes "T05"
reason_signal reason.HardwareBreak = codes "T05"
reason_signal (reason.Watch address) = codes "T05"
reason_signal reason.End = codes "T05"
reason_signal reason.Begin = codes "T05"
reason_signal (reason.Ended how) = ended_signal how
reason_signal reason.Waits = codes "T24"

-- that of an interrupt is 2
abbrev pub signal_text : Bool → Reason → List ℕ
signal_text true why = codes "T02"
signal_text false why = reason_signal why

-- the registers that spare gdb a `g` at each stop
unfoldable pub stop_registers : Stop → List ℕ
stop_registers s = codes "20:" ++ word_digits s.pc ++ codes ";02:" ++ word_digits s.sp ++ codes ";08:" ++ word_digits s.fp ++ codes ";01:" ++ word_digits s.ra ++ codes ";"

-- a stop of a thread, whose id is its number and 1
unfoldable pub stop_reply_text : Stop → List ℕ
stop_reply_text s = signal_text s.interrupted s.reason ++ codes "thread:" ++ hex_number_text s.thread ++ codes ";" ++ stop_reason_text s.reason ++ stop_registers s

-- registers, or bytes that are shown as words
unfoldable pub words_reply : List ℕ → List ℕ
words_reply [] = []
words_reply (word ∷ words) = word_digits word ++ words_reply words

-- a piece of a text: `m`, or `l` if the text ends with it
unfoldable pub piece_text : List ℕ → ℕ → ℕ → List ℕ
piece_text text from most = if nat_lt (from + most) (length text) then codes "m" ++ take most (drop from text) else codes "l" ++ drop from text

-- what a session prints
unfoldable pub output_reply : List ℕ → List ℕ
output_reply bytes = codes "O" ++ encode_lower bytes
