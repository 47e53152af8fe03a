-- Replies to packets that move no thread and set no point.
use Rattle.std.specs.Prelude.{ℕ, zero, suc, ◌+◌, ◌-◌, ◌/◌, ◌%◌, nat_lt, min, List, [], ◌∷◌, ◌++◌, slice_index, Option, Some, None, if◌then◌else◌}
use Rattle.hex.specs.Hex.{encode_lower}
use Rattle.ir_image.specs.Guest.{object_words, object_count}
use Rattle.ir_mach.specs.Core.{Core}
use Rattle.ir_mach.specs.Execution.{byte_at}
use Rattle.ir_mach.specs.Within.{byte_in_word}
use Rattle.ir_thread.specs.State as thread
use Rattle.ir_runs.specs.Run.{Step, Cut, object_at}
use Rattle.ir_cut.specs.Positions.{machine_of, start_of, cut_of, threads_of, thread_at}
use Rattle.ir_fit.specs.Fit.{FittedTrace}
use Rattle.ir_hits.specs.Hits.{objects_start, object_size}
use Rattle.ir_packet.specs.Replies.{word_digits, words_reply, reply_text}
use Rattle.ir_packet.specs.declared.reply.Reply.{Reply}
use Rattle.ir_packet.specs.declared.reply.Reply.TheVariants as reply
use Rattle.ir_packet.specs.declared.request.Who.{Who}
use Rattle.ir_packet.specs.declared.request.Who.TheVariants as who
use Rattle.ir_gdb.specs.Stub.{Stub}

-- the thread of an id: ids are one more than numbers, and 0 is none's
abbrev pub thread_of_id : FittedTrace → ℕ → Option ℕ
thread_of_id f zero = None
thread_of_id f (suc t) = if nat_lt t (threads_of f) then Some t else None

-- `OK` if there is such a thread
abbrev pub reply_to : Option ℕ → Reply
reply_to None = reply.NotPermitted
reply_to (Some t) = reply.Done

-- `T`: the thread is the current one
abbrev pub with_current : Stub → Option ℕ → Stub
with_current s None = s
with_current s (Some t) = record s { current = t }

-- `Hg`, with a thread
abbrev pub with_general : Stub → Option ℕ → Stub
with_general s None = s
with_general s (Some t) = record s { general = t }

-- `Hc`, with a thread
abbrev pub with_chosen : Stub → Option ℕ → Stub
with_chosen s None = s
with_chosen s (Some t) = record s { chosen = Some t }

-- `Hg`: any thread is the general one that there is
abbrev pub general_reply : Stub → Who → Reply
general_reply s who.Any = reply.Done
general_reply s (who.Thread id) = reply_to (thread_of_id s.desk.fitted id)

abbrev pub after_general : Stub → Who → Stub
after_general s who.Any = s
after_general s (who.Thread id) = with_general s (thread_of_id s.desk.fitted id)

-- `Hc`: any thread is none that was chosen
abbrev pub chosen_reply : Stub → Who → Reply
chosen_reply s who.Any = reply.Done
chosen_reply s (who.Thread id) = reply_to (thread_of_id s.desk.fitted id)

abbrev pub after_chosen : Stub → Who → Stub
after_chosen s who.Any = record s { chosen = None }
after_chosen s (who.Thread id) = with_chosen s (thread_of_id s.desk.fitted id)

-- a thread of the run at its position
abbrev pub current_of : List Step → Stub → ℕ → thread.ThreadState
current_of run s t = thread_at s.desk.fitted run t (cut_of s.desk.at t)

-- x0 to x31, and pc
abbrev pub register_words : Core → List ℕ
register_words core = core.registers ++ core.pc ∷ []

-- `g`
abbrev pub registers_reply : List Step → Stub → List ℕ
registers_reply run s = words_reply (register_words (current_of run s s.general).core)

-- `p n`
abbrev pub register_reply : List Step → Stub → ℕ → List ℕ
register_reply run s n = word_digits (slice_index (register_words (current_of run s s.general).core) n)

-- ---- memory

-- the byte of an object at a place: of its first words, the lowest byte of a word first, and 0 behind them
abbrev pub word_byte : ℕ → (ℕ → ℕ) → ℕ → ℕ
word_byte count words place = if nat_lt (place / 4) count then byte_in_word (words (place / 4)) (place % 4) else 0

-- the byte of the objects at a cut, by how far it is from their start
abbrev pub object_byte : List Step → FittedTrace → Cut → ℕ → Option ℕ
object_byte run f p offset =
    if nat_lt (offset / object_size) (object_count f.guest)
    then Some (word_byte (object_words f.guest) (object_at (machine_of f) (start_of f) run p (offset / object_size)).words (offset % object_size))
    else None

-- the byte that thread t has at an address at a cut: of the code, of its private memory, or of an object
abbrev pub byte_at_cut : List Step → FittedTrace → Cut → ℕ → ℕ → Option ℕ
byte_at_cut run f p t address =
    if nat_lt address objects_start then byte_at f.guest.code (thread_at f run t (p t)).core.memory address
    else object_byte run f p (address - objects_start)

-- the byte that the general thread has where it is
abbrev pub byte_seen : List Step → Stub → ℕ → Option ℕ
byte_seen run s address = byte_at_cut run s.desk.fitted (cut_of s.desk.at) s.general address

-- the bytes from an address on, as many as there are, at most n
abbrev pub with_byte : Option ℕ → List ℕ → List ℕ
with_byte None rest = []
with_byte (Some b) rest = b ∷ rest

unfoldable pub bytes_there : (ℕ → Option ℕ) → ℕ → ℕ → List ℕ
bytes_there seen zero address = []
bytes_there seen (suc n) address = with_byte (seen address) (bytes_there seen n (address + 1))

-- the most bytes that `m` gives
abbrev pub most_read_bytes : ℕ
most_read_bytes = 2000

abbrev pub bytes_text : List ℕ → List ℕ
bytes_text [] = reply_text reply.BadAddress
bytes_text (b ∷ bytes) = encode_lower (b ∷ bytes)

-- `m address,size`
abbrev pub memory_reply : List Step → Stub → ℕ → ℕ → List ℕ
memory_reply run s address size = bytes_text (bytes_there (byte_seen run s) (min size most_read_bytes) address)
