-- What the payload of a packet asks: one table of the bytes that packets begin with.
use Rattle.std.specs.Prelude.{ℕ, zero, suc, ◌==◌, ◌&&◌, ◌-◌, ◌*◌, nat_le, List, [], ◌∷◌, length, codes, take, drop, Bool, true, false}
use Rattle.std.specs.Prelude.{Option, Some, None, is_some, option_map, unwrap_or, if◌then◌else◌}
use Rattle.std.specs.Str.{bytes_eq}
use Rattle.ir_packet.specs.Packets.{two_digits}
use Rattle.ir_packet.specs.Numbers.{number, decimal_number, digit_index_of, number_before, behind, are_pairs, bytes_of_pairs}
use Rattle.ir_packet.specs.declared.request.Request.{Request}
use Rattle.ir_packet.specs.declared.request.Request.TheVariants as request
use Rattle.ir_packet.specs.declared.request.Who.{Who}
use Rattle.ir_packet.specs.declared.request.Who.TheVariants as who
use Rattle.ir_packet.specs.declared.request.Motion.{Motion}
use Rattle.ir_packet.specs.declared.request.Motion.TheVariants as motion
use Rattle.ir_packet.specs.declared.request.Mover.{Mover}
use Rattle.ir_packet.specs.declared.request.Mover.TheVariants as mover

-- what is made of nothing behind the name
abbrev pub without_argument : Request → List ℕ → Request
without_argument asked [] = asked
without_argument asked (b ∷ rest) = request.Malformed

-- what is made of anything behind the name
abbrev pub whatever : Request → List ℕ → Request
whatever asked rest = asked

-- what is made of a number, if there is one
abbrev pub of_number : (ℕ → Request) → Option ℕ → Request
of_number makes (Some n) = makes n
of_number makes None = request.Malformed

-- what is made of two numbers, if there are two
abbrev pub of_numbers : (ℕ → ℕ → Request) → Option ℕ → Option ℕ → Request
of_numbers makes None n = request.Malformed
of_numbers makes (Some m) None = request.Malformed
of_numbers makes (Some m) (Some n) = makes m n

unfoldable pub one_argument : (ℕ → Request) → List ℕ → Request
one_argument makes rest = of_number makes (number rest)

-- two numbers with a `,` between them
unfoldable pub two_with_comma : (ℕ → ℕ → Request) → List ℕ → Request
two_with_comma makes rest = of_numbers makes (number (number_before 44 rest)) (number (behind 44 rest))

-- 0 is any thread
abbrev pub who_of_number : Option ℕ → Option Who
who_of_number None = None
who_of_number (Some n) = if n == 0 then Some who.Any else Some (who.Thread n)

-- a number of a thread from 1 on, 0, or -1, which is any thread too
unfoldable pub who_of : List ℕ → Option Who
who_of id = if bytes_eq id (codes "-1") then Some who.Any else who_of_number (number id)

abbrev pub of_who : (Who → Request) → Option Who → Request
of_who makes None = request.Malformed
of_who makes (Some w) = makes w

unfoldable pub thread : (Who → Request) → List ℕ → Request
thread makes rest = of_who makes (who_of rest)

-- a register of x0 to x31, or pc, which is 32
abbrev pub register_request : ℕ → Request
register_request n = if nat_le n 32 then request.Register n else request.Malformed

-- a line, each byte as two digits
unfoldable pub console : List ℕ → Request
console rest = if are_pairs rest then request.Console else request.Malformed

abbrev pub range_of : Option ℕ → Option ℕ → Option Motion
range_of None high = None
range_of (Some low) None = None
range_of (Some low) (Some high) = Some (motion.Range low high)

-- the ends of a range, with a `,` between them
unfoldable pub range : List ℕ → Option Motion
range rest = range_of (number (number_before 44 rest)) (number (behind 44 rest))

-- the motion of an action with a signal, if its two digits are some
abbrev pub signalled : Motion → Option ℕ → Option Motion
signalled m None = None
signalled m (Some signal) = Some m

-- `s` and `c`; `S` and `C` with a signal, which counts for nothing; `r` with the ends of a range
unfoldable pub motion_of : List ℕ → Option Motion
motion_of [] = None
motion_of (a ∷ []) = if a == 115 then Some motion.Step else if a == 99 then Some motion.Continue else if a == 114 then range [] else None
motion_of (a ∷ b ∷ []) = if a == 114 then range (b ∷ []) else None
motion_of (a ∷ b ∷ c ∷ []) = if a == 83 then signalled motion.Step (two_digits b c) else if a == 67 then signalled motion.Continue
    (two_digits b c) else if a == 114 then range (b ∷ c ∷ []) else None
motion_of (a ∷ b ∷ c ∷ d ∷ rest) = if a == 114 then range (b ∷ c ∷ d ∷ rest) else None

-- the thread that moves, if the others may be stopped at their hits, and if they may not
abbrev pub mover_of : Who → Bool → Mover
mover_of who.Any others = mover.Any
mover_of (who.Thread n) true = mover.Among n
mover_of (who.Thread n) false = mover.Alone n

-- the thread behind an action: `:` and its id, or nothing
unfoldable pub thread_behind : List ℕ → Option Who
thread_behind [] = Some who.Any
thread_behind (b ∷ id) = who_of id

-- what the other threads do: nothing, or, by the last action, `;c`. What gdb says before it of a thread that has had a signal counts for nothing
unfoldable pub others_of : List ℕ → Option Bool
others_of rest = if bytes_eq rest [] then Some false else if bytes_eq (drop (length rest - 2) rest) (codes ";c") then Some true else None

abbrev pub move_of : Option Motion → Option Who → Option Bool → Request
move_of None w others = request.Malformed
move_of (Some m) None others = request.Malformed
move_of (Some m) (Some w) None = request.Malformed
move_of (Some m) (Some w) (Some others) = request.Move m (mover_of w others)

-- an action and its thread
unfoldable pub first_action : List ℕ → Option Bool → Request
first_action action others = move_of (motion_of (number_before 58 action)) (thread_behind (drop (digit_index_of 58 action) action)) others

-- an action, and what the others do
unfoldable pub actions : List ℕ → Request
actions rest = first_action (number_before 59 rest) (others_of (drop (digit_index_of 59 rest) rest))

-- ---- conditions of a breakpoint

-- the bytes of a condition, each as two digits, and what is behind them
pub record ConditionText : Type 0 where
  pub digits : List ℕ
  pub rest : List ℕ

-- the digits of this many bytes at the beginning of a text, if they are all there
abbrev pub condition_text : Option ℕ → List ℕ → Option ConditionText
condition_text None text = None
condition_text (Some n) text =
    if nat_le (2 * n) (length text) && are_pairs (take (2 * n) text) then Some (record { digits = take (2 * n) text; rest = drop (2 * n) text }) else None

-- a text without the `;` that it may begin with
abbrev pub without_semicolon : List ℕ → List ℕ
without_semicolon [] = []
without_semicolon (b ∷ text) = if b == 59 then text else b ∷ text

-- `X`, the number of a condition's bytes, `,` and the bytes
abbrev pub condition_behind : List ℕ → Option ConditionText
condition_behind [] = None
condition_behind (b ∷ text) = if b == 88 then condition_text (number (number_before 44 text)) (behind 44 text) else None

-- the first condition of a text; a `;` may be before it
unfoldable pub first_condition : List ℕ → Option ConditionText
first_condition text = condition_behind (without_semicolon text)

abbrev pub more_conditions : (List ℕ → Option (List (List ℕ))) → Option ConditionText → Option (List (List ℕ))
more_conditions more None = None
more_conditions more (Some c) = option_map (λ conditions. bytes_of_pairs c.digits ∷ conditions) (more c.rest)

-- the conditions of a text, at most n of them, if it is made of conditions
unfoldable pub conditions_in : ℕ → List ℕ → Option (List (List ℕ))
conditions_in n [] = Some []
conditions_in zero (b ∷ text) = None
conditions_in (suc n) (b ∷ text) = more_conditions (conditions_in n) (first_condition (b ∷ text))

-- each of them takes a byte at least
abbrev pub conditions : List ℕ → Option (List (List ℕ))
conditions text = conditions_in (length text) text

-- an address and a kind, by what is behind them: nothing, or `;` and conditions
abbrev pub break_request_with : Bool → List ℕ → List ℕ → Request
break_request_with hardware place [] = two_with_comma (λ a kind. request.SetBreak a hardware) place
break_request_with hardware place (b ∷ text) =
    if is_some (conditions text) then two_with_comma (λ a kind. request.SetBreakIf a hardware) place else request.Malformed

unfoldable pub break_request : Bool → List ℕ → Request
break_request hardware rest = break_request_with hardware (number_before 59 rest) (drop (digit_index_of 59 rest) rest)

-- a restart, by the argument behind the program's name, if there is one
abbrev pub restart_with : List ℕ → Request
restart_with [] = request.Restart
restart_with (b ∷ argument) = of_number request.RestartAt (decimal_number argument)

-- the name of a program, and then no argument, or `;` and a number
unfoldable pub restart : List ℕ → Request
restart rest = restart_with (drop (digit_index_of 59 rest) rest)

-- the bytes that a packet begins with, and what is made of those behind them
pub record PacketRow : Type 0 where
  pub name : List ℕ
  pub makes : List ℕ → Request

abbrev pub packet_row : List ℕ → (List ℕ → Request) → PacketRow
packet_row name makes = record { name = name; makes = makes }

-- what gdb asks of the target as a whole
abbrev pub queries : List PacketRow
queries =
    packet_row (codes "qSupported") (whatever request.Supported) ∷
    packet_row (codes "QStartNoAckMode") (without_argument request.NoAcknowledgements) ∷
    packet_row (codes "qAttached") (whatever request.Attached) ∷
    packet_row (codes "qOffsets") (without_argument request.Offsets) ∷
    packet_row (codes "qSymbol::") (without_argument request.Symbols) ∷
    []

-- texts that gdb reads piece by piece
abbrev pub texts : List PacketRow
texts =
    packet_row (codes "qXfer:features:read:target.xml:") (two_with_comma request.Description) ∷
    packet_row (codes "qXfer:threads:read::") (two_with_comma request.Threads) ∷
    []

-- runs of the program from a kept cut on
abbrev pub restarts : List PacketRow
restarts =
    packet_row (codes "!") (without_argument request.Extended) ∷
    packet_row (codes "vRun;") restart ∷
    packet_row (codes "vKill") (whatever request.EndProcess) ∷
    []

-- a session's lines, and moves with their threads
abbrev pub commands : List PacketRow
commands =
    packet_row (codes "qRcmd,") console ∷
    packet_row (codes "vCont?") (without_argument request.Motions) ∷
    packet_row (codes "vCont;") actions ∷
    []

-- breakpoints and watches
abbrev pub points : List PacketRow
points =
    packet_row (codes "Z0,") (break_request false) ∷
    packet_row (codes "Z1,") (break_request true) ∷
    packet_row (codes "Z2,") (two_with_comma request.SetWatch) ∷
    packet_row (codes "z0,") (two_with_comma (λ a kind. request.ClearBreak a false)) ∷
    packet_row (codes "z1,") (two_with_comma (λ a kind. request.ClearBreak a true)) ∷
    packet_row (codes "z2,") (two_with_comma request.ClearWatch) ∷
    []

-- packets of a letter or two
abbrev pub letters : List PacketRow
letters =
    packet_row (codes "?") (without_argument request.Reason) ∷
    packet_row (codes "Hg") (thread request.General) ∷
    packet_row (codes "Hc") (thread request.Choose) ∷
    packet_row (codes "T") (one_argument request.Alive) ∷
    packet_row (codes "g") (without_argument request.Registers) ∷
    packet_row (codes "p") (one_argument register_request) ∷
    packet_row (codes "m") (two_with_comma request.Memory) ∷
    []

-- packets of a letter or two that have no argument, or none that counts
abbrev pub bare_rows : List PacketRow
bare_rows =
    packet_row (codes "G") (whatever request.Change) ∷
    packet_row (codes "P") (whatever request.Change) ∷
    packet_row (codes "M") (whatever request.Change) ∷
    packet_row (codes "s") (without_argument (request.Move motion.Step mover.Chosen)) ∷
    packet_row (codes "c") (without_argument (request.Move motion.Continue mover.Chosen)) ∷
    packet_row (codes "bs") (without_argument (request.Move motion.StepBack mover.Chosen)) ∷
    packet_row (codes "bc") (without_argument (request.Move motion.ContinueBack mover.Chosen)) ∷
    packet_row (codes "D") (whatever request.Detach) ∷
    packet_row (codes "k") (whatever request.Kill) ∷
    []

-- the bytes behind a name, if the payload begins with it
unfoldable pub after_name : List ℕ → List ℕ → Option (List ℕ)
after_name [] bytes = Some bytes
after_name (n ∷ name) [] = None
after_name (n ∷ name) (b ∷ bytes) = if b == n then after_name name bytes else None

abbrev pub request_by : PacketRow → Option (List ℕ) → Option Request → Option Request
request_by r None next = next
request_by r (Some rest) next = Some (r.makes rest)

-- what the first row makes whose name the payload begins with
abbrev pub asked_in : List PacketRow → List ℕ → Option Request
asked_in [] payload = None
asked_in (r ∷ rows) payload = request_by r (after_name r.name payload) (asked_in rows payload)

abbrev pub request_or_else : Option Request → Option Request → Option Request
request_or_else None next = next
request_or_else (Some r) next = Some r

abbrev pub or_unknown : Option Request → Request
or_unknown None = request.Unknown
or_unknown (Some r) = r

unfoldable pub asked_queries : List ℕ → Option Request
asked_queries payload = asked_in queries payload

unfoldable pub asked_texts : List ℕ → Option Request
asked_texts payload = asked_in texts payload

unfoldable pub asked_restarts : List ℕ → Option Request
asked_restarts payload = asked_in restarts payload

unfoldable pub asked_commands : List ℕ → Option Request
asked_commands payload = asked_in commands payload

-- packets with a name
unfoldable pub asked_named : List ℕ → Option Request
asked_named payload = request_or_else (asked_queries payload) (request_or_else (asked_texts payload) (request_or_else (asked_restarts payload) (asked_commands payload)))

unfoldable pub asked_points : List ℕ → Option Request
asked_points payload = asked_in points payload

unfoldable pub asked_ends : List ℕ → Option Request
asked_ends payload = asked_in bare_rows payload

unfoldable pub asked_letters : List ℕ → Option Request
asked_letters payload = request_or_else (asked_in letters payload) (asked_ends payload)

-- what a payload asks; each packet has one row at most
unfoldable pub request_of : List ℕ → Request
request_of payload = or_unknown (request_or_else (asked_named payload) (request_or_else (asked_points payload) (asked_letters payload)))

abbrev pub line_behind : Option (List ℕ) → List ℕ
line_behind None = []
line_behind (Some digits) = bytes_of_pairs digits

-- the line of a `qRcmd` packet
unfoldable pub console_line : List ℕ → List ℕ
console_line payload = line_behind (after_name (codes "qRcmd,") payload)

-- the conditions of a `Z0` or `Z1` packet, each by its bytes; none if it has none
unfoldable pub break_conditions : List ℕ → List (List ℕ)
break_conditions payload = unwrap_or (conditions (behind 59 payload)) []
