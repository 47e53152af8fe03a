-- A connection of gdb: what is written for what a stream holds.
use Rattle.std.specs.Prelude.{◌≡◌, ◌⊎◌, ◌&&◌, ◌/◌, ◌+◌, ℕ, zero, suc, Bool, true, false, List, [], ◌∷◌, ◌++◌, codes, take, drop, length}
use Rattle.std.specs.Prelude.{not, nat_lt, ⊤, if◌then◌else◌, Option, Some, None, Result, Ok, Err}
use Rattle.std.specs.Io.KnownBytes.{Appends}
use Rattle.ir_stream.specs.Answers.{AppendsPrefix}
use Rattle.ir_stream.specs.Writing.{WritesOrFails}
use Rattle.ir_stream.specs.declared.serving.Served.{Served}
use Rattle.ir_stream.specs.declared.serving.Served.TheVariants.{Quit, InputEnd}
use Rattle.ir_stream.specs.declared.serving.Fault.{Fault}
use Rattle.ir_stream.specs.declared.serving.Fault.TheVariants as fault
use Rattle.ir_debug.specs.Machine.{Desk}
use Rattle.ir_debug.specs.Machine as session
use Rattle.ir_monitor.specs.Asking.{asked_of}
use Rattle.ir_monitor.specs.declared.asked.Asked.{Asked}
use Rattle.ir_packet.specs.Packets.{packet_of}
use Rattle.ir_packet.specs.Replies.{reply_text, output_reply}
use Rattle.ir_packet.specs.Requests.{request_of, console_line, break_conditions}
use Rattle.ir_packet.specs.Reading.{Reading}
use Rattle.ir_packet.specs.Stream.{Item, items, Packet, BadSum, TooLong, Interrupt, Acknowledged, Refused}
use Rattle.ir_packet.specs.declared.reply.Reply.{Reply}
use Rattle.ir_packet.specs.declared.reply.Reply.TheVariants as reply
use Rattle.ir_packet.specs.declared.request.Request.{Request}
use Rattle.ir_packet.specs.declared.request.Request.TheVariants as request
use Rattle.ir_gdb.specs.declared.console.Answered.{Answered}
use Rattle.ir_gdb.specs.Stub.{Stub}
use Rattle.ir_gdb.specs.Guards.{Guarded, guarded}
use Rattle.ir_gdb.specs.Setting.{break_setting, setting_reply, with_break}
use Rattle.ir_gdb.specs.Replies.{RepliesTo, breakpoint}
use Rattle.ir_gdb.specs.Questions.{AnswersQuestion}

pub record Link : Type 0 where
  pub stub : Stub
  -- whether packets are acknowledged
  pub acknowledges : Bool
  -- whether a packet has been written, and nothing acknowledged since then
  pub is_owed : Bool
  -- the packet that was written last, or nothing before the first
  pub last : List ℕ

-- the connection, what it reads, and the payload of a reply
pub record Connecting : Type 0 where
  pub link : Link
  pub reading : Reading
  pub payload : List ℕ

-- before a byte is read
abbrev pub link_of : Stub → Link
link_of s = record { stub = s; acknowledges = true; is_owed = false; last = [] }

-- the reply isn't acknowledged yet: a packet that is read then is a copy, since gdb sends a packet again where it has waited too long,
-- and no other before it has acknowledged the reply
abbrev pub is_copy : Link → Bool
is_copy l = l.acknowledges && l.is_owed

-- this packet has been written, and the stub is then so
abbrev pub sent : Link → Stub → List ℕ → Link
sent l s packet = record l { stub = s; is_owed = true; last = packet }

-- what is written if packets are acknowledged
abbrev pub sign : Link → List ℕ → List ℕ
sign l text = if l.acknowledges then text else []

-- what is written where gdb refuses a packet: the last again
abbrev pub resent : Link → List ℕ
resent l = sign l l.last

-- ---- a line of `monitor`

-- the most bytes of its answer in one packet
abbrev pub most_piece : ℕ
most_piece = 500

-- n packets of an answer
unfoldable pub answer_packets : ℕ → List ℕ → List ℕ
answer_packets zero bytes = []
answer_packets (suc n) bytes = packet_of (output_reply (take most_piece bytes)) ++ answer_packets n (drop most_piece bytes)

-- an answer, a packet for each piece
abbrev pub connection_answer_text : List ℕ → List ℕ
connection_answer_text bytes = answer_packets ((length bytes + 499) / most_piece) bytes

-- with the small machine in the place of the stub's
abbrev pub with_desk : Stub → Desk → Stub
with_desk s d = record s { desk = d }

-- a session may answer a line by a text of which P holds
abbrev pub RespondsInSession : Stub → List ℕ → Stub → (List ℕ → Type 0) → Type 0
RespondsInSession s line next P = (answer : List ℕ) × (d : Desk) × session.Replies s.desk line answer d × (next ≡ with_desk s d) × P answer

-- so may a question of the run, if the line asks one; any other line a session
abbrev pub RespondsTo : Option Asked → Stub → List ℕ → Stub → (List ℕ → Type 0) → Type 0
RespondsTo None s line next P = RespondsInSession s line next P
RespondsTo (Some asked) s line next P = (answer : List ℕ) × AnswersQuestion s asked answer next × P answer

abbrev pub Responds : Stub → List ℕ → Stub → (List ℕ → Type 0) → Type 0
Responds s line next P = RespondsTo (asked_of line) s line next P

-- what a line that doesn't quit is answered, and the stub is then so; or there was no memory to keep the answer
abbrev pub Consults : {E : Type 0} → Link → List ℕ → Result (Option Answered) E → Link → Type 0
Consults l line (Ok None) next = (session.quits line ≡ true) × (next ≡ l)
Consults l line (Ok (Some answered)) next = (session.quits line ≡ false)
    × ((s : Stub) × Responds l.stub line s (λ text. answered.bytes.items ≡ text) × (next ≡ record l { stub = s }))
Consults l line (Err e) next = (session.quits line ≡ false)
    × ((next ≡ l) ⊎ ((s : Stub) × Responds l.stub line s (λ text. ⊤) × (next ≡ record l { stub = s })))

-- what a line is answered, and then `OK`; or there was no memory for the answer
abbrev pub AnswersLine : Bool → Link → List ℕ → List ℕ → Link → Type 0
AnswersLine true l line text next = (text ≡ packet_of (reply_text reply.NotPermitted)) × (next ≡ sent l l.stub (packet_of (reply_text reply.NotPermitted)))
AnswersLine false l line text next =
    ((s : Stub) × Responds l.stub line s (λ answer. text ≡ connection_answer_text answer ++ packet_of (reply_text reply.Done)) × (next ≡ sent l s (packet_of (reply_text reply.Done))))
    ⊎ (((next ≡ sent l l.stub (packet_of (reply_text reply.NoMemory)))
    ⊎ ((s : Stub) × Responds l.stub line s (λ answer. ⊤) × (next ≡ sent l s (packet_of (reply_text reply.NoMemory))))) × (text ≡ packet_of (reply_text reply.NoMemory)))

-- ---- a breakpoint with conditions

-- the reply, and the link before it is written: there may be no memory to keep the conditions
abbrev pub IsBreakSet : Link → Guarded → Reply → Link → Type 0
IsBreakSet l b r mid = ((r ≡ setting_reply (break_setting l.stub b.point)) × (mid ≡ record l { stub = with_break l.stub b }))
    ⊎ ((r ≡ reply.NoMemory) × (mid ≡ l))

-- `Z0`, `Z1` with conditions
abbrev pub SetsBreak : Link → Guarded → List ℕ → Link → Type 0
SetsBreak l b text next = (r : Reply) × (mid : Link) × IsBreakSet l b r mid × (text ≡ packet_of (reply_text r))
    × (next ≡ sent mid mid.stub (packet_of (reply_text r)))

-- ---- packets

-- the reply to a request, as a packet
abbrev pub RepliesToItem : Link → Request → List ℕ → Link → Type 0
RepliesToItem l asked text next = (payload : List ℕ) × (s : Stub) × RepliesTo l.stub asked payload s × (text ≡ packet_of payload) × (next ≡ sent l s (packet_of payload))

-- no packet is acknowledged any more
abbrev pub unacknowledged : Link → Link
unacknowledged l = record l { acknowledges = false }

-- what is written for a request, which came with this payload
abbrev pub AnswersRequest : Link → List ℕ → Request → List ℕ → Link → Type 0
AnswersRequest l payload request.Kill text next = (text ≡ []) × (next ≡ l)
AnswersRequest l payload request.Console text next = AnswersLine (session.quits (console_line payload)) l (console_line payload) text next
AnswersRequest l payload request.NoAcknowledgements text next = (text ≡ packet_of (reply_text reply.Done)) × (next ≡ unacknowledged (sent l l.stub (packet_of (reply_text reply.Done))))
AnswersRequest l payload (request.SetBreakIf address hardware) text next =
    SetsBreak l (guarded (breakpoint address hardware) (break_conditions payload)) text next
AnswersRequest l payload asked text next = RepliesToItem l asked text next

abbrev pub AnswersPacket : Link → List ℕ → List ℕ → Link → Type 0
AnswersPacket l payload text next = (rest : List ℕ) × AnswersRequest l payload (request_of payload) rest next × (text ≡ sign l (codes "+") ++ rest)

-- what is written for an item that is no copy
abbrev pub AnswersNew : Link → Item → List ℕ → Link → Type 0
AnswersNew l (Packet payload) text next = AnswersPacket l payload text next
AnswersNew l BadSum text next = (text ≡ sign l (codes "-")) × (next ≡ l)
AnswersNew l TooLong text next = (text ≡ sign l (codes "+") ++ packet_of []) × (next ≡ sent l l.stub (packet_of []))
AnswersNew l Interrupt text next = (text ≡ []) × (next ≡ record l { stub = record l.stub { interrupted = true } })
AnswersNew l Acknowledged text next = (text ≡ []) × (next ≡ record l { is_owed = false })
AnswersNew l Refused text next = (text ≡ resent l) × (next ≡ l)

abbrev pub is_packet : Item → Bool
is_packet (Packet payload) = true
is_packet BadSum = true
is_packet TooLong = true
is_packet Interrupt = false
is_packet Acknowledged = false
is_packet Refused = false

-- copies are dropped
abbrev pub AnswersItemBy : Bool → Link → Item → List ℕ → Link → Type 0
AnswersItemBy true l item text next = (text ≡ []) × (next ≡ l)
AnswersItemBy false l item text next = AnswersNew l item text next

abbrev pub AnswersItem : Link → Item → List ℕ → Link → Type 0
AnswersItem l item text next = AnswersItemBy (is_copy l && is_packet item) l item text next

-- whether the connection ends with an item
abbrev pub ends_request : Request → Bool
ends_request request.Detach = true
ends_request request.Kill = true
ends_request asked = false

abbrev pub request_ends : Item → Bool
request_ends (Packet payload) = ends_request (request_of payload)
request_ends item = false

abbrev pub item_ends : Link → Item → Bool
item_ends l item = not (is_copy l) && request_ends item

-- ---- a stream

-- what is written for the items behind one, by whether that one ends the connection
abbrev pub Rest : Bool → (Bool → List ℕ → Link → Type 0) → Link → Bool → List ℕ → Link → Type 0
Rest true more l ended text last = (ended ≡ true) × (text ≡ []) × (last ≡ l)
Rest false more l ended text last = more ended text last

-- what is written for items up to and with the first that ends the connection, and whether there is such a one
unfoldable pub RepliesToItems : Link → List Item → Bool → List ℕ → Link → Type 0
RepliesToItems l [] ended text last = (ended ≡ false) × (text ≡ []) × (last ≡ l)
RepliesToItems l (item ∷ items) ended text last = (first : List ℕ) × (next : Link) × (rest : List ℕ) × AnswersItem l item first next
    × Rest (item_ends l item) (RepliesToItems next items) next ended rest last × (text ≡ first ++ rest)

-- the writer took all of the answers, and the connection is then the second
pub record WroteReplies (l : Link) (items : List Item) (ended : Bool) (old new : Option (List ℕ)) : Type 0 where
  pub text : List ℕ
  pub last : Link
  pub answers : RepliesToItems l items ended text last
  pub grown : Appends old new text

-- it took a text that may be written, and the connection is then the second
pub record Sent (May : List ℕ → Link → Type 0) (next : Link) (old new : Option (List ℕ)) : Type 0 where
  pub text : List ℕ
  pub is : May text next
  pub grown : Appends old new text

-- it took a prefix of one, or of what is written before the reply is known
pub record SentInPart (May : List ℕ → Link → Type 0) (before : List ℕ) (old new : Option (List ℕ)) : Type 0 where
  pub text : List ℕ
  pub is : ((next : Link) × May text next) ⊎ (text ≡ before)
  pub grown : AppendsPrefix old new text

-- a call that writes what may be written: the writer took all of it, or has failed in a prefix
abbrev pub SendsOrFails : {D A E : Type 0} → (D → Option (List ℕ)) → (D → Bool) → (List ℕ → Link → Type 0) → List ℕ → Link → D → D → Result A E → Type 0
SendsOrFails written broken May before next old new result =
    WritesOrFails broken old new (Sent May next (written old) (written new)) (SentInPart May before (written old) (written new)) result

-- what is written for an item that is no copy before the reply is known
abbrev pub before_new_reply : Link → Item → List ℕ
before_new_reply l (Packet payload) = sign l (codes "+")
before_new_reply l BadSum = []
before_new_reply l TooLong = []
before_new_reply l Interrupt = []
before_new_reply l Acknowledged = []
before_new_reply l Refused = []

-- what is written for an item before the reply is known
abbrev pub before_reply_by : Bool → Link → Item → List ℕ
before_reply_by true l item = []
before_reply_by false l item = before_new_reply l item

abbrev pub before_reply : Link → Item → List ℕ
before_reply l item = before_reply_by (is_copy l && is_packet item) l item

-- it took all answers but that to the last item, none of which ends the connection, and a prefix of that one
pub record WroteRepliesInPart (l : Link) (items : List Item) (old new : Option (List ℕ)) : Type 0 where
  pub before : List Item
  pub item : Item
  pub are : items ≡ before ++ item ∷ []
  pub between : Option (List ℕ)
  pub all : WroteReplies l before false old between
  pub part : SentInPart (AnswersItem all.last item) (before_reply all.last item) between new

-- how a connection over an input ends where no device fails, by whether one of its items ends it
abbrev pub served_by : Bool → ℕ → List ℕ → Result Served Fault
served_by true limit input = Ok Quit
served_by false limit input = if nat_lt (length input) limit then Ok InputEnd else Err fault.TooLong

-- the input leads to this result, and the writer took the answers to the items that are whole within the limit
pub record LeadsToLink (l : Link) (limit : ℕ) (result : Result Served Fault) (old new : Option (List ℕ)) (input : List ℕ) : Type 0 where
  pub ended : Bool
  pub ending : result ≡ served_by ended limit input
  pub wrote : WroteReplies l (items (take limit input)) ended old new
