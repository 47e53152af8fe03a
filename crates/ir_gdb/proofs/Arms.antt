-- What is written for a request or an item, by its kind.
use Rattle.std.proofs.Common.{◌≡◌, ◌⊎◌, ◌&&◌, ℕ, Bool, true, false, List, [], Option, Result, IfOk, codes, not, refl, sym, subst, inl, inr}
use Rattle.std.specs.Io.KnownBytes.{Appends}
use Rattle.std.proofs.KnownBytes.{Appends-nil}
use Rattle.ir_stream.specs.Answers.{AppendsPrefix}
use Rattle.ir_stream.specs.Endings.{flow_after}
use Rattle.ir_stream.specs.declared.serving.Flow.{Flow}
use Rattle.ir_packet.specs.Packets.{packet_of}
use Rattle.ir_packet.specs.Replies.{reply_text}
use Rattle.ir_packet.specs.Requests.{request_of, console_line, break_conditions}
use Rattle.ir_packet.specs.Reading.{item_found}
use Rattle.ir_packet.specs.Stream.{Item}
use Rattle.ir_packet.specs.Stream as stream
use Rattle.ir_packet.specs.declared.found.Found.{Found}
use Rattle.ir_packet.specs.declared.found.Found.TheVariants as found
use Rattle.ir_packet.specs.declared.reply.Reply.TheVariants as reply
use Rattle.ir_packet.specs.declared.request.Request.{Request}
use Rattle.ir_packet.specs.declared.request.Request.TheVariants as request
use Rattle.ir_debug.specs.Machine.{quits}
use Rattle.ir_gdb.specs.Guards.{guarded}
use Rattle.ir_gdb.specs.Replies.{breakpoint}
use Rattle.ir_gdb.proofs.Answering.{sent_answer_to_packet, packet_answer_in_part}
use Rattle.ir_gdb.specs.Connection.{Link, sent, resent, sign, unacknowledged, is_copy, is_packet, before_new_reply, before_reply_by}
use Rattle.ir_gdb.specs.Connection.{before_reply, AnswersLine, SetsBreak, RepliesToItem, AnswersRequest, AnswersPacket, AnswersNew, AnswersItem}
use Rattle.ir_gdb.specs.Connection.{AnswersItemBy, ends_request, request_ends, item_ends, Sent, SentInPart}

-- ---- requests

-- what is written for the request is its reply
abbrev pub IsReplied : Request → Type 0
IsReplied asked = (l : Link) (payload text : List ℕ) (next : Link) → RepliesToItem l asked text next → AnswersRequest l payload asked text next

is_replied_unless_listed : (asked : Request) → (asked ≡ request.Kill → ⊥) → (asked ≡ request.Console → ⊥) → (asked ≡ request.NoAcknowledgements → ⊥)
    → ((a : ℕ) (hardware : Bool) → asked ≡ request.SetBreakIf a hardware → ⊥) → IsReplied asked
is_replied_unless_listed request.Supported kill console quiet guarded = λ l payload text next is. is
is_replied_unless_listed request.NoAcknowledgements kill console quiet guarded = absurd (quiet refl)
is_replied_unless_listed request.Reason kill console quiet guarded = λ l payload text next is. is
is_replied_unless_listed (request.General who) kill console quiet guarded = λ l payload text next is. is
is_replied_unless_listed (request.Choose who) kill console quiet guarded = λ l payload text next is. is
is_replied_unless_listed (request.Alive id) kill console quiet guarded = λ l payload text next is. is
is_replied_unless_listed (request.Description from most) kill console quiet guarded = λ l payload text next is. is
is_replied_unless_listed (request.Threads from most) kill console quiet guarded = λ l payload text next is. is
is_replied_unless_listed request.Attached kill console quiet guarded = λ l payload text next is. is
is_replied_unless_listed request.Offsets kill console quiet guarded = λ l payload text next is. is
is_replied_unless_listed request.Symbols kill console quiet guarded = λ l payload text next is. is
is_replied_unless_listed request.Motions kill console quiet guarded = λ l payload text next is. is
is_replied_unless_listed request.Registers kill console quiet guarded = λ l payload text next is. is
is_replied_unless_listed (request.Register i) kill console quiet guarded = λ l payload text next is. is
is_replied_unless_listed (request.Memory a size) kill console quiet guarded = λ l payload text next is. is
is_replied_unless_listed request.Change kill console quiet guarded = λ l payload text next is. is
is_replied_unless_listed (request.SetBreak a hardware) kill console quiet guarded = λ l payload text next is. is
is_replied_unless_listed (request.SetBreakIf a hardware) kill console quiet guarded = absurd (guarded a hardware refl)
is_replied_unless_listed (request.ClearBreak a hardware) kill console quiet guarded = λ l payload text next is. is
is_replied_unless_listed (request.SetWatch a size) kill console quiet guarded = λ l payload text next is. is
is_replied_unless_listed (request.ClearWatch a size) kill console quiet guarded = λ l payload text next is. is
is_replied_unless_listed (request.Move motion who) kill console quiet guarded = λ l payload text next is. is
is_replied_unless_listed request.Console kill console quiet guarded = absurd (console refl)
is_replied_unless_listed request.Extended kill console quiet guarded = λ l payload text next is. is
is_replied_unless_listed request.Restart kill console quiet guarded = λ l payload text next is. is
is_replied_unless_listed (request.RestartAt i) kill console quiet guarded = λ l payload text next is. is
is_replied_unless_listed request.EndProcess kill console quiet guarded = λ l payload text next is. is
is_replied_unless_listed request.Detach kill console quiet guarded = λ l payload text next is. is
is_replied_unless_listed request.Kill kill console quiet guarded = absurd (kill refl)
is_replied_unless_listed request.Malformed kill console quiet guarded = λ l payload text next is. is
is_replied_unless_listed request.Unknown kill console quiet guarded = λ l payload text next is. is

pub request_ends_none : (asked : Request) → (asked ≡ request.Kill → ⊥) → (asked ≡ request.Detach → ⊥) → ends_request asked ≡ false
request_ends_none request.Supported kill detach = refl
request_ends_none request.NoAcknowledgements kill detach = refl
request_ends_none request.Reason kill detach = refl
request_ends_none (request.General who) kill detach = refl
request_ends_none (request.Choose who) kill detach = refl
request_ends_none (request.Alive id) kill detach = refl
request_ends_none (request.Description from most) kill detach = refl
request_ends_none (request.Threads from most) kill detach = refl
request_ends_none request.Attached kill detach = refl
request_ends_none request.Offsets kill detach = refl
request_ends_none request.Symbols kill detach = refl
request_ends_none request.Motions kill detach = refl
request_ends_none request.Registers kill detach = refl
request_ends_none (request.Register i) kill detach = refl
request_ends_none (request.Memory a size) kill detach = refl
request_ends_none request.Change kill detach = refl
request_ends_none (request.SetBreak a hardware) kill detach = refl
request_ends_none (request.SetBreakIf a hardware) kill detach = refl
request_ends_none (request.ClearBreak a hardware) kill detach = refl
request_ends_none (request.SetWatch a size) kill detach = refl
request_ends_none (request.ClearWatch a size) kill detach = refl
request_ends_none (request.Move motion who) kill detach = refl
request_ends_none request.Console kill detach = refl
request_ends_none request.Extended kill detach = refl
request_ends_none request.Restart kill detach = refl
request_ends_none (request.RestartAt i) kill detach = refl
request_ends_none request.EndProcess kill detach = refl
request_ends_none request.Detach kill detach = absurd (detach refl)
request_ends_none request.Kill kill detach = absurd (kill refl)
request_ends_none request.Malformed kill detach = refl
request_ends_none request.Unknown kill detach = refl

replied_is_answered : (l : Link) (payload : List ℕ) (asked : Request) (text : List ℕ) → IsReplied asked
    → ((next : Link) × RepliesToItem l asked text next) ⊎ (text ≡ []) → ((next : Link) × AnswersRequest l payload asked text next) ⊎ (text ≡ [])
replied_is_answered l payload asked text replies (inl (next, is)) = inl (next, replies l payload text next is)
replied_is_answered l payload asked text replies (inr none) = inr none

module _ (l : Link) (payload : List ℕ) (asked : Request) (next : Link) (w w' : Option (List ℕ)) where
  reply_sent : IsReplied asked → Sent (RepliesToItem l asked) next w w' → Sent (AnswersRequest l payload asked) next w w'
  reply_sent replies s = record { text = s.text; is = replies l payload s.text next s.is; grown = s.grown }

  reply_part : IsReplied asked → SentInPart (RepliesToItem l asked) [] w w' → SentInPart (AnswersRequest l payload asked) [] w w'
  reply_part replies s = record { text = s.text; is = replied_is_answered l payload asked s.text replies s.is; grown = s.grown }

  module _ (kill : asked ≡ request.Kill → ⊥) (console : asked ≡ request.Console → ⊥) (quiet : asked ≡ request.NoAcknowledgements → ⊥)
      (guarded : (a : ℕ) (hardware : Bool) → asked ≡ request.SetBreakIf a hardware → ⊥) where
    pub replied_sent : Sent (RepliesToItem l asked) next w w' → Sent (AnswersRequest l payload asked) next w w'
    replied_sent = reply_sent (is_replied_unless_listed asked kill console quiet guarded)

    pub replied_part : SentInPart (RepliesToItem l asked) [] w w' → SentInPart (AnswersRequest l payload asked) [] w w'
    replied_part = reply_part (is_replied_unless_listed asked kill console quiet guarded)

  pub detach_sent : asked ≡ request.Detach → Sent (RepliesToItem l asked) next w w' → Sent (AnswersRequest l payload asked) next w w'
  detach_sent is = reply_sent (subst IsReplied (sym is) (λ l payload text next a. a))

  pub detach_part : asked ≡ request.Detach → SentInPart (RepliesToItem l asked) [] w w' → SentInPart (AnswersRequest l payload asked) [] w w'
  detach_part is = reply_part (subst IsReplied (sym is) (λ l payload text next a. a))

  pub console_sent : asked ≡ request.Console → Sent (AnswersLine (quits (console_line payload)) l (console_line payload)) next w w'
      → Sent (AnswersRequest l payload asked) next w w'
  console_sent is s = subst (λ (r : Request). Sent (AnswersRequest l payload r) next w w') (sym is)
      (record { text = s.text; is = s.is; grown = s.grown })

  pub console_part : asked ≡ request.Console → SentInPart (AnswersLine (quits (console_line payload)) l (console_line payload)) [] w w'
      → SentInPart (AnswersRequest l payload asked) [] w w'
  console_part is s = subst (λ (r : Request). SentInPart (AnswersRequest l payload r) [] w w') (sym is)
      (record { text = s.text; is = s.is; grown = s.grown })

  pub guarded_sent : (a : ℕ) (hardware : Bool) → asked ≡ request.SetBreakIf a hardware
      → Sent (SetsBreak l (guarded (breakpoint a hardware) (break_conditions payload))) next w w' → Sent (AnswersRequest l payload asked) next w w'
  guarded_sent a hardware is s = subst (λ (r : Request). Sent (AnswersRequest l payload r) next w w') (sym is)
      (record { text = s.text; is = s.is; grown = s.grown })

  pub guarded_part : (a : ℕ) (hardware : Bool) → asked ≡ request.SetBreakIf a hardware
      → SentInPart (SetsBreak l (guarded (breakpoint a hardware) (break_conditions payload))) [] w w' → SentInPart (AnswersRequest l payload asked) [] w w'
  guarded_part a hardware is s = subst (λ (r : Request). SentInPart (AnswersRequest l payload r) [] w w') (sym is)
      (record { text = s.text; is = s.is; grown = s.grown })

  pub quiet_sent : asked ≡ request.NoAcknowledgements → next ≡ unacknowledged (sent l l.stub (packet_of (reply_text reply.Done)))
      → Appends w w' (packet_of (reply_text reply.Done)) → Sent (AnswersRequest l payload asked) next w w'
  quiet_sent is after grown = subst (λ (r : Request). Sent (AnswersRequest l payload r) next w w') (sym is)
      (record { text = packet_of (reply_text reply.Done); is = (refl, after); grown = grown })

  pub quiet_part : asked ≡ request.NoAcknowledgements → AppendsPrefix w w' (packet_of (reply_text reply.Done))
      → SentInPart (AnswersRequest l payload asked) [] w w'
  quiet_part is grown = subst (λ (r : Request). SentInPart (AnswersRequest l payload r) [] w w') (sym is)
      (record { text = packet_of (reply_text reply.Done); is = inl (unacknowledged (sent l l.stub (packet_of (reply_text reply.Done))), (refl, refl)); grown = grown })

pub sent_nothing_after_kill : (l : Link) (payload : List ℕ) (asked : Request) (w : Option (List ℕ)) → asked ≡ request.Kill
    → Sent (AnswersRequest l payload asked) l w w
sent_nothing_after_kill l payload asked w is = subst (λ (r : Request). Sent (AnswersRequest l payload r) l w w) (sym is)
    (record { text = []; is = (refl, refl); grown = Appends-nil w })

-- ---- items that are no copies

module _ (l : Link) (payload : List ℕ) (f : Found) (next : Link) (w w' : Option (List ℕ)) where
  pub packet_answered : f ≡ found.Packet → Sent (AnswersPacket l payload) next w w' → Sent (AnswersNew l (item_found f payload)) next w w'
  packet_answered is s = subst (λ (x : Found). Sent (AnswersNew l (item_found x payload)) next w w') (sym is)
      (record { text = s.text; is = s.is; grown = s.grown })

  pub packet_answered_part : f ≡ found.Packet → SentInPart (AnswersPacket l payload) (sign l (codes "+")) w w'
      → SentInPart (AnswersNew l (item_found f payload)) (before_new_reply l (item_found f payload)) w w'
  packet_answered_part is s = subst (λ (x : Found). SentInPart (AnswersNew l (item_found x payload)) (before_new_reply l (item_found x payload)) w w')
      (sym is) (record { text = s.text; is = s.is; grown = s.grown })

  pub long_answered : f ≡ found.TooLong → Sent (AnswersNew l stream.TooLong) next w w' → Sent (AnswersNew l (item_found f payload)) next w w'
  long_answered is s = subst (λ (x : Found). Sent (AnswersNew l (item_found x payload)) next w w') (sym is) s

  pub long_answered_part : f ≡ found.TooLong → SentInPart (AnswersNew l stream.TooLong) [] w w'
      → SentInPart (AnswersNew l (item_found f payload)) (before_new_reply l (item_found f payload)) w w'
  long_answered_part is s = subst (λ (x : Found). SentInPart (AnswersNew l (item_found x payload)) (before_new_reply l (item_found x payload)) w w')
      (sym is) s

  pub bad_answered : f ≡ found.BadSum → next ≡ l → Appends w w' (sign l (codes "-")) → Sent (AnswersNew l (item_found f payload)) next w w'
  bad_answered is same grown = subst (λ (x : Found). Sent (AnswersNew l (item_found x payload)) next w w') (sym is)
      (record { text = sign l (codes "-"); is = (refl, same); grown = grown })

  pub bad_answered_part : f ≡ found.BadSum → AppendsPrefix w w' (sign l (codes "-"))
      → SentInPart (AnswersNew l (item_found f payload)) (before_new_reply l (item_found f payload)) w w'
  bad_answered_part is grown = subst (λ (x : Found). SentInPart (AnswersNew l (item_found x payload)) (before_new_reply l (item_found x payload)) w w')
      (sym is) (record { text = sign l (codes "-"); is = inl (l, (refl, refl)); grown = grown })

  pub refused_answered : f ≡ found.Refused → next ≡ l → Appends w w' (resent l) → Sent (AnswersNew l (item_found f payload)) next w w'
  refused_answered is same grown = subst (λ (x : Found). Sent (AnswersNew l (item_found x payload)) next w w') (sym is)
      (record { text = resent l; is = (refl, same); grown = grown })

  pub refused_answered_part : f ≡ found.Refused → AppendsPrefix w w' (resent l)
      → SentInPart (AnswersNew l (item_found f payload)) (before_new_reply l (item_found f payload)) w w'
  refused_answered_part is grown = subst (λ (x : Found). SentInPart (AnswersNew l (item_found x payload)) (before_new_reply l (item_found x payload)) w w')
      (sym is) (record { text = resent l; is = inl (l, (refl, refl)); grown = grown })

module _ (l : Link) (payload : List ℕ) (f : Found) (next : Link) (w : Option (List ℕ)) where
  pub interrupt_answered : f ≡ found.Interrupt → next ≡ record l { stub = record l.stub { interrupted = true } }
      → Sent (AnswersNew l (item_found f payload)) next w w
  interrupt_answered is after = subst (λ (x : Found). Sent (AnswersNew l (item_found x payload)) next w w) (sym is)
      (record { text = []; is = (refl, after); grown = Appends-nil w })

  pub acknowledged_answered : f ≡ found.Acknowledged → next ≡ record l { is_owed = false } → Sent (AnswersNew l (item_found f payload)) next w w
  acknowledged_answered is after = subst (λ (x : Found). Sent (AnswersNew l (item_found x payload)) next w w) (sym is)
      (record { text = []; is = (refl, after); grown = Appends-nil w })

pub ok_flow_of_found : {E : Type 0} (r : Result Flow E) (payload : List ℕ) (f : Found) → f ≡ found.Packet
    → IfOk r (λ x. x ≡ flow_after (ends_request (request_of payload))) → IfOk r (λ x. x ≡ flow_after (request_ends (item_found f payload)))
ok_flow_of_found r payload f is p = subst (λ (y : Found). IfOk r (λ x. x ≡ flow_after (request_ends (item_found y payload)))) (sym is) p

pub ok_flow_of_test : {E : Type 0} (r : Result Flow E) (b : Bool) → b ≡ false → IfOk r (λ x. x ≡ flow_after false) → IfOk r (λ x. x ≡ flow_after b)
ok_flow_of_test r b is p = subst (λ (c : Bool). IfOk r (λ x. x ≡ flow_after c)) (sym is) p

-- ---- copies

module _ (l : Link) (item : Item) where
  pub copy_dropped : (w : Option (List ℕ)) → (is_copy l && is_packet item) ≡ true → Sent (AnswersItem l item) l w w
  copy_dropped w both = record { text = []; is = dropped (is_copy l && is_packet item) both; grown = Appends-nil w }
    where
      dropped : (b : Bool) → b ≡ true → AnswersItemBy b l item [] l
      dropped true e = (refl, refl)
      dropped false e = absurd cc

  new_is : (b : Bool) (text : List ℕ) (next : Link) → b ≡ false → AnswersNew l item text next → AnswersItemBy b l item text next
  new_is true text next e is = absurd cc
  new_is false text next e is = is

  pub new_sent : (next : Link) (w w' : Option (List ℕ)) → (is_copy l && is_packet item) ≡ false → Sent (AnswersNew l item) next w w'
      → Sent (AnswersItem l item) next w w'
  new_sent next w w' new s = record { text = s.text; is = new_is (is_copy l && is_packet item) s.text next new s.is; grown = s.grown }

  pub new_part : (w w' : Option (List ℕ)) → (is_copy l && is_packet item) ≡ false → SentInPart (AnswersNew l item) (before_new_reply l item) w w'
      → SentInPart (AnswersItem l item) (before_reply l item) w w'
  new_part w w' new s = subst (λ (b : Bool). SentInPart (AnswersItemBy b l item) (before_reply_by b l item) w w') (sym new) s

pub copy_ends_none : (l : Link) (item : Item) → (is_copy l && is_packet item) ≡ true → item_ends l item ≡ false
copy_ends_none l item both = by_copy (is_copy l) both
  where
    by_copy : (b : Bool) → (b && is_packet item) ≡ true → (not b && request_ends item) ≡ false
    by_copy true e = refl
    by_copy false e = absurd cc

no_packet_ends_none : (item : Item) → is_packet item ≡ false → request_ends item ≡ false
no_packet_ends_none (stream.Packet payload) e = absurd cc
no_packet_ends_none stream.BadSum e = refl
no_packet_ends_none stream.TooLong e = refl
no_packet_ends_none stream.Interrupt e = refl
no_packet_ends_none stream.Acknowledged e = refl
no_packet_ends_none stream.Refused e = refl

not_copy_and_ends : (b : Bool) (item : Item) → (b && is_packet item) ≡ false → (not b && request_ends item) ≡ request_ends item
not_copy_and_ends true item new = sym (no_packet_ends_none item new)
not_copy_and_ends false item new = refl

pub ok_flow_of_ends : {E : Type 0} (r : Result Flow E) (l : Link) (item : Item) → (is_copy l && is_packet item) ≡ false
    → IfOk r (λ x. x ≡ flow_after (request_ends item)) → IfOk r (λ x. x ≡ flow_after (item_ends l item))
ok_flow_of_ends r l item new p = subst (λ (b : Bool). IfOk r (λ x. x ≡ flow_after b)) (sym (not_copy_and_ends (is_copy l) item new)) p

-- ---- packets, whose request is read first

pub packet_answer_sent : (l : Link) (payload : List ℕ) (asked : Request) (next : Link) (w w1 w2 : Option (List ℕ)) → asked ≡ request_of payload
    → Appends w w1 (sign l (codes "+")) → Sent (AnswersRequest l payload asked) next w1 w2 → Sent (AnswersPacket l payload) next w w2
packet_answer_sent l payload asked next w w1 w2 is first rest = sent_answer_to_packet l payload next w w1 w2 first
    (subst (λ (r : Request). Sent (AnswersRequest l payload r) next w1 w2) is rest)

pub packet_answer_part : (l : Link) (payload : List ℕ) (asked : Request) (w w1 w2 : Option (List ℕ)) → asked ≡ request_of payload
    → Appends w w1 (sign l (codes "+")) → SentInPart (AnswersRequest l payload asked) [] w1 w2
    → SentInPart (AnswersPacket l payload) (sign l (codes "+")) w w2
packet_answer_part l payload asked w w1 w2 is first rest = packet_answer_in_part l payload w w1 w2 first
    (subst (λ (r : Request). SentInPart (AnswersRequest l payload r) [] w1 w2) is rest)
