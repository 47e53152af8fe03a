-- From replies to what is written for an item.
use Rattle.std.proofs.Common.{◌≡◌, ◌∙◌, ◌⊎◌, append-nil, ℕ, Bool, true, false, List, [], ◌++◌, Option, Result, Ok, Err, OnOk, OnErr, codes, refl, sym, ap, subst, inl, inr}
use Rattle.std.specs.Prelude.{⊤}
use Rattle.std.specs.Io.KnownBytes.{Appends}
use Rattle.std.proofs.KnownBytes.{Appends-trans}
use Rattle.ir_stream.specs.Answers.{AppendsPrefix}
use Rattle.ir_stream.proofs.CallerLemmas.{appends_prefix_append, appends_prefix_longer}
use Rattle.ir_cut.specs.Positions.{EachRun}
use Rattle.ir_packet.specs.Packets.{packet_of}
use Rattle.ir_packet.specs.Replies.{reply_text}
use Rattle.ir_packet.specs.Requests.{request_of}
use Rattle.ir_packet.specs.Stream.{TooLong}
use Rattle.ir_packet.specs.declared.reply.Reply.{Reply}
use Rattle.ir_packet.specs.declared.reply.Reply.TheVariants as reply
use Rattle.ir_packet.specs.declared.request.Request.{Request}
use Rattle.ir_monitor.specs.Asking.{asked_of}
use Rattle.ir_gdb.specs.Guards.{Guarded}
use Rattle.ir_gdb.specs.Setting.{break_setting, setting_reply, with_break}
use Rattle.ir_gdb.specs.Stub.{Stub}
use Rattle.ir_gdb.specs.Replies.{RepliesIfMemory, Lacks, RepliesTo}
use Rattle.ir_gdb.specs.Connection.{Connecting, Link, sent, sign, connection_answer_text, Responds, AnswersLine, RepliesToItem}
use Rattle.ir_gdb.specs.Connection.{AnswersRequest, AnswersPacket, AnswersNew, Sent, SentInPart, IsBreakSet, SetsBreak}
use Rattle.ir_gdb.proofs.Lines.{responds_to_implied}

pub on_ok_of_implied : {X E : Type 0} (r : Result X E) (P Q : Type 0) → (P → Q) → OnOk r P → OnOk r Q
on_ok_of_implied (Ok x) P Q go p = go p
on_ok_of_implied (Err e) P Q go p = tt

pub on_err_of_implied : {X E : Type 0} (r : Result X E) (P Q : Type 0) → (P → Q) → OnErr r P → OnErr r Q
on_err_of_implied (Ok x) P Q go p = tt
on_err_of_implied (Err e) P Q go p = go p

pub on_err_if_holds : {X E : Type 0} (r : Result X E) (P : Type 0) → P → OnErr r P
on_err_if_holds (Ok x) P p = tt
on_err_if_holds (Err e) P p = p

-- ---- requests

pub replies_if_carried_out : (s : Stub) (asked : Request) (next : Stub) (old new : List ℕ)
    → ((text : List ℕ) × EachRun s.desk.fitted (λ run. RepliesIfMemory run s asked text next) × (new ≡ old ++ text)) → old ≡ []
    → RepliesTo s asked new next
replies_if_carried_out s asked next old new r none =
    subst (λ (text : List ℕ). RepliesTo s asked text next) (sym (r.2 ∙ ap (λ (xs : List ℕ). xs ++ r.0) none)) (inl r.1)

pub lacking_says_no_memory : (s : Stub) (asked : Request) (next : Stub) → Lacks s asked next → RepliesTo s asked (reply_text reply.NoMemory) next
lacking_says_no_memory s asked next lacks = inr (lacks, refl)

request_item_answered : (l : Link) (asked : Request) (s : Stub) (payload : List ℕ) (mid next : Link) → RepliesTo l.stub asked payload s
    → mid ≡ record l { stub = s } → next ≡ sent mid mid.stub (packet_of payload) → RepliesToItem l asked (packet_of payload) next
request_item_answered l asked s payload mid next replies is after = (payload, s, replies, refl, after ∙ ap (λ (m : Link). sent m m.stub (packet_of payload)) is)

pub sent_reply_packet : (l : Link) (asked : Request) (s : Stub) (payload : List ℕ) (mid next : Link) (w w' : Option (List ℕ))
    → RepliesTo l.stub asked payload s → mid ≡ record l { stub = s } → next ≡ sent mid mid.stub (packet_of payload) → Appends w w' (packet_of payload)
    → Sent (RepliesToItem l asked) next w w'
sent_reply_packet l asked s payload mid next w w' replies is after grown = record {
  text = packet_of payload;
  is = request_item_answered l asked s payload mid next replies is after;
  grown = grown;
}

pub reply_sent_in_part : (l : Link) (asked : Request) (s : Stub) (payload : List ℕ) (mid next : Link) (w w' : Option (List ℕ))
    → RepliesTo l.stub asked payload s → mid ≡ record l { stub = s } → next ≡ sent mid mid.stub (packet_of payload) → AppendsPrefix w w' (packet_of payload)
    → SentInPart (RepliesToItem l asked) [] w w'
reply_sent_in_part l asked s payload mid next w w' replies is after grown = record {
  text = packet_of payload;
  is = inl (next, request_item_answered l asked s payload mid next replies is after);
  grown = grown;
}

-- ---- a session's line

line_answered_done : (b : Bool) (l : Link) (line : List ℕ) (s : Stub) (answer : List ℕ) → b ≡ false → Responds l.stub line s (λ text. answer ≡ text)
    → AnswersLine b l line (connection_answer_text answer ++ packet_of (reply_text reply.Done)) (sent l s (packet_of (reply_text reply.Done)))
line_answered_done true l line s answer goes r = absurd cc
line_answered_done false l line s answer goes r = inl (
  s,
  responds_to_implied (asked_of line) l.stub line s (λ text. answer ≡ text)
      (λ text. connection_answer_text answer ++ packet_of (reply_text reply.Done) ≡ connection_answer_text text ++ packet_of (reply_text reply.Done))
      (λ text same. ap (λ (x : List ℕ). connection_answer_text x ++ packet_of (reply_text reply.Done)) same) r,
  refl,
)

-- where the answer leads
link_after_answer : (l : Link) (s : Stub) (mid answered next : Link) → mid ≡ record l { stub = s }
    → sent answered answered.stub (packet_of (reply_text reply.Done)) ≡ sent mid mid.stub (packet_of (reply_text reply.Done))
    → next ≡ sent answered answered.stub (packet_of (reply_text reply.Done)) → next ≡ sent l s (packet_of (reply_text reply.Done))
link_after_answer l s mid answered next is same after = after ∙ same ∙ ap (λ (m : Link). sent m m.stub (packet_of (reply_text reply.Done))) is

pub sent_answer_to_line : (b : Bool) (l : Link) (line : List ℕ) (s : Stub) (answer : List ℕ) (mid answered next : Link) (w w1 w2 : Option (List ℕ))
    → b ≡ false → Responds l.stub line s (λ text. answer ≡ text) → mid ≡ record l { stub = s }
    → sent answered answered.stub (packet_of (reply_text reply.Done)) ≡ sent mid mid.stub (packet_of (reply_text reply.Done))
    → next ≡ sent answered answered.stub (packet_of (reply_text reply.Done)) → Appends w w1 (connection_answer_text answer)
    → Appends w1 w2 (packet_of (reply_text reply.Done)) → Sent (AnswersLine b l line) next w w2
sent_answer_to_line b l line s answer mid answered next w w1 w2 goes r is same after first rest = record {
  text = connection_answer_text answer ++ packet_of (reply_text reply.Done);
  is = subst (AnswersLine b l line (connection_answer_text answer ++ packet_of (reply_text reply.Done)))
      (sym (link_after_answer l s mid answered next is same after)) (line_answered_done b l line s answer goes r);
  grown = Appends-trans w w1 w2 (connection_answer_text answer) (packet_of (reply_text reply.Done)) first rest;
}

pub done_sent_in_part : (b : Bool) (l : Link) (line : List ℕ) (s : Stub) (answer : List ℕ) (w w1 w2 : Option (List ℕ))
    → b ≡ false → Responds l.stub line s (λ text. answer ≡ text) → Appends w w1 (connection_answer_text answer)
    → AppendsPrefix w1 w2 (packet_of (reply_text reply.Done)) → SentInPart (AnswersLine b l line) [] w w2
done_sent_in_part b l line s answer w w1 w2 goes r first rest = record {
  text = connection_answer_text answer ++ packet_of (reply_text reply.Done);
  is = inl (sent l s (packet_of (reply_text reply.Done)), line_answered_done b l line s answer goes r);
  grown = appends_prefix_append w w1 w2 (connection_answer_text answer) (packet_of (reply_text reply.Done)) first rest;
}

pub answer_sent_in_part : (b : Bool) (l : Link) (line : List ℕ) (s : Stub) (answer : List ℕ) (w w1 : Option (List ℕ))
    → b ≡ false → Responds l.stub line s (λ text. answer ≡ text) → AppendsPrefix w w1 (connection_answer_text answer)
    → SentInPart (AnswersLine b l line) [] w w1
answer_sent_in_part b l line s answer w w1 goes r first = record {
  text = connection_answer_text answer ++ packet_of (reply_text reply.Done);
  is = inl (sent l s (packet_of (reply_text reply.Done)), line_answered_done b l line s answer goes r);
  grown = appends_prefix_longer w w1 (connection_answer_text answer) (packet_of (reply_text reply.Done)) first;
}

quit_is_not_permitted : (b : Bool) (l : Link) (line : List ℕ) → b ≡ true → AnswersLine b l line (packet_of (reply_text reply.NotPermitted)) (sent l l.stub (packet_of (reply_text reply.NotPermitted)))
quit_is_not_permitted true l line quits = (refl, refl)
quit_is_not_permitted false l line quits = absurd cc

pub quit_answer_in_part : (b : Bool) (l : Link) (line : List ℕ) (w w' : Option (List ℕ)) → b ≡ true
    → AppendsPrefix w w' (packet_of (reply_text reply.NotPermitted)) → SentInPart (AnswersLine b l line) [] w w'
quit_answer_in_part b l line w w' quits grown = record {
  text = packet_of (reply_text reply.NotPermitted);
  is = inl (sent l l.stub (packet_of (reply_text reply.NotPermitted)), quit_is_not_permitted b l line quits);
  grown = grown;
}

pub quit_answer_sent : (b : Bool) (l : Link) (line : List ℕ) (mid next : Link) (w w' : Option (List ℕ)) → b ≡ true → mid ≡ l
    → next ≡ sent mid mid.stub (packet_of (reply_text reply.NotPermitted)) → Appends w w' (packet_of (reply_text reply.NotPermitted)) → Sent (AnswersLine b l line) next w w'
quit_answer_sent b l line mid next w w' quits same after grown = record {
  text = packet_of (reply_text reply.NotPermitted);
  is = subst (AnswersLine b l line (packet_of (reply_text reply.NotPermitted))) (sym (after ∙ ap (λ (m : Link). sent m m.stub (packet_of (reply_text reply.NotPermitted))) same))
      (quit_is_not_permitted b l line quits);
  grown = grown;
}

line_lacks_memory : (b : Bool) (l : Link) (line : List ℕ) (mid next : Link) → b ≡ false
    → ((mid ≡ l) ⊎ ((s : Stub) × Responds l.stub line s (λ text. ⊤) × (mid ≡ record l { stub = s }))) → next ≡ sent mid mid.stub (packet_of (reply_text reply.NoMemory))
    → AnswersLine b l line (packet_of (reply_text reply.NoMemory)) next
line_lacks_memory true l line mid next goes r after = absurd cc
line_lacks_memory false l line mid next goes (inl same) after = inr (inl (after ∙ ap (λ (m : Link). sent m m.stub (packet_of (reply_text reply.NoMemory))) same), refl)
line_lacks_memory false l line mid next goes (inr (s, r, is)) after = inr (inr (s, r, after ∙ ap (λ (m : Link). sent m m.stub (packet_of (reply_text reply.NoMemory))) is), refl)

pub sent_no_memory_reply : (b : Bool) (l : Link) (line : List ℕ) (mid next : Link) (w w' : Option (List ℕ)) → b ≡ false
    → ((mid ≡ l) ⊎ ((s : Stub) × Responds l.stub line s (λ text. ⊤) × (mid ≡ record l { stub = s }))) → next ≡ sent mid mid.stub (packet_of (reply_text reply.NoMemory))
    → Appends w w' (packet_of (reply_text reply.NoMemory)) → Sent (AnswersLine b l line) next w w'
sent_no_memory_reply b l line mid next w w' goes r after grown = record {
  text = packet_of (reply_text reply.NoMemory);
  is = line_lacks_memory b l line mid next goes r after;
  grown = grown;
}

pub no_memory_in_part : (b : Bool) (l : Link) (line : List ℕ) (mid : Link) (w w' : Option (List ℕ)) → b ≡ false
    → ((mid ≡ l) ⊎ ((s : Stub) × Responds l.stub line s (λ text. ⊤) × (mid ≡ record l { stub = s })))
    → AppendsPrefix w w' (packet_of (reply_text reply.NoMemory)) → SentInPart (AnswersLine b l line) [] w w'
no_memory_in_part b l line mid w w' goes r grown = record {
  text = packet_of (reply_text reply.NoMemory);
  is = inl (sent mid mid.stub (packet_of (reply_text reply.NoMemory)), line_lacks_memory b l line mid (sent mid mid.stub (packet_of (reply_text reply.NoMemory))) goes r refl);
  grown = grown;
}

-- ---- packets

pub sent_answer_to_packet : (l : Link) (payload : List ℕ) (next : Link) (w w1 w2 : Option (List ℕ)) → Appends w w1 (sign l (codes "+"))
    → Sent (AnswersRequest l payload (request_of payload)) next w1 w2 → Sent (AnswersPacket l payload) next w w2
sent_answer_to_packet l payload next w w1 w2 first rest = record {
  text = sign l (codes "+") ++ rest.text;
  is = (rest.text, rest.is, refl);
  grown = Appends-trans w w1 w2 (sign l (codes "+")) rest.text first rest.grown;
}

signed_answers_packet : (l : Link) (payload text : List ℕ) → ((next : Link) × AnswersRequest l payload (request_of payload) text next) ⊎ (text ≡ [])
    → ((next : Link) × AnswersPacket l payload (sign l (codes "+") ++ text) next) ⊎ (sign l (codes "+") ++ text ≡ sign l (codes "+"))
signed_answers_packet l payload text (inl (next, is)) = inl (next, (text, is, refl))
signed_answers_packet l payload text (inr none) = inr (ap (λ (x : List ℕ). sign l (codes "+") ++ x) none ∙ append-nil (sign l (codes "+")))

pub packet_answer_in_part : (l : Link) (payload : List ℕ) (w w1 w2 : Option (List ℕ)) → Appends w w1 (sign l (codes "+"))
    → SentInPart (AnswersRequest l payload (request_of payload)) [] w1 w2 → SentInPart (AnswersPacket l payload) (sign l (codes "+")) w w2
packet_answer_in_part l payload w w1 w2 first rest = record {
  text = sign l (codes "+") ++ rest.text;
  is = signed_answers_packet l payload rest.text rest.is;
  grown = appends_prefix_append w w1 w2 (sign l (codes "+")) rest.text first rest.grown;
}

no_reply_text_is_empty : reply_text reply.Nothing ≡ []
unfolding reply_text
no_reply_text_is_empty = refl

too_long_empty_packet : (l next : Link) → next ≡ sent l l.stub (packet_of []) → AnswersNew l TooLong (sign l (codes "+") ++ packet_of (reply_text reply.Nothing)) next
too_long_empty_packet l next after = (ap (λ (x : List ℕ). sign l (codes "+") ++ packet_of x) no_reply_text_is_empty, after)

pub too_long_answer_sent : (l next : Link) (w w1 w2 : Option (List ℕ)) → next ≡ sent l l.stub (packet_of (reply_text reply.Nothing)) → Appends w w1 (sign l (codes "+"))
    → Appends w1 w2 (packet_of (reply_text reply.Nothing)) → Sent (AnswersNew l TooLong) next w w2
too_long_answer_sent l next w w1 w2 after first rest = record {
  text = sign l (codes "+") ++ packet_of (reply_text reply.Nothing);
  is = too_long_empty_packet l next (after ∙ ap (λ (x : List ℕ). sent l l.stub (packet_of x)) no_reply_text_is_empty);
  grown = Appends-trans w w1 w2 (sign l (codes "+")) (packet_of (reply_text reply.Nothing)) first rest;
}

pub too_long_in_part : (l : Link) (w w1 w2 : Option (List ℕ)) → Appends w w1 (sign l (codes "+"))
    → AppendsPrefix w1 w2 (packet_of (reply_text reply.Nothing)) → SentInPart (AnswersNew l TooLong) [] w w2
too_long_in_part l w w1 w2 first rest = record {
  text = sign l (codes "+") ++ packet_of (reply_text reply.Nothing);
  is = inl (sent l l.stub (packet_of []), too_long_empty_packet l (sent l l.stub (packet_of [])) refl);
  grown = appends_prefix_append w w1 w2 (sign l (codes "+")) (packet_of (reply_text reply.Nothing)) first rest;
}

pub too_long_sign_in_part : (l : Link) (w w1 : Option (List ℕ)) → AppendsPrefix w w1 (sign l (codes "+")) → SentInPart (AnswersNew l TooLong) [] w w1
too_long_sign_in_part l w w1 first = record {
  text = sign l (codes "+") ++ packet_of (reply_text reply.Nothing);
  is = inl (sent l l.stub (packet_of []), too_long_empty_packet l (sent l l.stub (packet_of [])) refl);
  grown = appends_prefix_longer w w1 (sign l (codes "+")) (packet_of (reply_text reply.Nothing)) first;
}

-- ---- a breakpoint with conditions

-- the value seen of what a function holds
abbrev pub connecting_seen : {a b : Connecting} → a ≡ b → Connecting
connecting_seen {a} {b} same = a

pub break_set_by_parts : (l : Link) (b given : Guarded) (s : Stub) (r : Reply) → given ≡ b → r ≡ setting_reply (break_setting l.stub given.point)
    → s ≡ with_break l.stub given → IsBreakSet l b r (record l { stub = s })
break_set_by_parts l b given s r same is after = inl (
  is ∙ ap (λ (x : Guarded). setting_reply (break_setting l.stub x.point)) same,
  ap (λ (x : Stub). record l { stub = x }) (after ∙ ap (λ (x : Guarded). with_break l.stub x) same),
)

pub break_not_set_without_memory : (l : Link) (b : Guarded) → IsBreakSet l b reply.NoMemory l
break_not_set_without_memory l b = inr (refl, refl)

pub break_reply_sent : (l : Link) (b : Guarded) (r : Reply) (mid next : Link) (w w' : Option (List ℕ)) → IsBreakSet l b r mid
    → next ≡ sent mid mid.stub (packet_of (reply_text r)) → Appends w w' (packet_of (reply_text r)) → Sent (SetsBreak l b) next w w'
break_reply_sent l b r mid next w w' set after grown = record { text = packet_of (reply_text r); is = (r, mid, set, refl, after); grown = grown }

pub break_reply_in_part : (l : Link) (b : Guarded) (r : Reply) (mid : Link) (w w' : Option (List ℕ)) → IsBreakSet l b r mid
    → AppendsPrefix w w' (packet_of (reply_text r)) → SentInPart (SetsBreak l b) [] w w'
break_reply_in_part l b r mid w w' set grown = record {
  text = packet_of (reply_text r);
  is = inl (sent mid mid.stub (packet_of (reply_text r)), (r, mid, set, refl, refl));
  grown = grown;
}
