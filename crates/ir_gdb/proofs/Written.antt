-- Packets of a session's answer.
use Rattle.std.proofs.Common.{◌≡◌, ◌≤◌, ◌<◌, ◌+◌, ◌/◌, ◌∙◌, ℕ, suc, Bool, true, false, leb, min, List, [], ◌++◌, length, take, drop, refl}
use Rattle.std.proofs.Common.{sym, ap, arith, length-drop, take_all, drop_of_length-le, leb-true, leb-false}
use Rattle.ir_packet.specs.Packets.{packet_of}
use Rattle.ir_packet.specs.Replies.{output_reply, reply_text}
use Rattle.ir_packet.specs.declared.reply.Reply.{Reply}
use Rattle.ir_packet.specs.declared.reply.Reply.TheVariants as reply
use Rattle.ir_gdb.specs.Connection.{most_piece, answer_packets, connection_answer_text}

pub answer_text_nil : (bytes : List ℕ) → length bytes ≡ 0 → connection_answer_text bytes ≡ []
unfolding answer_packets
answer_text_nil bytes e =
    let none : (length bytes + 499) / most_piece ≡ 0 = omega (arith, e) in ap (λ (n : ℕ). answer_packets n bytes) none

answer_text_first : (bytes : List ℕ) → 0 < length bytes
    → connection_answer_text bytes ≡ packet_of (output_reply (take most_piece bytes)) ++ connection_answer_text (drop most_piece bytes)
unfolding answer_packets
answer_text_first bytes some =
    let more : (length bytes + 499) / most_piece ≡ suc ((length (drop most_piece bytes) + 499) / most_piece) =
    omega (arith, some, length-drop most_piece bytes) in
    ap (λ (n : ℕ). answer_packets n bytes) more

take_drop_min_length : (bytes : List ℕ) (t : Bool) → leb most_piece (length bytes) ≡ t
    → (take (min most_piece (length bytes)) bytes ≡ take most_piece bytes) × (drop (min most_piece (length bytes)) bytes ≡ drop most_piece bytes)
take_drop_min_length bytes true long =
    let h : most_piece ≤ length bytes = leb-true most_piece (length bytes) long in
    let e : min most_piece (length bytes) ≡ most_piece = omega (arith, h) in
    (ap (λ (n : ℕ). take n bytes) e, ap (λ (n : ℕ). drop n bytes) e)
take_drop_min_length bytes false short =
    let h : length bytes < most_piece = leb-false most_piece (length bytes) short in
    let most : length bytes ≤ most_piece = omega (arith, h) in
    let e : min most_piece (length bytes) ≡ length bytes = omega (arith, h) in
    let same : length bytes ≤ length bytes = omega arith in (
      ap (λ (n : ℕ). take n bytes) e ∙ take_all (length bytes) bytes same ∙ sym (take_all most_piece bytes most),
      ap (λ (n : ℕ). drop n bytes) e ∙ drop_of_length-le bytes same ∙ sym (drop_of_length-le bytes most),
    )

-- by a piece that is no longer than the rest
pub answer_text_piece : (bytes piece more : List ℕ) (n : ℕ) → 0 < length bytes → n ≡ min most_piece (length bytes) → piece ≡ take n bytes
    → more ≡ drop n bytes → connection_answer_text bytes ≡ packet_of (output_reply piece) ++ connection_answer_text more
answer_text_piece bytes piece more n some least is-n rest-n =
    let is : piece ≡ take (min most_piece (length bytes)) bytes = is-n ∙ ap (λ (k : ℕ). take k bytes) least in
    let rest : more ≡ drop (min most_piece (length bytes)) bytes = rest-n ∙ ap (λ (k : ℕ). drop k bytes) least in
    let e = take_drop_min_length bytes (leb most_piece (length bytes)) refl in
    answer_text_first bytes some
    ∙ ap (λ (x : List ℕ). packet_of (output_reply x) ++ connection_answer_text (drop most_piece bytes)) (sym e.0 ∙ sym is)
    ∙ ap (λ (x : List ℕ). packet_of (output_reply piece) ++ connection_answer_text x) (sym e.1 ∙ sym rest)

-- replies that are always the same are short
pub reply_text_is_short : (r : Reply) → length (reply_text r) ≤ 30
unfolding reply_text
reply_text_is_short reply.Done = omega arith
reply_text_is_short reply.Nothing = omega arith
reply_text_is_short reply.NotPermitted = omega arith
reply_text_is_short reply.NoMemory = omega arith
reply_text_is_short reply.BadAddress = omega arith
reply_text_is_short reply.NoSpace = omega arith
reply_text_is_short reply.ReadOnly = omega arith
reply_text_is_short reply.Attached = omega arith
reply_text_is_short reply.Offsets = omega arith
reply_text_is_short reply.Motions = omega arith
