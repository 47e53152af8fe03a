use Rattle.std.proofs.Common.{rules, ◌≡◌, ◌<◌, ◌∙◌, ◌++◌, ℕ, List, [], ◌∷◌, length, refl, sym, ap, arith}
use Rattle.hex.specs.Hex.{encode_lower}
use Rattle.ir_packet.specs.Replies.{reply_text}
use Rattle.ir_packet.specs.declared.reply.Reply.TheVariants.{BadAddress}
use Rattle.ir_gdb.specs.Reads.{bytes_text}
use Rattle.ir_gdb.proofs.Written.{reply_text_is_short}
use Rattle.ir_gdb.proofs.remote.reads.put_bytes.Goals as goal

no_bytes : (xs : List ℕ) → length xs ≡ 0 → bytes_text xs ≡ reply_text BadAddress
no_bytes [] e = refl
no_bytes (b ∷ xs) e = absurd (omega (arith, e))

some_bytes : (xs : List ℕ) → 0 < length xs → bytes_text xs ≡ encode_lower xs
some_bytes [] some = absurd (omega (arith, some))
some_bytes (b ∷ xs) some = refl

pub put_text-requires : goal.put_text-requires
put_text-requires c =
    let text = ap (λ (xs : List ℕ). length xs) c.reply_text.ensures in
    let short = reply_text_is_short BadAddress in
    let room = c.requires.room in
    omega (arith, text, short, room)

pub returns-then-is_empty-clause-bytes : goal.returns-then-is_empty-clause-bytes
returns-then-is_empty-clause-bytes c =
    let none : length c.args.bytes.now ≡ 0 = search rules in
    c.put_text.ensures.bytes ∙ ap (λ (xs : List ℕ). c.args.out.now.items ++ xs) (c.reply_text.ensures ∙ sym (no_bytes c.args.bytes.now none))

pub returns-clause-bytes : goal.returns-clause-bytes
returns-clause-bytes c =
    let some : 0 < length c.args.bytes.now = search rules in
    c.put_hex.ensures.bytes ∙ ap (λ (xs : List ℕ). c.args.out.now.items ++ xs) (sym (some_bytes c.args.bytes.now some))
