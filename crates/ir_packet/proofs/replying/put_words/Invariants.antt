use Rattle.std.proofs.Common.{◌≡◌, ◌+◌, ◌*◌, ◌++◌, drop}
use Rattle.std.specs.Prelude.{vec_len, vec_capacity}
use Rattle.ir_packet.specs.Replies.{words_reply}
use Rattle.ir_packet.proofs.replying.put_words.Given as goal

abbrev pub invariant-loop-word : goal.invariant-loop-word
invariant-loop-word l = (l.out.items ++ words_reply (drop l.word-index l.words) ≡ l.fn.out.items ++ words_reply l.fn.words)
    × (vec_len l.out ≡ vec_len l.fn.out + 8 * l.word-index) × (vec_capacity l.out ≡ vec_capacity l.fn.out)
