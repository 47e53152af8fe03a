use Rattle.std.proofs.Common.{◌≡◌, ◌+◌, ◌*◌, ◌++◌, drop}
use Rattle.std.specs.Prelude.{vec_len, vec_capacity}
use Rattle.ir_packet.specs.Replies.{words_reply}
use Rattle.ir_gdb.specs.Reads.{register_words}
use Rattle.ir_gdb.proofs.registers.put_registers.Given as goal

abbrev pub invariant-loop-n : goal.invariant-loop-n
invariant-loop-n l = (l.out.items ++ words_reply (drop l.n (register_words l.mach)) ≡ l.fn.out.items ++ words_reply (register_words l.mach))
    × (vec_len l.out ≡ vec_len l.fn.out + 8 * l.n) × (vec_capacity l.out ≡ vec_capacity l.fn.out)
