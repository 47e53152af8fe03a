use Rattle.std.proofs.Common.{ap, length, arith}
use Rattle.ir_elf.proofs.Words.{take_read_is_words_in}
use Rattle.ir_elf.proofs.memory.words_of.Goals as goal

pub returns : goal.returns
returns c =
    take_read_is_words_in c.in_ok-words.words.len c.args.bytes.now c.read_u32_into.new.dst c.in_ok-words.words.items
    (omega (arith, c.in_ok-words.ensures.len, ap length c.deref_mut.ensures.value, c.requires.whole))
    (omega (arith, c.in_ok-words.ensures.len, ap length c.deref_mut.ensures.value, c.requires.whole)) c.read_u32_into.ensures
