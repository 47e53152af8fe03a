use Rattle.std.proofs.Common.{ap, length, arith}
use Rattle.std.proofs.lemmas.Result.{err_from_is_err_and}
use Rattle.ir_image.proofs.Block.{words_fail, words_at_overwritten}
use Rattle.ir_image.proofs.reading.words.Goals as goal

pub returns-in_err-own : goal.returns-in_err-own
returns-in_err-own c =
    let p = err_from_is_err_and c.from_residual.result c.from_residual.ensures.1 in
    rw (p.1, p.2) (words_fail c.args.count c.args.bytes.now c.in_err-own.field-0.0 c.in_err-own.ensures.exact)

pub returns : goal.returns
returns c =
    words_at_overwritten c.args.count c.in_ok-words.words.len c.args.bytes.now c.in_ok-own.own.now c.in_ok-own.rest.now c.read_u32_into.new.dst
    c.in_ok-words.words.items
    c.in_ok-own.ensures.exact (omega (arith, c.in_ok-words.ensures.len, ap length c.deref_mut.ensures.value))
    (omega (arith, c.in_ok-words.ensures.len)) c.read_u32_into.ensures
