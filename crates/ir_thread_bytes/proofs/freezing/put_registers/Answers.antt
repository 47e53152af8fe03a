use Rattle.std.proofs.Common.{◌∙◌, sym, arith}
use Rattle.ir_liveness.specs.Table.{kept_registers}
use Rattle.ir_thread_bytes.proofs.Kept.{kept_registers_count, kept_register_at}
use Rattle.ir_thread_bytes.proofs.Written.{words_word_step, written_words_whole}
use Rattle.ir_thread_bytes.proofs.freezing.put_registers.Goals as goal

pub loop-n-preserved : goal.loop-n-preserved
loop-n-preserved c =
    let words = kept_registers c.args.live.now c.args.mach.now in
    let count = kept_registers_count c.args.live.now c.args.mach.now in
    let less = c.loop-n-test.true in
    words_word_step words c.loop-n.out.items c.put_word-in-loop-n.new.out.items _ c.loop-n.n c.kept.result
    (omega (arith, count, less)) (c.kept.ensures ∙ sym (kept_register_at c.args.live.now c.args.mach.now c.loop-n.n less))
    c.in_ok-put_word-2.ensures c.loop-n.invariant

pub returns : goal.returns
returns c =
    let count = kept_registers_count c.args.live.now c.args.mach.now in
    let past = c.loop-n-test.false in
    written_words_whole (kept_registers c.args.live.now c.args.mach.now) c.loop-n.out.items _ c.loop-n.n
    (omega (arith, count, past)) c.loop-n.invariant
