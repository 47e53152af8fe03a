use Rattle.ir_weave.proofs.Opening.{laid_push}
use Rattle.ir_weave.proofs.ends.lay.Goals as goal

pub loop-k-preserved : goal.loop-k-preserved
loop-k-preserved c = laid_push c.args.objects.now c.loop-k.words.items c.push.new.self.items c.loop-k.k c.word_at.result c.loop-k.invariant
    c.word_at.ensures.value c.word_at.ensures.small c.in_ok-push.ensures.items
