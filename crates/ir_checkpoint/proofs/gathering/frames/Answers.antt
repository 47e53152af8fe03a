use Rattle.std.proofs.Common.{◌≡◌, [], ◌∷◌, ◌++◌, ap, sym, ◌∙◌, subst}
use Rattle.std.proofs.lemmas.List.{map_more}
use Rattle.std.proofs.lemmas.List.Elements.{All-more}
use Rattle.ir_thread.specs.Frames.{frame_of}
use Rattle.ir_checkpoint.specs.Gathered.{HasMemory}
use Rattle.ir_checkpoint.proofs.gathering.frames.Goals as goal

pub loop-thread-preserved : goal.loop-thread-preserved
loop-thread-preserved c =
    let threads = c.args.threads.now in
    let i = c.loop-thread.thread-index in
    let d = c.thread-item.result in
    let one : c.in_ok-frame.field-0 ≡ frame_of d = c.in_ok-frame.ensures.value in
    record {
      made =
          c.in_ok-push.ensures.items ∙ (λ j. c.loop-thread.invariant.made j ++ (one ∙ ap frame_of c.thread-item.is) j ∷ [])
          ∙ sym (map_more frame_of threads i d c.loop-thread-test.true);
      memories =
          All-more HasMemory threads i d c.loop-thread-test.true c.loop-thread.invariant.memories
          (subst HasMemory c.thread-item.is c.in_ok-frame.ensures.memory);
    }
