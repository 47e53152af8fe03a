use Rattle.std.proofs.Common.{◌∙◌, inl, inr, sym, subst, arith}
use Rattle.std.proofs.lemmas.List.{length_push}
use Rattle.ir_lemmas.proofs.CallerLemmas.{slice_get-push_cases}
use Rattle.ir_holds.specs.Held.{IsHeldEnd}
use Rattle.ir_holds.proofs.holding.thread_ends.Goals as goal

pub loop-thread-preserved : goal.loop-thread-preserved
loop-thread-preserved c =
    let size = c.loop-thread.invariant.size in
    rw c.in_ok-push.ensures.items (record {
      size = length_push c.loop-thread.ends.items c.thread_end.result ∙ omega (arith, size);
      each = λ boxes spans holds t p at. elim (slice_get-push_cases c.loop-thread.ends.items c.thread_end.result t p at) [
        | inl old ↦ c.loop-thread.invariant.each boxes spans holds t p old
        | inr last ↦ subst (λ q. IsHeldEnd c.args.trace.now boxes spans t q) last.1
            (subst (λ k. IsHeldEnd c.args.trace.now boxes spans k c.thread_end.result) (sym (last.0 ∙ size)) (c.thread_end.ensures boxes spans holds))
      ];
    })
