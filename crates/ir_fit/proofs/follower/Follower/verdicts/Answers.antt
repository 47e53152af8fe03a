use Rattle.std.proofs.Common.{◌≡◌, [], ◌∷◌, length, Some, slice_get, sym, ap, ◌∙◌, subst, arith, inl, inr, length-append}
use Rattle.ir_lemmas.proofs.CallerLemmas.{slice_get-push_cases}
use Rattle.ir_flat.specs.Flat.{start_flat, tables, machine}
use Rattle.ir_trace.specs.Recorded.{trace_of}
use Rattle.ir_runs.specs.Standing.{StandsAs}
use Rattle.ir_fit.proofs.follower.Follower.verdicts.Goals as goal

pub loop-t-preserved : goal.loop-t-preserved
loop-t-preserved c = record {
  size = ap (λ xs. length xs) c.in_ok-push.ensures.items
      ∙ (let long = length-append c.loop-t.verdicts.items (c.verdict.result ∷ []) in let size = c.loop-t.invariant.size in
      omega (arith, long, size));
  stand = λ guest k t v h. elim (slice_get-push_cases c.loop-t.verdicts.items c.verdict.result t v
      (subst (λ xs. slice_get xs t ≡ Some v) c.in_ok-push.ensures.items h)) [
        | inl g ↦ c.loop-t.invariant.stand guest k t v g
        | inr e ↦
            let m = machine (start_flat guest c.args.self.now.trace.budget c.args.self.now.trace.profile) in
            let s = tables (start_flat guest c.args.self.now.trace.budget c.args.self.now.trace.profile) in
            subst (StandsAs m s (trace_of c.args.self.now.trace) k.run t) e.1
            (subst (λ u. StandsAs m s (trace_of c.args.self.now.trace) k.run u c.verdict.result) (sym (e.0 ∙ c.loop-t.invariant.size))
            (c.verdict.ensures guest k))
      ];
}
