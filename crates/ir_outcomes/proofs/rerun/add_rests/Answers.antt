use Rattle.std.proofs.Common.{refl, inl, inr, sym, subst, arith, ◌∙◌}
use Rattle.std.proofs.lemmas.Bool.{cases_eq}
use Rattle.ir_thread.specs.State.{ask_of}
use Rattle.ir_flat.specs.Flat.{thread_of}
use Rattle.ir_graph.specs.Plain.{GoesPlain, Rests}
use Rattle.ir_graph.proofs.CallerLemmas.{goes_plain_reflexive, goes_plain_transitive}
use Rattle.ir_outcomes.proofs.rerun.add_rests.Goals as goal

pub loop-thread-init : goal.loop-thread-init
loop-thread-init c = record {
  again = λ setup ways again. again;
  goes = goes_plain_reflexive c.args.state.now;
  rest = λ t less. absurd (omega (arith, less));
  threads = refl;
  sources = refl;
}

pub loop-thread-preserved : goal.loop-thread-preserved
loop-thread-preserved c =
    let s = c.loop-thread.state in
    let u = c.add_rest.new.state in
    let goes = c.add_rest.ensures.goes in record {
      again = λ setup ways again. c.in_default.ensures.again setup ways (c.loop-thread.invariant.again setup ways again);
      goes = goes_plain_transitive c.args.state.now s u c.loop-thread.invariant.goes goes;
      rest = λ t less. elim (cases_eq t c.loop-thread.thread) [
        | inl same ↦ subst (λ z. Rests (ask_of u.flat.code (thread_of u.flat z))) (sym same) c.in_default.ensures.rests
        | inr other ↦
            subst (λ z. Rests (ask_of z (thread_of u.flat t))) (sym goes.code)
            (subst (λ z. Rests (ask_of s.flat.code z)) (sym (c.add_rest.ensures.others.threads t other))
            (c.loop-thread.invariant.rest t (omega (arith, less, other))))
      ];
      threads = goes.threads ∙ c.loop-thread.invariant.threads;
      sources = goes.sources ∙ c.loop-thread.invariant.sources;
    }

pub returns-in-Err-clause-goes : goal.returns-in-Err-clause-goes
returns-in-Err-clause-goes c =
    goes_plain_transitive c.args.state.now c.loop-thread.state c.add_rest.new.state c.loop-thread.invariant.goes c.add_rest.ensures.goes

pub returns-in-Err-clause-fails : goal.returns-in-Err-clause-fails
returns-in-Err-clause-fails c = λ setup is.
    c.in-Err.ensures.fails setup (subst (λ z. GoesPlain z c.loop-thread.state) is c.loop-thread.invariant.goes)
