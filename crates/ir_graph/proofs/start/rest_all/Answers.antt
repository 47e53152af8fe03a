use Rattle.std.proofs.Common.{refl, inl, inr, sym, ◌∙◌, subst, arith}
use Rattle.std.proofs.lemmas.Bool.{cases_eq}
use Rattle.ir_thread.specs.State.{ask_of}
use Rattle.ir_flat.specs.Flat.{IsFlat, thread_of}
use Rattle.ir_state_store.specs.Nodes.{SourcedFlat}
use Rattle.ir_graph.specs.Plain.{Rests}
use Rattle.ir_graph.proofs.Plain.{goes_plain_reflexive, goes_plain_transitive}
use Rattle.ir_graph.proofs.Stops.{stop_after_plain_steps}
use Rattle.ir_graph.proofs.start.rest_all.Goals as goal

pub returns-in-Err-clause-goes : goal.returns-in-Err-clause-goes
returns-in-Err-clause-goes c =
    goes_plain_transitive c.args.state.now c.loop-thread.state c.run_to_rest.new.state c.loop-thread.invariant.goes c.run_to_rest.ensures.goes

pub loop-thread-init : goal.loop-thread-init
loop-thread-init c = record {
  goes = goes_plain_reflexive c.args.state.now;
  rest = λ t less. absurd (omega (arith, less));
  threads = refl;
  sources = refl;
  flat = subst (λ (z : SourcedFlat). IsFlat z.flat) c.state.view_is c.threads-thread-end.ensures.within;
}

pub loop-thread-preserved : goal.loop-thread-preserved
loop-thread-preserved c =
    let s = c.loop-thread.state in
    let u = c.run_to_rest.new.state in record {
      goes = goes_plain_transitive c.args.state.now s u c.loop-thread.invariant.goes c.run_to_rest.ensures.goes;
      rest = λ t less. elim (cases_eq t c.loop-thread.thread) [
        | inl same ↦ subst (λ z. Rests (ask_of u.flat.code (thread_of u.flat z))) (sym same) c.in_default.ensures.rests
        | inr other ↦
            subst (λ z. Rests (ask_of z (thread_of u.flat t))) (sym c.run_to_rest.ensures.goes.code)
            (subst (λ z. Rests (ask_of s.flat.code z)) (sym (c.run_to_rest.ensures.others.threads t other))
            (c.loop-thread.invariant.rest t (omega (arith, less, other))))
      ];
      threads = c.run_to_rest.ensures.goes.threads ∙ c.loop-thread.invariant.threads;
      sources = c.run_to_rest.ensures.goes.sources ∙ c.loop-thread.invariant.sources;
      flat = c.run_to_rest.ensures.flat;
    }

pub returns-in-Err-clause-stopped : goal.returns-in-Err-clause-stopped
returns-in-Err-clause-stopped c = λ x is.
    stop_after_plain_steps x c.args.limit c.loop-thread.thread c.in-Err.stop c.args.state.now c.loop-thread.state c.run_to_rest.new.state is
    c.loop-thread.invariant.goes c.run_to_rest.ensures.goes c.in-Err.ensures.stopped
