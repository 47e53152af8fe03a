-- States with one outcome.
use Rattle.std.proofs.Common.{◌≡◌, ℕ, inr, ap, subst}
use Rattle.ir_runs.specs.Machine.{Done}
use Rattle.ir_runs.specs.Run.{IsDone}
use Rattle.ir_flat.specs.Flat.{Flat, machine, tables, thread_of}
use Rattle.ir_likeness.specs.Seen.{Same, view}
use Rattle.ir_likeness.proofs.CallerLemmas.{look_same, seen_machine_is_view}
use Rattle.ir_world.specs.Sources.{given}
use Rattle.ir_state_store.specs.Nodes.{SourcedFlat, source_of}
use Rattle.ir_thread.specs.State.{ask_of, shared_ask}
use Rattle.ir_graph.specs.Nodes.{LookAlike}
use Rattle.ir_graph.specs.Outcomes.{run_outcome}
use Rattle.ir_graph.specs.Plain.{LooksAlike}

-- states with one outcome, in both of which all threads are done, look the same
pub one_outcome_looks_alike : (s u : SourcedFlat) → LooksAlike s.flat u.flat → IsDone (machine s.flat) (tables s.flat)
    → IsDone (machine u.flat) (tables u.flat) → run_outcome (tables s.flat) ≡ run_outcome (tables u.flat) → LookAlike s u
one_outcome_looks_alike s u like done also same = record {
  threads = threads;
  inside = λ o t. (look_same s.flat.code given).holds (view (thread_of s.flat t), source_of s t) (view (thread_of u.flat t), source_of u t) (threads t) o;
  words = λ o. ap (λ z. z.words o) same;
}
  where
    view_done : (f : Flat) → IsDone (machine f) (tables f) → (t : ℕ) → shared_ask (ask_of f.code (view (thread_of f t))) ≡ Done
    view_done f all t = ((seen_machine_is_view f.code).done (thread_of f t)).0 (all t)

    threads : (t : ℕ) → Same s.flat.code (view (thread_of s.flat t), source_of s t) (view (thread_of u.flat t), source_of u t)
    threads t = inr (inr (
      view_done s.flat done t,
      subst (λ c. shared_ask (ask_of c (view (thread_of u.flat t))) ≡ Done) like.code (view_done u.flat also t),
      ap (λ z. z.ends t) same,
      ap (λ z. z.outputs t) same,
    ))
