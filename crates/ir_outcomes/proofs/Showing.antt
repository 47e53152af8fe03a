-- A run by turns that shows an outcome.
use Rattle.std.proofs.Common.{◌≡◌, ℕ, suc, ◌-◌, ◌≤◌, List, length, map, sym, ap, ◌∙◌, subst, arith}
use Rattle.std.proofs.lemmas.List.{append-nil}
use Rattle.ir_search.specs.declared.origin.Origin.{Origin}
use Rattle.ir_search.specs.declared.origin.Refusal.{Refusal}
use Rattle.ir_record.specs.Refusing.{Turn, InTurns}
use Rattle.ir_runs.specs.Run.{IsDone, end}
use Rattle.ir_world.specs.Sources.{given}
use Rattle.ir_search_laws.specs.Outcomes.{switches}
use Rattle.ir_search_laws.specs.Sources.{plain_source}
use Rattle.ir_search_laws.proofs.CallerLemmas.{plain_end, sourced_entering}
use Rattle.ir_thread.specs.State.{most_budget, thread_machine}
use Rattle.ir_flat.specs.Flat.{machine, start_flat, tables}
use Rattle.ir_state_store.specs.Nodes.{SourcedFlat}
use Rattle.ir_graph.specs.Outcomes.{run_outcome}
use Rattle.ir_graph.specs.Plain.{full_by}
use Rattle.ir_graph.specs.Reached.{beginning}
use Rattle.ir_graph.specs.Setup.{Setup}
use Rattle.ir_graph.proofs.CallerLemmas.{done_run_is_counted, plain_turns_as_sourced, ways_taken_threads}
use Rattle.ir_outcomes.specs.Again.{IsAgainBy}
use Rattle.ir_outcomes.specs.Shown.{switches_by, IsShown}
use Rattle.ir_outcomes.proofs.Again.{path_switches_below}

module _ (setup : Setup) (turns : List Turn) (table : List Refusal) (path : List Origin) (u : SourcedFlat) (w : IsAgainBy setup turns table path u) where
  -- the threads after a run again, and how often the thread that enters or tries is switched in it
  pub threads_again : tables u.flat ≡ end (thread_machine setup.guest.code) (tables (start_flat setup.guest most_budget setup.profile)) w.again.steps
  threads_again = ap plain_source w.again.ends ∙ plain_end (thread_machine setup.guest.code) given (beginning setup) w.again.steps

  pub switches_again : switches_by setup most_budget w.again.steps ≤ length path - 1
  switches_again =
      let same : switches (map (λ z. z.0) w.ways) ≡ switches_by setup most_budget w.again.steps =
      ap (λ z. switches (map (λ x. x.0) z)) (sym w.again.goes)
      ∙ ap switches (ways_taken_threads (full_by setup.guest.code) (beginning setup) w.again.steps
      ∙ sourced_entering (thread_machine setup.guest.code) given (beginning setup) w.again.steps) in
      subst (λ n. n ≤ length path - 1) same (path_switches_below table path w.ways w.back)

  pub shown_if_again : (level : ℕ) (s : SourcedFlat) → length path ≤ suc level → IsDone (machine u.flat) (tables u.flat)
      → run_outcome (tables u.flat) ≡ run_outcome (tables s.flat) → IsShown setup s level turns
  shown_if_again level s few done same =
      let a = w.again in
      let code = setup.guest.code in
      let first = tables (start_flat setup.guest most_budget setup.profile) in
      let really : IsDone (thread_machine code) (end (thread_machine code) first a.steps) =
      subst (IsDone (thread_machine code)) threads_again (subst (λ z. IsDone (thread_machine z) (tables u.flat)) a.like.code done) in record {
        steps = a.steps;
        counted = done_run_is_counted setup a.steps a.answered really;
        by_turns = record {
          count = 0;
          in_turns = subst (λ z. InTurns (thread_machine code) first z a.steps) (sym (append-nil turns))
              (plain_turns_as_sourced (thread_machine code) given (beginning setup) turns a.steps a.in_turns);
          done = really;
        };
        taken = a.taken;
        same = ap run_outcome (sym threads_again) ∙ same;
        few = let l = switches_again in omega (arith, l, few);
      }
