-- A guest's runs, whatever the budget, and those of its view beside its sources.
use Rattle.std.proofs.Common.{◌≡◌, ◌↔◌, ℕ, List, sym, ap, ◌∙◌}
use Rattle.ir_runs.specs.Machine.{Machine}
use Rattle.ir_runs.specs.Lawful.{IsLawful}
use Rattle.ir_runs.proofs.CallerLemmas.{StateInvariant}
use Rattle.ir_runs.specs.Run.{State, Step, IsRun, end, IsDone, log}
use Rattle.ir_search_laws.specs.Counting.{RunCounts, entering}
use Rattle.ir_search_laws.specs.Nodes.{TellsNothing, Noted}
use Rattle.ir_search_laws.specs.Outcomes.{IsFinished}
use Rattle.ir_search_laws.specs.Sources.{Giving, answer_of, sourced, by_source, plain_source, Gives}
use Rattle.ir_search_laws.specs.Views.{IsView, Spoils, viewed, IsLiveRun, beside, IsUnspoilt}
use Rattle.ir_search_laws.proofs.Closed.{RunByEntries}
use Rattle.ir_search_laws.proofs.Finished.{done_from_alike, found, exact}
use Rattle.ir_search_laws.proofs.Sources.{plain_end, sourced_counts, sourced_entering, sourced_live}
use Rattle.ir_search_laws.proofs.Views.{sourced_view_is_view, viewed_end, viewed_entering, viewed_counts, unspoilt_run_is_live, stays_unspoilt_live}

module _ {T V S : Type 0} (m : Machine T) (w : Machine V) (view : T → V) (Live Spoilt : T → Type 0) (is : IsView m w view Live)
    (spoils : Spoils m Live Spoilt) (given : Giving S) where
  -- a guest as the search sees it: the views of its threads beside their sources
  abbrev pub seen : State T → (ℕ → S) → State (V × S)
  seen s sources = beside (viewed view s) sources

  seen_end : (s : State T) (sources : ℕ → S) (run : List Step) → IsLiveRun m Live s run
      → plain_source (end (sourced w given) (seen s sources) run) ≡ viewed view (end m s run)
  seen_end s sources run live =
      ap plain_source (viewed_end (sourced m given) (sourced w given) (λ x. (view x.0, x.1)) (λ x. Live x.0)
      (sourced_view_is_view m w view Live given is) (beside s sources) run (sourced_live m given Live (beside s sources) run live))
      ∙ ap (viewed view) (plain_end m given (beside s sources) run)

  seen_counts : (s : State T) (sources : ℕ → S) (run : List Step) → IsLiveRun m Live s run
      → (IsRun m s run × ((t : ℕ) → Gives given (sources t) (log m s run t)))
      ↔ RunCounts (sourced w given) (by_source w given) (seen s sources) run
  seen_counts s sources run live =
      let one = sourced_counts m given (beside s sources) run in
      let two = viewed_counts (sourced m given) (sourced w given) (λ x. (view x.0, x.1)) (λ x. Live x.0)
      (sourced_view_is_view m w view Live given is) (by_source m given) (by_source w given)
      (λ t x l. ap (λ q. answer_of given q x.1) (is.asks x.0 l)) (beside s sources) run
      (sourced_live m given Live (beside s sources) run live) in
      (λ h. two.0 (one.1 h), λ h. one.0 (two.1 h))

  seen_done : (s : State T) (sources : ℕ → S) (run : List Step) → IsLiveRun m Live s run
      → IsDone m (end m s run) ↔ IsDone (sourced w given) (end (sourced w given) (seen s sources) run)
  seen_done s sources run live =
      let p = seen_end s sources run live in (
        λ h t. ap (λ z. w.ask (z.now t)) p ∙ (is.done ((end m s run).now t)).0 (h t),
        λ h t. (is.done ((end m s run).now t)).1 (sym (ap (λ z. w.ask (z.now t)) p) ∙ h t),
      )

  -- a complete run whose logs the sources answer and that spoils no thread is one of the search's, with the views of its end
  pub real_seen : (s : State T) (sources : ℕ → S) (run : List Step) → IsRun m s run
      → ((t : ℕ) → Gives given (sources t) (log m s run t)) → IsDone m (end m s run) → IsUnspoilt Spoilt (end m s run)
      → RunCounts (sourced w given) (by_source w given) (seen s sources) run
      × IsDone (sourced w given) (end (sourced w given) (seen s sources) run)
      × (plain_source (end (sourced w given) (seen s sources) run) ≡ viewed view (end m s run))
      × (entering (sourced w given) (seen s sources) run ≡ entering m s run)
  real_seen s sources run ok gives done none =
      let live = unspoilt_run_is_live m Live Spoilt spoils s run none in (
        (seen_counts s sources run live).0 (ok, gives),
        (seen_done s sources run live).0 done,
        seen_end s sources run live,
        viewed_entering (sourced m given) (sourced w given) (λ x. (view x.0, x.1)) (λ x. Live x.0)
            (sourced_view_is_view m w view Live given is) (beside s sources) run (sourced_live m given Live (beside s sources) run live)
            ∙ sourced_entering m given (beside s sources) run,
      )

  -- a complete run of the search's is the guest's, where its threads are live all along
  pub seen_real : (s : State T) (sources : ℕ → S) (run : List Step) → IsUnspoilt Spoilt s → IsLiveRun m Live s run
      → RunCounts (sourced w given) (by_source w given) (seen s sources) run
      → IsDone (sourced w given) (end (sourced w given) (seen s sources) run)
      → IsRun m s run × ((t : ℕ) → Gives given (sources t) (log m s run t)) × IsDone m (end m s run)
      × IsUnspoilt Spoilt (end m s run)
      × (plain_source (end (sourced w given) (seen s sources) run) ≡ viewed view (end m s run))
  seen_real s sources run unspoilt live counts done =
      let h = (seen_counts s sources run live).1 counts in (
        h.0,
        h.1,
        (seen_done s sources run live).1 done,
        stays_unspoilt_live m Live Spoilt spoils s run live unspoilt,
        seen_end s sources run live,
      )

  -- where the views hold what the threads hold, what holds of the guest holds of it so seen
  pub seen_good : ((x : T) (o : ℕ) → w.held (view x) o ≡ m.held x o) → (s : State T) (sources : ℕ → S) → StateInvariant m s
      → StateInvariant (sourced w given) (seen s sources)
  seen_good holds s sources good = record {
    linked = λ t o. good.linked t o ∙ sym (holds (s.now t) o);
    exclusive = good.exclusive;
  }

  module _ {K X : Type 0} (law : IsLawful (sourced w given)) (Alike : State (V × S) → State (V × S) → Type 0)
      (tells : TellsNothing (sourced w given) (by_source w given) Alike) (s : State T) (sources : ℕ → S)
      (good : StateInvariant (sourced w given) (seen s sources)) (state_of : K → State (V × S)) (Node : K → Type 0) (Next : Noted K) (first : K)
      (f : IsFinished (sourced w given) (by_source w given) Alike (seen s sources) state_of Node Next first)
      (outcome : State V → X) (same : (u v : State (V × S)) → Alike u v → outcome (plain_source u) ≡ outcome (plain_source v)) where
    -- what a complete run of the guest comes to, whose logs the sources answer and that spoils no thread, is what a done node comes to
    pub real_all : (run : List Step) → IsRun m s run → ((t : ℕ) → Gives given (sources t) (log m s run t)) → IsDone m (end m s run)
        → IsUnspoilt Spoilt (end m s run)
        → (v : K) × Node v × IsDone (sourced w given) (state_of v) × (outcome (plain_source (state_of v)) ≡ outcome (viewed view (end m s run)))
    real_all run ok gives done none =
        let r = real_seen s sources run ok gives done none in
        (exact (sourced w given) law (by_source w given) Alike tells (seen s sources) good state_of Node Next first f
        (λ u. outcome (plain_source u)) same (outcome (viewed view (end m s run)))).0 (run, r.0, r.1, ap outcome r.2)

    -- what a done node comes to is what a complete run of the guest comes to, where the run that leads to the node keeps its threads live
    pub real_shown : IsUnspoilt Spoilt s → (v : K) → Node v → IsDone (sourced w given) (state_of v)
        → (run : List Step) × (IsLiveRun m Live s run → IsRun m s run × ((t : ℕ) → Gives given (sources t) (log m s run t))
        × IsDone m (end m s run) × IsUnspoilt Spoilt (end m s run) × (outcome (viewed view (end m s run)) ≡ outcome (plain_source (state_of v))))
    real_shown unspoilt v is done =
        let r = f.reached v is in
        let k : RunByEntries (sourced w given) (by_source w given) Alike (seen s sources) r.0 (state_of v) =
        found (sourced w given) law (by_source w given) Alike tells (seen s sources) good state_of Node Next first f v r.0 r.1 in
        let ends : IsDone (sourced w given) (end (sourced w given) (seen s sources) k.run) =
        done_from_alike (sourced w given) (by_source w given) Alike tells (state_of v) (end (sourced w given) (seen s sources) k.run)
        (tells.backwards (end (sourced w given) (seen s sources) k.run) (state_of v) k.alike) done in (
          k.run,
          λ live.
              let h = seen_real s sources k.run unspoilt live k.counts ends in (
                h.0,
                h.1,
                h.2,
                h.3,
                ap outcome (sym h.4) ∙ same (end (sourced w given) (seen s sources) k.run) (state_of v) k.alike,
              ),
        )
