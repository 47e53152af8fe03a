-- A guest's threads beside their sources, step by step, and as a search sees them.
use Rattle.std.proofs.Common.{◌≡◌, ℕ, ◌<◌, List, [], ◌∷◌, ◌++◌, inl, inr, sym, ap, ◌∙◌, subst, length, set, get_or}
use Rattle.std.proofs.lemmas.Bool.{cases_eq}
use Rattle.std.proofs.lemmas.List.{get_or-set_same, get_or-set_other}
use Rattle.ir_runs.specs.Machine.{Machine, upd, target, reply, acted}
use Rattle.ir_runs.specs.Run.{State, Step, asked, act, after, end}
use Rattle.ir_runs.proofs.CallerLemmas.{upd_at_own_place, upd_at_other_place, upd_with_old_value}
use Rattle.ir_search_laws.specs.Counting.{RunCounts, is_own, GoesAhead, entering}
use Rattle.ir_search_laws.specs.Sources.{Giving, answer_of, left_of_source, sourced, plain_source}
use Rattle.ir_search_laws.specs.Views.{IsView, viewed, IsLiveRun, beside}
use Rattle.ir_search_laws.proofs.CallerLemmas.{ahead_run_counts, counts_append, goes_ahead_append, plain_end, sourced_view_is_view, viewed_end, viewed_entering, viewed_counts}
use Rattle.ir_thread.specs.State.{ThreadState, thread_machine}
use Rattle.ir_world.specs.Sources.{Source, given}
use Rattle.ir_likeness.specs.Seen.{view, seen_machine, IsLive}
use Rattle.ir_likeness.proofs.CallerLemmas.{seen_machine_is_view}
use Rattle.ir_flat.specs.Flat.{tables, machine}
use Rattle.ir_state_store.specs.Nodes.{SourcedFlat}
use Rattle.ir_state_store.specs.Table.{no_source}
use Rattle.ir_graph.specs.Nodes.{seen_by, answered_by}
use Rattle.ir_graph.specs.Plain.{full_by, sources_by, full_of, AreLive, IsAnsweredRun, IsPlainRun}

abbrev pub paired : {T S : Type 0} → (ℕ → T) → (ℕ → S) → ℕ → T × S
paired now sources u = (now u, sources u)

upd_of_paired_tables : {T S : Type 0} (now : ℕ → T) (sources : ℕ → S) (t : ℕ) (x : T) (a : S)
    → upd {A = T × S} (paired now sources) t (x, a) ≡ paired (upd now t x) (upd sources t a)
upd_of_paired_tables {T} {S} now sources t x a = λ i u. at u i
  where
    at : (u : ℕ) → upd {A = T × S} (paired now sources) t (x, a) u ≡ paired (upd now t x) (upd sources t a) u
    at u = elim (cases_eq u t) [
      | inl is ↦ subst (λ z. upd {A = T × S} (paired now sources) t (x, a) z ≡ paired (upd now t x) (upd sources t a) z) (sym is)
          (upd_at_own_place (paired now sources) t (x, a) ∙ (λ i. (sym (upd_at_own_place now t x) i, sym (upd_at_own_place sources t a) i)))
      | inr other ↦ upd_at_other_place (paired now sources) t u (x, a) other
          ∙ (λ i. (sym (upd_at_other_place now t u x other) i, sym (upd_at_other_place sources t u a other) i))
    ]

-- a step of a thread beside its source
pub sourced_step_beside : {T S : Type 0} (m : Machine T) (giving : Giving S) (s : State T) (sources : ℕ → S) (e : Step)
    → after (sourced m giving) (beside s sources) e ≡ beside (after m s e) (upd sources e.0 (left_of_source giving (asked m s e.0) (sources e.0)))
unfolding after
sourced_step_beside m giving s sources e = λ i. record {
  now = upd_of_paired_tables s.now sources e.0 (m.take (s.now e.0) (reply (act m s e) (s.objects (target (act m s e)))))
      (left_of_source giving (asked m s e.0) (sources e.0)) i;
  objects = upd s.objects (target (act m s e)) (acted (act m s e) e.0 (s.objects (target (act m s e))));
}

-- so it is where the step leaves its thread's source
pub sourced_step_same_sources : {T S : Type 0} (m : Machine T) (giving : Giving S) (s : State T) (sources : ℕ → S) (e : Step)
    → left_of_source giving (asked m s e.0) (sources e.0) ≡ sources e.0 → after (sourced m giving) (beside s sources) e ≡ beside (after m s e) sources
sourced_step_same_sources m giving s sources e same =
    sourced_step_beside m giving s sources e
    ∙ ap (beside (after m s e)) (upd_with_old_value sources e.0 (left_of_source giving (asked m s e.0) (sources e.0)) (sym same))

-- the sources, once one of them is another
pub source_set_is_upd : (sources : List Source) (t : ℕ) (a : Source) → t < length sources
    → (λ v. get_or (set sources t a) v no_source) ≡ upd (λ v. get_or sources v no_source) t a
source_set_is_upd sources t a less = λ i v. at v i
  where
    at : (v : ℕ) → get_or (set sources t a) v no_source ≡ upd (λ v. get_or sources v no_source) t a v
    at v = elim (cases_eq v t) [
      | inl is ↦ subst (λ z. get_or (set sources t a) z no_source ≡ upd (λ v. get_or sources v no_source) t a z) (sym is)
          (get_or-set_same sources t a no_source less ∙ sym (upd_at_own_place (λ v. get_or sources v no_source) t a))
      | inr other ↦ get_or-set_other sources t v a no_source other ∙ sym (upd_at_other_place (λ v. get_or sources v no_source) t v a other)
    ]

-- the threads and objects alone
pub tables_of_full_end : (s u : SourcedFlat) (run : List Step) → full_of u ≡ end (full_by s.flat.code) (full_of s) run
    → tables u.flat ≡ end (machine s.flat) (tables s.flat) run
tables_of_full_end s u run is = ap plain_source is ∙ plain_end (machine s.flat) given (full_of s) run

-- the threads as a search sees them are a view of them, beside their sources
pub seen_by_is_view : (code : List ℕ) → IsView (full_by code) (seen_by code) (λ x. (view x.0, x.1)) (λ x. IsLive code x.0)
seen_by_is_view code = sourced_view_is_view (thread_machine code) (seen_machine code) view (IsLive code) given (seen_machine_is_view code)

abbrev pub seen_state : State (ThreadState × Source) → State (ThreadState × Source)
seen_state s = viewed (λ x. (view x.0, x.1)) s

module _ (code : List ℕ) where
  -- a run of live threads comes to the view of its end
  pub end_of_live_run_seen : (s : State (ThreadState × Source)) (run : List Step) → AreLive code s run
      → end (seen_by code) (seen_state s) run ≡ seen_state (end (full_by code) s run)
  end_of_live_run_seen s run live =
      viewed_end (full_by code) (seen_by code) (λ x. (view x.0, x.1)) (λ x. IsLive code x.0) (seen_by_is_view code) s run live

  pub entering_of_live_run_seen : (s : State (ThreadState × Source)) (run : List Step) → AreLive code s run
      → entering (seen_by code) (seen_state s) run ≡ entering (full_by code) s run
  entering_of_live_run_seen s run live =
      viewed_entering (full_by code) (seen_by code) (λ x. (view x.0, x.1)) (λ x. IsLive code x.0) (seen_by_is_view code) s run live

  -- and counts where that does
  pub counts_of_live_run_seen : (s : State (ThreadState × Source)) (run : List Step) → AreLive code s run
      → RunCounts (full_by code) (sources_by code) s run → RunCounts (seen_by code) (answered_by code) (seen_state s) run
  counts_of_live_run_seen s run live =
      (viewed_counts (full_by code) (seen_by code) (λ x. (view x.0, x.1)) (λ x. IsLive code x.0) (seen_by_is_view code) (sources_by code)
      (answered_by code) (λ t x l. ap (λ q. answer_of given q x.1) ((seen_machine_is_view code).asks x.0 l)) s run live).0

  pub counts_if_seen : (s : State (ThreadState × Source)) (run : List Step) → AreLive code s run
      → RunCounts (seen_by code) (answered_by code) (seen_state s) run → RunCounts (full_by code) (sources_by code) s run
  counts_if_seen s run live =
      (viewed_counts (full_by code) (seen_by code) (λ x. (view x.0, x.1)) (λ x. IsLive code x.0) (seen_by_is_view code) (sources_by code)
      (answered_by code) (λ t x l. ap (λ q. answer_of given q x.1) ((seen_machine_is_view code).asks x.0 l)) s run live).1

  -- a run ahead is one as seen
  pub plain_run_seen : (s : State (ThreadState × Source)) (run : List Step) → IsPlainRun code s run
      → GoesAhead (seen_by code) (answered_by code) (seen_state s) run
  plain_run_seen s [] plain_source = tt
  plain_run_seen s (e ∷ run) ((own, takes, goes), (live, more)) =
      let one : after (seen_by code) (seen_state s) e ≡ seen_state (after (full_by code) s e) = end_of_live_run_seen s (e ∷ []) (live, tt) in
      let counts = counts_of_live_run_seen s (e ∷ []) (live, tt) (takes, tt) in (
        ap is_own ((seen_machine_is_view code).asks (s.now e.0).0 live) ∙ own,
        counts.0,
        subst (λ z. GoesAhead (seen_by code) (answered_by code) z run) (sym one) (plain_run_seen (after (full_by code) s e) run (goes, more)),
      )

  -- one run of live threads after the other
  pub live_run_append : (s : State (ThreadState × Source)) (run more : List Step) → AreLive code s run
      → AreLive code (end (full_by code) s run) more → AreLive code s (run ++ more)
  live_run_append s [] more live after_it = after_it
  live_run_append s (e ∷ run) more live after_it = (live.0, live_run_append (after (full_by code) s e) run more live.1 after_it)

  pub answered_run_append : (s : State (ThreadState × Source)) (run more : List Step) → IsAnsweredRun code s run
      → IsAnsweredRun code (end (full_by code) s run) more → IsAnsweredRun code s (run ++ more)
  answered_run_append s run more a b = (counts_append (full_by code) (sources_by code) s run more a.0 b.0, live_run_append s run more a.1 b.1)

  pub plain_run_append : (s : State (ThreadState × Source)) (run more : List Step) → IsPlainRun code s run
      → IsPlainRun code (end (full_by code) s run) more → IsPlainRun code s (run ++ more)
  plain_run_append s run more a b = (goes_ahead_append (full_by code) (sources_by code) s run more a.0 b.0, live_run_append s run more a.1 b.1)

  -- steps that concern no other thread are answered
  pub plain_run_is_answered : (s : State (ThreadState × Source)) (run : List Step) → IsPlainRun code s run → IsAnsweredRun code s run
  plain_run_is_answered s run plain_source = (ahead_run_counts (full_by code) (sources_by code) s run plain_source.0, plain_source.1)

  -- the threads alone are live too
  pub live_run_of_threads : (s : State (ThreadState × Source)) (run : List Step) → AreLive code s run
      → IsLiveRun (thread_machine code) (IsLive code) (plain_source s) run
  live_run_of_threads s [] live = tt
  live_run_of_threads s (e ∷ run) live = (
    live.0,
    subst (λ z. IsLiveRun (thread_machine code) (IsLive code) z run) (plain_end (thread_machine code) given s (e ∷ []))
        (live_run_of_threads (after (full_by code) s e) run live.1),
  )
