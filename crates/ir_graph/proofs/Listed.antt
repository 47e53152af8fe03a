-- What a search over a guest's graph has listed.
use Rattle.std.proofs.Common.{◌≡◌, ℕ, ◌<◌, ◌≤◌, Bool, Some, None, List, [], inl, inr, length, get_or, refl, sym, ap, ◌∙◌, subst, arith}
use Rattle.std.specs.Prelude.{slice_get}
use Rattle.std.proofs.lemmas.Bool.{cases_lt}
use Rattle.std.proofs.lemmas.Option.{slice_get-get_or}
use Rattle.ir_search.specs.declared.origin.Origin.{Origin}
use Rattle.ir_search.specs.declared.origin.Refusal.{Refusal}
use Rattle.ir_search.specs.Following.{BothWays}
use Rattle.ir_search.specs.Levels.{AreAsked, Covered}
use Rattle.ir_search.specs.Meaning.{Means, Steps}
use Rattle.ir_search.specs.Origins.{first_origin, AreReached}
use Rattle.ir_search.proofs.CallerLemmas.{asked_finished, covered_covers, slice_get_some_below}
use Rattle.ir_runs.specs.Machine as machines
use Rattle.ir_runs.specs.Run as run
use Rattle.ir_runs.specs.Run.{Step, act, Can}
use Rattle.ir_search_laws.specs.Counting.{IsAtRest}
use Rattle.ir_search_laws.specs.Nodes.{LeadsToNode}
use Rattle.ir_search_laws.specs.Orders.{is_refusal}
use Rattle.ir_search_laws.specs.Outcomes.{IsFinished, Covers}
use Rattle.ir_search_laws.specs.Sources.{plain_source}
use Rattle.ir_thread.specs.State.{ThreadState, thread_machine}
use Rattle.ir_world.specs.Sources.{Source, given}
use Rattle.ir_likeness.specs.Seen.{seen_start}
use Rattle.ir_likeness.proofs.CallerLemmas.{seen_machine_is_view, guest_all, guest_outcome_of_done}
use Rattle.ir_flat.specs.Flat.{machine, tables, thread_of}
use Rattle.ir_state_store.specs.Nodes.{SourcedFlat}
use Rattle.ir_graph.specs.Setup.{Setup, setup_start, first_source}
use Rattle.ir_graph.specs.Graph.{IsGraph}
use Rattle.ir_graph.specs.Nodes.{seen_by, answered_by, Alike, seen_of, HasStepBy, IsStepBy}
use Rattle.ir_graph.specs.Outcomes.{run_outcome, AllListed, WithinListed, AllShown}
use Rattle.ir_graph.proofs.Grown.{node_thread_count}
use Rattle.ir_graph.proofs.Reached.{done_run_is_counted, reached_tables_are_end}
use Rattle.ir_graph.proofs.Leads.{past_threads_ask_done, seen_is_at_rest, no_seen_step_if_done}

abbrev pub empty_state : SourcedFlat
empty_state = record { flat = record { code = []; threads = []; objects = [] }; sources = [] }

-- states that look the same have one outcome
pub alike_same_outcomes : (code : List ℕ) (u v : run.State (ThreadState × Source)) → Alike code u v → run_outcome (plain_source u) ≡ run_outcome (plain_source v)
alike_same_outcomes code u v alike = λ i. record {
  ends = λ t. end_at t i;
  outputs = λ t. output_at t i;
  words = λ o. alike.words o i;
}
  where
    end_at : (t : ℕ) → (u.now t).0.ended ≡ (v.now t).0.ended
    end_at t = elim (alike.threads t) [
      | inl e ↦ ap (λ z. z.0.ended) e
      | inr (inl d) ↦ ap (λ z. z.ended) d.0.rest
      | inr (inr d) ↦ d.2
    ]

    output_at : (t : ℕ) → (u.now t).0.output ≡ (v.now t).0.output
    output_at t = elim (alike.threads t) [
      | inl e ↦ ap (λ z. z.0.output) e
      | inr (inl d) ↦ ap (λ z. z.output) d.0.rest
      | inr (inr d) ↦ d.3
    ]

module _ (x : Setup) (flats : List SourcedFlat) (noted : ℕ → BothWays) (threads : ℕ)
    (g : IsGraph x flats noted threads) where
  abbrev pub flat_of : ℕ → SourcedFlat
  flat_of v = get_or flats v empty_state

  abbrev pub state_of : ℕ → run.State (ThreadState × Source)
  state_of v = seen_of (flat_of v)

  pub at : (v : ℕ) → v < length flats → slice_get flats v ≡ Some (flat_of v)
  at v l = slice_get-get_or flats v empty_state l

  pub code_at : (v : ℕ) → v < length flats → (flat_of v).flat.code ≡ x.guest.code
  code_at v l = (g.nodes.like 0 v (flat_of 0) (flat_of v) (at 0 g.some) (at v l)).code ∙ g.code (flat_of 0) (at 0 g.some)

  -- a number that is no thread's has no step
  never : (v t : ℕ) → v < length flats → threads ≤ t → (e : Step) → e.0 ≡ t → Can (seen_by x.guest.code) (state_of v) e → ⊥
  never v t l many e same =
      subst (λ z. Can (seen_by z) (state_of v) e → ⊥) (code_at v l)
      (no_seen_step_if_done (flat_of v) t
      (past_threads_ask_done (flat_of v).flat t (let a = node_thread_count x flats noted threads v (flat_of v) g (at v l) in omega (arith, a, many))) e same)

  leads_at : (t : ℕ) (refused : Bool) (v w : ℕ) → v < length flats → t < threads → noted t refused v ≡ Some (Some w)
      → HasStepBy (flat_of v) t refused × ((e : Step) → e.0 ≡ t → IsStepBy (flat_of v) refused e
      → Can (seen_by (flat_of v).flat.code) (state_of v) e
      → LeadsToNode (seen_by (flat_of v).flat.code) (answered_by (flat_of v).flat.code) (Alike (flat_of v).flat.code) (state_of v) e (state_of w))
  leads_at t refused v w l few is =
      g.leads t refused v (Some w) few is (flat_of v) (flat_of w) (at v l) (at w (g.within t refused v w few is))

  pub graph_means : Means (seen_by x.guest.code) (answered_by x.guest.code) (Alike x.guest.code) (seen_start x.guest x.profile (first_source x)) state_of noted threads
      (length flats)
  graph_means = record {
    begins = g.begins (flat_of 0) (at 0 g.some);
    at_rest = λ v l. subst (λ z. IsAtRest (seen_by z) (state_of v)) (code_at v l)
        (seen_is_at_rest (flat_of v) (g.nodes.rest v (flat_of v) (at v l)));
    idle = λ v l e many. never v e.0 l many e refl;
    stays = λ t refused v l is e same. elim (cases_lt t threads) [
      | inl few ↦
          subst (λ z. is_refusal (act (seen_by z) (state_of v) e) ≡ refused → Can (seen_by z) (state_of v) e → ⊥) (code_at v l)
          (g.leads t refused v None few is (flat_of v) (at v l) e same)
      | inr many ↦ λ by. never v t l many e same
    ];
    can = λ t refused v w l is. elim (cases_lt t threads) [
      | inl few ↦
          subst (λ z. (r : ℕ) × Can (seen_by z) (state_of v) (t, r) × (is_refusal (act (seen_by z) (state_of v) (t, r)) ≡ refused)) (code_at v l)
          (leads_at t refused v w l few is).0
      | inr many ↦ absurd (cc (sym (g.past t refused v many) ∙ is))
    ];
    leads = λ t refused v w l is e same. elim (cases_lt t threads) [
      | inl few ↦
          subst (λ z. is_refusal (act (seen_by z) (state_of v) e) ≡ refused → Can (seen_by z) (state_of v) e
          → LeadsToNode (seen_by z) (answered_by z) (Alike z) (state_of v) e (state_of w)) (code_at v l) ((leads_at t refused v w l few is).1 e same)
      | inr many ↦ λ by can. absurd (cc (sym (g.past t refused v many) ∙ is))
    ];
  }

  -- a node where all are done, as the search sees them, is one where all are done
  pub really_done : (v : ℕ) → v < length flats → run.IsDone (seen_by x.guest.code) (state_of v) → run.IsDone (machine (flat_of v).flat) (tables (flat_of v).flat)
  really_done v l done t =
      subst (λ z. run.asked (seen_by z) (state_of v) t ≡ machines.Done → run.asked (machine (flat_of v).flat) (tables (flat_of v).flat) t ≡ machines.Done)
      (code_at v l) ((seen_machine_is_view (flat_of v).flat.code).done (thread_of (flat_of v).flat t)).1 (done t)

  -- and the other way round
  pub seen_done : (v : ℕ) → v < length flats → run.IsDone (machine (flat_of v).flat) (tables (flat_of v).flat) → run.IsDone (seen_by x.guest.code) (state_of v)
  seen_done v l done t =
      subst (λ z. run.asked (machine (flat_of v).flat) (tables (flat_of v).flat) t ≡ machines.Done → run.asked (seen_by z) (state_of v) t ≡ machines.Done)
      (code_at v l) ((seen_machine_is_view (flat_of v).flat.code).done (thread_of (flat_of v).flat t)).0 (done t)

pub all_listed_if_all_asked : (x : Setup) (flats : List SourcedFlat) (noted : ℕ → BothWays) (threads : ℕ) → IsGraph x flats noted threads
    → (origins : List Origin) (refusals : List Refusal) → AreReached noted refusals origins
    → length origins ≡ length flats → AreAsked noted threads (length flats) → AllListed x flats
all_listed_if_all_asked x flats noted threads g origins refusals reached all asked budget steps counted =
    let means = graph_means x flats noted threads g in
    let f : IsFinished (seen_by x.guest.code) (answered_by x.guest.code) (Alike x.guest.code) (seen_start x.guest x.profile (first_source x))
    (state_of x flats noted threads g) (λ v. v < length flats)
    (Steps (seen_by x.guest.code) (state_of x flats noted threads g) noted (length flats)) 0 =
    asked_finished (seen_by x.guest.code) (answered_by x.guest.code) (Alike x.guest.code) (seen_start x.guest x.profile (first_source x))
    (state_of x flats noted threads g) noted threads (length flats) means origins refusals reached all g.some asked in
    let r = guest_all x.guest x.profile given (first_source x) (state_of x flats noted threads g) (λ v. v < length flats)
    (Steps (seen_by x.guest.code) (state_of x flats noted threads g) noted (length flats)) 0 f run_outcome
    (alike_same_outcomes x.guest.code) budget steps counted in (
      r.0,
      flat_of x flats noted threads g r.0,
      (
        at x flats noted threads g r.0 r.1,
        really_done x flats noted threads g r.0 r.1 r.2,
        r.3,
      ),
    )

pub covered_within_listed : (x : Setup) (flats : List SourcedFlat) (noted : ℕ → BothWays) (threads : ℕ) → IsGraph x flats noted threads
    → (origins : List Origin) → slice_get origins 0 ≡ Some first_origin
    → length origins ≤ length flats → (c : ℕ) → Covered noted threads origins c → WithinListed x flats origins c
covered_within_listed x flats noted threads g origins first few c covered budget steps counted less =
    let means = graph_means x flats noted threads g in
    let covers : Covers (seen_by x.guest.code) (answered_by x.guest.code) (Alike x.guest.code) (seen_start x.guest x.profile (first_source x))
    (state_of x flats noted threads g) _ 0 c =
    covered_covers (seen_by x.guest.code) (answered_by x.guest.code) (Alike x.guest.code) (seen_start x.guest x.profile (first_source x))
    (state_of x flats noted threads g) noted threads (length flats) means origins c covered first few in
    let r = guest_outcome_of_done x.guest x.profile given (first_source x) (state_of x flats noted threads g) _ 0 c covers run_outcome
    (alike_same_outcomes x.guest.code) budget steps counted less in
    let v = r.2 in
    let n = r.4.1 in
    let l : v < length flats = (let a = slice_get_some_below origins v n.0 n.1 in omega (arith, a, few)) in (
      v,
      flat_of x flats noted threads g v,
      n.0,
      (
        at x flats noted threads g v l,
        really_done x flats noted threads g v l r.5,
        r.6,
      ),
      n.1,
      let a = n.2 in let b = r.3 in omega (arith, a, b),
    )

-- a listed state where all are done is where a complete run ends
pub all_shown_by_graph : (x : Setup) (flats : List SourcedFlat) (noted : ℕ → BothWays) (threads : ℕ) → IsGraph x flats noted threads
    → AllShown x flats
all_shown_by_graph x flats noted threads g v s at done =
    let r = g.reached v s at in
    let ends : tables s.flat ≡ run.end (thread_machine x.guest.code) (tables (setup_start x).flat) r.steps = reached_tables_are_end x s r in
    let really : run.IsDone (thread_machine x.guest.code) (run.end (thread_machine x.guest.code) (tables (setup_start x).flat) r.steps) =
    subst (run.IsDone (thread_machine x.guest.code)) ends (subst (λ z. run.IsDone (thread_machine z) (tables s.flat)) r.like.code done) in
    (r.steps, done_run_is_counted x r.steps r.answered really, (at, done, ap run_outcome ends))
