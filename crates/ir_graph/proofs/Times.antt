-- A search over a guest's graph knows whether some run of the guest answers a call for the time.
use Rattle.std.proofs.Common.{◌≡◌, ◌≢◌, ◌↔◌, ◌⊎◌, ℕ, ◌<◌, Bool, true, false, Some, List, [], ◌∷◌, length, inl, inr, refl, sym, ap, ◌∙◌, subst, arith}
use Rattle.std.proofs.lemmas.Bool.{cases_eq, cases_lt}
use Rattle.ir_search.specs.Following.{BothWays}
use Rattle.ir_search.specs.Levels.{AreAsked}
use Rattle.ir_runs.specs.Machine.{Machine, Done, Admits, act_of, target}
use Rattle.ir_runs.specs.Lawful.{IsLawful}
use Rattle.ir_runs.specs.Run.{State, Step, asked, act, Can, after, end, log}
use Rattle.ir_runs.proofs.CallerLemmas.{StateInvariant, upd_at_own_place, thread_after_other}
use Rattle.ir_search_laws.specs.Counting.{AnswersCall, is_own, RunCounts, GoesAhead, entering}
use Rattle.ir_search_laws.specs.Nodes.{LeadsToNode, Noted, IsClosed, Chain}
use Rattle.ir_search_laws.specs.Orders.{is_refusal}
use Rattle.ir_search_laws.specs.Sources.{left_of_source}
use Rattle.ir_search_laws.specs.Views.{beside}
use Rattle.ir_search_laws.proofs.CallerLemmas.{arrives_along_entries, equality_tells_nothing, ahead_from_alike, unspoilt_run_is_live, sourced_live, seen_good, sourced_is_lawful}
use Rattle.ir_thread.specs.State.{ThreadState, thread_machine}
use Rattle.ir_world.specs.Sources.{Source, given}
use Rattle.ir_flat.specs.Flat.{tables, start_flat}
use Rattle.ir_likeness.specs.Seen.{view, seen_machine, seen_start, IsLive, IsSpoilt}
use Rattle.ir_likeness.proofs.CallerLemmas.{seen_machine_is_lawful, seen_machine_is_view, live_or_next_spoils, start_view_any_budget, guest_invariant_start}
use Rattle.ir_state_store.specs.Nodes.{SourcedFlat, source_of}
use Rattle.ir_state_store.specs.Table.{HaveTicks}
use Rattle.ir_graph.specs.Graph.{IsGraph}
use Rattle.ir_graph.specs.Hangs.{IsCounting}
use Rattle.ir_graph.specs.Nodes.{seen_by, answered_by, Alike}
use Rattle.ir_graph.specs.Reached.{IsReached}
use Rattle.ir_graph.specs.Setup.{Setup, setup_start, first_source}
use Rattle.ir_graph.specs.Times.{HasTimedRun, IsTickless, AlikeTickless, KnowsTimes}
use Rattle.ir_graph.proofs.Full.{end_of_live_run_seen}
use Rattle.ir_graph.proofs.Hangs.{answered_is_counting, counting_as_seen, alike_tells_nothing}
use Rattle.ir_graph.proofs.Listed.{flat_of, state_of, at, code_at, graph_means}
use Rattle.ir_graph.proofs.Ticks.{left_after, ticks_rise_with_time, risen_ticks_have_time, source_left_after_log, ticks_never_fall_in_run, first_source_no_ticks}

-- a run leads to a state where some call for the time was answered
pub ticks_have_timed_run : (x : Setup) (s : SourcedFlat) → IsReached x s → HaveTicks s.sources → HasTimedRun x
ticks_have_timed_run x s reached ticks =
    let t = ticks.0 in
    let es = log (thread_machine x.guest.code) (tables (setup_start x).flat) reached.steps t in
    let left : source_of s t ≡ left_after (first_source x t) es =
    ap (λ (z : State (ThreadState × Source)). (z.now t).1) reached.ends
    ∙ source_left_after_log (thread_machine x.guest.code) (tables (setup_start x).flat) (first_source x) reached.steps t in (
      _,
      reached.steps,
      answered_is_counting x reached.steps reached.answered,
      (t, risen_ticks_have_time (first_source x t) es (first_source_no_ticks x t) (subst (λ (z : Source). 0 < z.ticks) left ticks.1)),
    )

-- what the threads' sources are after a run that counts, as the search sees it
seen_source_after_log : (x : Setup) (budget : ℕ) (steps : List Step) → IsCounting x budget steps → (t : ℕ)
    → ((end (seen_by x.guest.code) (seen_start x.guest x.profile (first_source x)) steps).now t).1
    ≡ left_after (first_source x t) (log (thread_machine x.guest.code) (tables (start_flat x.guest budget x.profile)) steps t)
seen_source_after_log x budget steps c t =
    let m = thread_machine x.guest.code in
    let s : State ThreadState = tables (start_flat x.guest budget x.profile) in
    let full : State (ThreadState × Source) = beside s (first_source x) in
    let live = sourced_live m given (IsLive x.guest.code) full steps
    (unspoilt_run_is_live m (IsLive x.guest.code) (IsSpoilt x.guest.code) (live_or_next_spoils x.guest.code) s steps c.unspoilt) in
    ap (λ z. ((end (seen_by x.guest.code) (beside z (first_source x)) steps).now t).1) (start_view_any_budget x.guest 1 budget x.profile)
    ∙ ap (λ (z : State (ThreadState × Source)). (z.now t).1) (end_of_live_run_seen x.guest.code full steps live)
    ∙ source_left_after_log m s (first_source x) steps t

module _ (code : List ℕ) where
  -- each thread's source is as it is there, or the thread is done and its source has answered no call for the time
  abbrev HasSourcesOf : State (ThreadState × Source) → State (ThreadState × Source) → Type 0
  HasSourcesOf a v = (u : ℕ) → ((a.now u).1 ≡ (v.now u).1) ⊎ ((asked (seen_by code) a u ≡ Done) × ((a.now u).1.ticks ≡ 0))

  has_sources_of_alike_state : (a v : State (ThreadState × Source)) → Alike code a v → IsTickless a → HasSourcesOf a v
  has_sources_of_alike_state a v alike none u = elim (alike.threads u) [
    | inl e ↦ inl (ap (λ z. z.1) e)
    | inr (inl d) ↦ inl d.1
    | inr (inr d) ↦ inr (d.0, none u)
  ]

  source_after_own_step : (s : State (ThreadState × Source)) (e : Step)
      → ((after (seen_by code) s e).now e.0).1 ≡ left_of_source given ((seen_machine code).ask (s.now e.0).0) (s.now e.0).1
  unfolding after
  source_after_own_step s e = ap (λ x. x.1) (upd_at_own_place s.now e.0 _)

  asked_of_step_is_not_done : (s : State (ThreadState × Source)) (e : Step) → Can (seen_by code) s e → asked (seen_by code) s e.0 ≢ Done
  asked_of_step_is_not_done s e can done =
      subst (λ q. Admits (seen_by code) (act_of q e.1) (s.objects (target (act_of q e.1)))) done can

  has_sources_of_after_step : (a v : State (ThreadState × Source)) → Alike code a v → HasSourcesOf a v → (e : Step) → Can (seen_by code) a e
      → HasSourcesOf (after (seen_by code) a e) (after (seen_by code) v e)
  has_sources_of_after_step a v alike has e can u = elim (cases_eq u e.0) [
    | inl is ↦ subst (λ z. (((after (seen_by code) a e).now z).1 ≡ ((after (seen_by code) v e).now z).1)
        ⊎ ((asked (seen_by code) (after (seen_by code) a e) z ≡ Done) × (((after (seen_by code) a e).now z).1.ticks ≡ 0))) (sym is) (elim (has e.0) [
          | inl same ↦ inl (source_after_own_step a e
              ∙ (λ i. left_of_source given ((alike_tells_nothing code).asks a v alike e.0 i) (same i))
              ∙ sym (source_after_own_step v e))
          | inr done ↦ absurd (asked_of_step_is_not_done a e can done.0)
        ])
    | inr other ↦
        let here = thread_after_other (seen_by code) a e u other in
        let there = thread_after_other (seen_by code) v e u other in elim (has u) [
          | inl same ↦ inl (ap (λ x. x.1) here ∙ same ∙ ap (λ x. x.1) (sym there))
          | inr done ↦ inr (
            ap (λ x. (seen_by code).ask x) here ∙ done.0,
            ap (λ (x : ThreadState × Source). x.1.ticks) here ∙ done.1,
          )
        ]
  ]

  has_sources_of_after_run : (a v : State (ThreadState × Source)) → Alike code a v → HasSourcesOf a v → (run : List Step)
      → GoesAhead (seen_by code) (answered_by code) v run → HasSourcesOf (end (seen_by code) a run) (end (seen_by code) v run)
  has_sources_of_after_run a v alike has [] goes = has
  has_sources_of_after_run a v alike has (e ∷ run) goes =
      let tells = alike_tells_nothing code in
      let can : Can (seen_by code) a e = tells.can v a (tells.backwards a v alike) e goes.1.0 in
      has_sources_of_after_run (after (seen_by code) a e) (after (seen_by code) v e) (tells.steps a v alike e can)
      (has_sources_of_after_step a v alike has e can) run goes.2

  tickless_if_sources_are : (a v : State (ThreadState × Source)) → HasSourcesOf a v → IsTickless v → IsTickless a
  tickless_if_sources_are a v has none u = elim (has u) [
    | inl same ↦ ap (λ (z : Source). z.ticks) same ∙ none u
    | inr done ↦ done.1
  ]

-- every thread may move
abbrev MovesAnywhere : Unit {0} → ℕ → Unit {0} → Type 0
MovesAnywhere i t j = Unit {0}

chain_of_any_moves : (ts : List ℕ) → Chain MovesAnywhere tt ts tt
chain_of_any_moves [] = refl
chain_of_any_moves (t ∷ ts) = (tt, tt, chain_of_any_moves ts)

module _ (x : Setup) (flats : List SourcedFlat) (noted : ℕ → BothWays) (threads : ℕ) (g : IsGraph x flats noted threads)
    (asked_all : AreAsked noted threads (length flats)) where
  abbrev m : Machine (ThreadState × Source)
  m = seen_by x.guest.code

  abbrev answers : AnswersCall (ThreadState × Source)
  answers = answered_by x.guest.code

  abbrev start : State (ThreadState × Source)
  start = seen_start x.guest x.profile (first_source x)

  abbrev state : ℕ → State (ThreadState × Source)
  state = state_of x flats noted threads g

  good : StateInvariant m start
  good = seen_good (thread_machine x.guest.code) (seen_machine x.guest.code) view (IsLive x.guest.code) (IsSpoilt x.guest.code) (seen_machine_is_view x.guest.code)
      (live_or_next_spoils x.guest.code) given (λ y o. refl) (tables (start_flat x.guest 1 x.profile)) (first_source x) (guest_invariant_start x.guest 1 x.profile)

  lawful : IsLawful m
  lawful = sourced_is_lawful (seen_machine x.guest.code) given (seen_machine_is_lawful x.guest.code)

  -- a state that looks the same as a node, and where no source has answered a call for the time
  abbrev IsTicklessNode : Unit {0} → State (ThreadState × Source) → Type 0
  IsTicklessNode i a = (v : ℕ) × (v < length flats) × AlikeTickless x.guest.code a (state v)

  abbrev AnyNext : Noted (State (ThreadState × Source))
  AnyNext a e b = Unit {0}

  module _ (known : KnowsTimes x flats noted false) where
    leads_at_node : (v : ℕ) (l : v < length flats) (e : Step) (w : ℕ) → (lw : w < length flats)
        → noted e.0 (is_refusal (act m (state v) e)) v ≡ Some (Some w) → Can m (state v) e
        → LeadsToNode m answers (AlikeTickless x.guest.code) (state v) e (state w)
    leads_at_node v l e w lw is =
        let lead = known.leads refl e.0 (is_refusal (act m (state v) e)) v w is (flat_of x flats noted threads g v) (flat_of x flats noted threads g w)
        (at x flats noted threads g v l) (at x flats noted threads g w lw) e refl in
        subst (λ z. is_refusal (act (seen_by z) (state v) e) ≡ is_refusal (act m (state v) e) → Can (seen_by z) (state v) e
        → LeadsToNode (seen_by z) (answered_by z) (AlikeTickless z) (state v) e (state w)) (code_at x flats noted threads g v l) lead refl

    followed_tickless : (a : State (ThreadState × Source)) → IsTicklessNode tt a → (e : Step) → Can m a e
        → (b : State (ThreadState × Source)) × IsTicklessNode tt b × AnyNext a e b × LeadsToNode m answers (λ s v. s ≡ v) a e b
    followed_tickless a (v, l, (alike, none)) e can =
        let means = graph_means x flats noted threads g in
        let tells = alike_tells_nothing x.guest.code in
        let there : Can m (state v) e = tells.can a (state v) alike e can in elim (cases_lt e.0 threads) [
          | inl few ↦ elim (asked_all v e.0 l few (is_refusal (act m (state v) e))) [
            | inl nowhere ↦ absurd (means.stays e.0 (is_refusal (act m (state v) e)) v l nowhere e refl refl there)
            | inr to ↦
                let w : ℕ = to.0 in
                let lead : LeadsToNode m answers (AlikeTickless x.guest.code) (state v) e (state w) = leads_at_node v l e w to.2 to.1 there in
                let steps : Alike x.guest.code (after m a e) (after m (state v) e) = tells.steps a (state v) alike e can in
                let goes = ahead_from_alike m answers (Alike x.guest.code) tells (after m a e) (after m (state v) e) steps lead.ahead lead.goes in
                let has = has_sources_of_after_run x.guest.code (after m a e) (after m (state v) e) steps
                (has_sources_of_after_step x.guest.code a (state v) alike (has_sources_of_alike_state x.guest.code a (state v) alike none) e can) lead.ahead lead.goes in (
                  end m (after m a e) lead.ahead,
                  (
                    w,
                    to.2,
                    (
                      tells.onwards (end m (after m a e) lead.ahead) (end m (after m (state v) e) lead.ahead) (state w) goes.1 lead.alike.0,
                      tickless_if_sources_are x.guest.code (end m (after m a e) lead.ahead) (end m (after m (state v) e) lead.ahead) has lead.alike.1,
                    ),
                  ),
                  tt,
                  record { can = can; ahead = lead.ahead; goes = goes.0; alike = refl },
                )
          ]
          | inr many ↦ absurd (means.idle v l e many there)
        ]

    tickless_nodes_are_closed : IsClosed m answers (λ s v. s ≡ v) MovesAnywhere (λ a. a) IsTicklessNode AnyNext
    tickless_nodes_are_closed = record {
      at_rest = λ i a is t.
          ap is_own ((alike_tells_nothing x.guest.code).asks a (state is.0) is.2.0 t) ∙ (graph_means x flats noted threads g).at_rest is.0 is.1 t;
      followed = λ i j a is e moves can. followed_tickless a is e can;
    }

    -- a run that counts ends before any call for the time is answered
    seen_end_is_tickless : (steps : List Step) → RunCounts m answers start steps → IsTickless (end m start steps)
    seen_end_is_tickless steps counts t =
        let begins = known.begins refl (flat_of x flats noted threads g 0) (at x flats noted threads g 0 g.some) in
        let first : State (ThreadState × Source) = end m start begins.ahead in
        let a = arrives_along_entries m lawful answers (λ s v. s ≡ v) (equality_tells_nothing m answers) MovesAnywhere (λ a. a)
        IsTicklessNode AnyNext tickless_nodes_are_closed start first good (record { ahead = begins.ahead; goes = begins.goes; alike = refl }) tt tt (0, g.some, begins.alike)
        steps counts (chain_of_any_moves (entering m start steps)) in
        let later : ((end m (end m start steps) a.left).now t).1.ticks ≡ 0 =
        ap (λ (z : State (ThreadState × Source)). (z.now t).1.ticks) a.alike ∙ a.is.2.1 t in
        let rise = ticks_never_fall_in_run (seen_machine x.guest.code) (end m start steps) a.left t in
        omega (arith, later, rise)

    no_timed_run : HasTimedRun x → ⊥
    no_timed_run (budget, steps, counting, (t, has)) =
        let es = log (thread_machine x.guest.code) (tables (start_flat x.guest budget x.profile)) steps t in
        let none : ((end m start steps).now t).1.ticks ≡ 0 = seen_end_is_tickless steps (counting_as_seen x budget steps counting).0 t in
        let left : (left_after (first_source x t) es).ticks ≡ 0 =
        ap (λ (z : Source). z.ticks) (sym (seen_source_after_log x budget steps counting t)) ∙ none in
        let rise = ticks_rise_with_time (first_source x t) es has in
        absurd (omega (arith, left, rise))

  -- once each node was asked for each of its ways, it is known exactly
  pub is_timed_exactly_if_known : (timed : Bool) → KnowsTimes x flats noted timed → (timed ≡ true) ↔ HasTimedRun x
  is_timed_exactly_if_known true known = (λ e. known.has refl, λ h. refl)
  is_timed_exactly_if_known false known = (λ e. absurd (cc e), λ h. absurd (no_timed_run known h))
