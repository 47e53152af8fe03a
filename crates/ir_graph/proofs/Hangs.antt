-- Runs of a guest that can't be brought to an end any more.
use Rattle.std.proofs.Common.{◌≡◌, ◌↔◌, ℕ, ◌<◌, ◌≤◌, Bool, true, Some, List, [], ◌∷◌, ◌++◌, length, refl, sym, ap, ◌∙◌, subst, arith}
use Rattle.std.specs.Prelude.{slice_get}
use Rattle.std.proofs.lemmas.Option.{same_Some, slice_get-get_or}
use Rattle.std.specs.List.{slice_index_or}
use Rattle.ir_search.specs.declared.origin.Origin.{Origin}
use Rattle.ir_search.specs.declared.origin.Refusal.{Refusal}
use Rattle.ir_search.specs.Following.{BothWays, IsNodeOpen}
use Rattle.ir_search.specs.Levels.{AreAsked, AreGoneOver}
use Rattle.ir_search.specs.Meaning.{Steps}
use Rattle.ir_search.specs.Origins.{first_origin, AreReached}
use Rattle.ir_search.proofs.CallerLemmas.{asked_finished, marked_way, way_to_marked, slice_get_some_below}
use Rattle.ir_runs.specs.Machine.{Machine}
use Rattle.ir_runs.specs.Lawful.{IsLawful}
use Rattle.ir_runs.specs.Run.{State, Step, asked, after, end, IsDone}
use Rattle.ir_runs.proofs.CallerLemmas.{StateInvariant, end_append}
use Rattle.ir_search_laws.specs.Counting.{AnswersCall, IsAnswered, IsAtRest, RunCounts, entering}
use Rattle.ir_search_laws.specs.Nodes.{TellsNothing, Path}
use Rattle.ir_search_laws.specs.Outcomes.{switches, IsFinished, HasWay}
use Rattle.ir_search_laws.specs.Views.{beside}
use Rattle.ir_search_laws.proofs.CallerLemmas.{Completes, back, finds, found, none_ahead_if_at_rest, done_from_alike, unspoilt_run_is_live}
use Rattle.ir_search_laws.proofs.CallerLemmas.{stays_unspoilt_live, looks_alike, real_seen, seen_good, sourced_counts, sourced_entering}
use Rattle.ir_search_laws.proofs.CallerLemmas.{sourced_is_lawful, sourced_live}
use Rattle.ir_thread.specs.State.{most_budget, thread_machine}
use Rattle.ir_thread.specs.State as thread
use Rattle.ir_world.specs.Sources.{Source, given}
use Rattle.ir_likeness.specs.Seen.{view, seen_machine, IsLive, IsSpoilt, seen_start, Same}
use Rattle.ir_likeness.proofs.CallerLemmas.{seen_machine_is_lawful, seen_machine_is_view, live_or_next_spoils, look_same, start_view_any_budget, guest_invariant_start, start_state_is_unspoilt}
use Rattle.ir_flat.specs.Flat.{tables, start_flat}
use Rattle.ir_state_store.specs.Nodes.{SourcedFlat}
use Rattle.ir_graph.specs.Setup.{Setup, setup_start, first_source, IsCountedOf}
use Rattle.ir_graph.specs.Graph.{IsGraph}
use Rattle.ir_graph.specs.Hangs.{IsCounting, CanEndFrom, CanEnd, IsHangOf, AreMarked, AllStand, AreWays}
use Rattle.ir_graph.specs.Nodes.{seen_by, answered_by, Alike, seen_of, LookAlike}
use Rattle.ir_graph.specs.Plain.{full_by, full_of, IsAnsweredRun}
use Rattle.ir_graph.specs.Reached.{beginning}
use Rattle.ir_graph.specs.Standing.{AllFound}
use Rattle.ir_graph.proofs.Full.{seen_state, end_of_live_run_seen, counts_of_live_run_seen, entering_of_live_run_seen, live_run_of_threads}
use Rattle.ir_graph.proofs.Levels.{node_level}
use Rattle.ir_graph.proofs.Listed.{flat_of, state_of, at, code_at, seen_done, really_done, graph_means}
use Rattle.ir_graph.proofs.Reached.{answered_run_is_run}

-- runs that count go on alike from alike states
counts_to_alike_end : {T : Type 0} (m : Machine T) (answers : AnswersCall T) (Alike : State T → State T → Type 0) → TellsNothing m answers Alike
    → (s v : State T) → Alike s v → (run : List Step) → RunCounts m answers s run → RunCounts m answers v run × Alike (end m s run) (end m v run)
counts_to_alike_end m answers Alike tells s v alike [] counts = (tt, alike)
counts_to_alike_end m answers Alike tells s v alike (e ∷ run) counts =
    let more = counts_to_alike_end m answers Alike tells (after m s e) (after m v e) (tells.steps s v alike e counts.0.0) run counts.1 in (
      (
        (
          tells.can s v alike e counts.0.0,
          subst (λ a. IsAnswered (asked m v e.0) a e.1) (tells.answered s v alike e.0)
              (subst (λ q. IsAnswered q (answers e.0 (s.now e.0)) e.1) (tells.asks s v alike e.0) counts.0.1),
        ),
        more.0,
      ),
      more.1,
    )

completes_from_alike : {T : Type 0} (m : Machine T) (answers : AnswersCall T) (Alike : State T → State T → Type 0) → TellsNothing m answers Alike
    → (s v : State T) → Alike s v → Completes m answers s → Completes m answers v
completes_from_alike m answers Alike tells s v alike (more, counts, done) =
    let k = counts_to_alike_end m answers Alike tells s v alike more counts in
    (more, k.0, done_from_alike m answers Alike tells (end m s more) (end m v more) k.1 done)

suffix_counts : {T : Type 0} (m : Machine T) (answers : AnswersCall T) (s : State T) (run more : List Step) → RunCounts m answers s (run ++ more)
    → RunCounts m answers (end m s run) more
suffix_counts m answers s [] more counts = counts
suffix_counts m answers s (e ∷ run) more counts = suffix_counts m answers (after m s e) run more counts.1

-- an answered run counts
pub answered_is_counting : (x : Setup) (steps : List Step) → IsAnsweredRun x.guest.code (beginning x) steps → IsCounting x most_budget steps
answered_is_counting x steps a = record {
  runs = answered_run_is_run x.guest.code (beginning x) steps a;
  answered = ((sourced_counts (thread_machine x.guest.code) given (beginning x) steps).0 a.0).1;
  unspoilt = stays_unspoilt_live (thread_machine x.guest.code) (IsLive x.guest.code) (IsSpoilt x.guest.code) (live_or_next_spoils x.guest.code)
      (tables (setup_start x).flat) steps (live_run_of_threads x.guest.code (beginning x) steps a.1) (start_state_is_unspoilt x.guest most_budget x.profile);
}

-- a run that counts is one of the guest as a search sees it, with the same entries
pub counting_as_seen : (x : Setup) (budget : ℕ) (steps : List Step) → IsCounting x budget steps
    → RunCounts (seen_by x.guest.code) (answered_by x.guest.code) (seen_start x.guest x.profile (first_source x)) steps
    × (entering (seen_by x.guest.code) (seen_start x.guest x.profile (first_source x)) steps
    ≡ entering (thread_machine x.guest.code) (tables (start_flat x.guest budget x.profile)) steps)
counting_as_seen x budget steps c =
    let m = thread_machine x.guest.code in
    let s : State thread.ThreadState = tables (start_flat x.guest budget x.profile) in
    let full : State (thread.ThreadState × Source) = beside (tables (start_flat x.guest budget x.profile)) (first_source x) in
    let live = sourced_live m given (IsLive x.guest.code) full steps
    (unspoilt_run_is_live m (IsLive x.guest.code) (IsSpoilt x.guest.code) (live_or_next_spoils x.guest.code) s steps c.unspoilt) in
    let one = sourced_counts m given full steps in
    let two = counts_of_live_run_seen x.guest.code full steps live (one.1 (c.runs, c.answered)) in
    let order = entering_of_live_run_seen x.guest.code full steps live ∙ sourced_entering m given full steps in (
      subst (λ z. RunCounts (seen_by x.guest.code) (answered_by x.guest.code) (beside z (first_source x)) steps)
          (start_view_any_budget x.guest budget 1 x.profile) two,
      ap (λ z. entering (seen_by x.guest.code) (beside z (first_source x)) steps) (start_view_any_budget x.guest 1 budget x.profile) ∙ order,
    )

-- a run that hangs is never continued to a complete one that counts, whatever its budget
pub hang_never_completes : (x : Setup) (budget : ℕ) (steps : List Step) → IsHangOf x budget steps → (most : ℕ) (more : List Step)
    → IsCountedOf x most (steps ++ more) → ⊥
hang_never_completes x budget steps h most more c =
    let m = seen_by x.guest.code in
    let start : State (thread.ThreadState × Source) = seen_start x.guest x.profile (first_source x) in
    let s : State thread.ThreadState = tables (start_flat x.guest most x.profile) in
    let r = real_seen (thread_machine x.guest.code) (seen_machine x.guest.code) view (IsLive x.guest.code) (IsSpoilt x.guest.code)
    (seen_machine_is_view x.guest.code) (live_or_next_spoils x.guest.code) given s (first_source x) (steps ++ more) c.complete.0 c.answered
    c.complete.1 c.unspoilt in
    let counts : RunCounts (seen_by x.guest.code) (answered_by x.guest.code) (seen_start x.guest x.profile (first_source x)) (steps ++ more) =
    subst (λ z. RunCounts (seen_by x.guest.code) (answered_by x.guest.code) (beside z (first_source x)) (steps ++ more))
    (start_view_any_budget x.guest most 1 x.profile) r.0 in
    let done : IsDone (seen_by x.guest.code) (end (seen_by x.guest.code) (seen_start x.guest x.profile (first_source x)) (steps ++ more)) =
    subst (λ z. IsDone (seen_by x.guest.code) (end (seen_by x.guest.code) (beside z (first_source x)) (steps ++ more)))
    (start_view_any_budget x.guest most 1 x.profile) r.1 in
    h.1 (
      more,
      suffix_counts m (answered_by x.guest.code) start steps more counts,
      subst (IsDone (seen_by x.guest.code)) (end_append m start steps more) done,
    )

pub alike_tells_nothing : (code : List ℕ) → TellsNothing (seen_by code) (answered_by code) (Alike code)
alike_tells_nothing code = looks_alike (seen_by code) (answered_by code) (Same code) (look_same code given)

-- where an answered run stands at what looks the same as a state, it can be brought to an end only where the state can
pub can_end_if_run_can : (x : Setup) (steps : List Step) (s u : SourcedFlat) → IsAnsweredRun x.guest.code (beginning x) steps
    → full_of u ≡ end (full_by x.guest.code) (beginning x) steps → u.flat.code ≡ x.guest.code → s.flat.code ≡ u.flat.code → LookAlike u s
    → CanEnd x steps → CanEndFrom s
can_end_if_run_can x steps s u answered ends code same looks can =
    let stands : end (seen_by x.guest.code) (seen_start x.guest x.profile (first_source x)) steps ≡ seen_of u =
    ap (λ z. end (seen_by x.guest.code) (beside z (first_source x)) steps) (start_view_any_budget x.guest 1 most_budget x.profile)
    ∙ end_of_live_run_seen x.guest.code (beginning x) steps answered.1 ∙ ap seen_state (sym ends) in
    let here : Completes (seen_by x.guest.code) (answered_by x.guest.code) (seen_of u) =
    subst (Completes (seen_by x.guest.code) (answered_by x.guest.code)) stands can in
    let there : Completes (seen_by x.guest.code) (answered_by x.guest.code) (seen_of s) =
    completes_from_alike (seen_by x.guest.code) (answered_by x.guest.code) (Alike x.guest.code) (alike_tells_nothing x.guest.code) (seen_of u) (seen_of s)
    (subst (λ z. Alike z (seen_of u) (seen_of s)) code looks) here in
    subst (λ z. Completes (seen_by z) (answered_by z) (seen_of s)) (sym (same ∙ code)) there

module _ (x : Setup) (flats : List SourcedFlat) (noted : ℕ → BothWays) (threads : ℕ) (g : IsGraph x flats noted threads)
    (origins : List Origin) (refusals : List Refusal) (reached : AreReached noted refusals origins)
    (all : length origins ≡ length flats) (asked_all : AreAsked noted threads (length flats)) where
  abbrev pub m : Machine (thread.ThreadState × Source)
  m = seen_by x.guest.code

  abbrev pub answers_here : AnswersCall (thread.ThreadState × Source)
  answers_here = answered_by x.guest.code

  abbrev pub start : State (thread.ThreadState × Source)
  start = seen_start x.guest x.profile (first_source x)

  abbrev pub state : ℕ → State (thread.ThreadState × Source)
  state = state_of x flats noted threads g

  abbrev pub Node : ℕ → Type 0
  Node v = v < length flats

  finished : IsFinished m answers_here (Alike x.guest.code) start state Node (Steps m state noted (length flats)) 0
  finished = asked_finished m answers_here (Alike x.guest.code) start state noted threads (length flats)
      (graph_means x flats noted threads g) origins refusals reached all g.some asked_all

  good : StateInvariant m start
  good = seen_good (thread_machine x.guest.code) (seen_machine x.guest.code) view (IsLive x.guest.code) (IsSpoilt x.guest.code) (seen_machine_is_view x.guest.code)
      (live_or_next_spoils x.guest.code) given (λ y o. refl) (tables (start_flat x.guest 1 x.profile)) (first_source x) (guest_invariant_start x.guest 1 x.profile)

  lawful : IsLawful m
  lawful = sourced_is_lawful (seen_machine x.guest.code) given (seen_machine_is_lawful x.guest.code)

  -- a state can be brought to an end exactly where its node has a way
  state_way : (v : ℕ) → v < length flats → Completes m answers_here (state v) ↔ HasWay m state (Steps m state noted (length flats)) v
  state_way v l =
      let r = finished.reached v l in
      let k = found m lawful answers_here (Alike x.guest.code) (alike_tells_nothing x.guest.code) start good state Node (Steps m state noted (length flats)) 0
      finished v r.0 r.1 in
      let b = back m lawful answers_here (Alike x.guest.code) (alike_tells_nothing x.guest.code) start good state Node (Steps m state noted (length flats)) 0
      finished k.run k.counts [] tt v l k.alike in (
        λ c. b.0 (completes_from_alike m answers_here (Alike x.guest.code) (alike_tells_nothing x.guest.code) (state v) (end m start k.run)
            ((alike_tells_nothing x.guest.code).backwards (end m start k.run) (state v) k.alike) c),
        λ h. completes_from_alike m answers_here (Alike x.guest.code) (alike_tells_nothing x.guest.code) (end m start k.run) (state v) k.alike (b.1 h),
      )

  -- a run that counts stands at a node
  run_way : (steps : List Step) → RunCounts m answers_here start steps
      → (v : ℕ) × (v < length flats) × Path (Steps m state noted (length flats)) 0 (entering m start steps) v
      × (CanEnd x steps ↔ Completes m answers_here (state v))
  run_way steps ok =
      let a = finds m lawful answers_here (Alike x.guest.code) (alike_tells_nothing x.guest.code) start good state Node (Steps m state noted (length flats)) 0
      finished steps ok in
      let b = back m lawful answers_here (Alike x.guest.code) (alike_tells_nothing x.guest.code) start good state Node (Steps m state noted (length flats)) 0
      finished steps ok a.left a.goes a.node a.is a.alike in
      let w = state_way a.node a.is in
      (a.node, a.is, a.path, (λ c. w.1 (b.0 c), λ c. b.1 (w.0 c)))

  -- a run that counts and ends where all threads rest ends at a node
  run_found : (steps : List Step) → RunCounts m answers_here start steps → IsAtRest m (end m start steps)
      → (v : ℕ) × (v < length flats) × Alike x.guest.code (end m start steps) (state v)
  run_found steps ok rests =
      let a = finds m lawful answers_here (Alike x.guest.code) (alike_tells_nothing x.guest.code) start good state Node (Steps m state noted (length flats)) 0
      finished steps ok in (
        a.node,
        a.is,
        subst (λ z. Alike x.guest.code (end m (end m start steps) z) (state a.node))
            (none_ahead_if_at_rest m answers_here (end m start steps) rests a.left a.goes) a.alike,
      )

  pub resting_run_is_found : AllFound x flats
  resting_run_is_found budget steps r =
      let f = run_found steps (counting_as_seen x budget steps r.counts).0 r.rests in
      (f.0, flat_of x flats noted threads g f.0, at x flats noted threads g f.0 f.1, f.2)

  -- a node is marked exactly where its state can be brought to an end
  node_marked : (marks : List Bool) → AreWays noted threads flats marks → (v : ℕ) → v < length flats
      → IsNodeOpen marks v ↔ Completes m answers_here (state v)
  node_marked marks w v l =
      let means = graph_means x flats noted threads g in
      let way = state_way v l in (
        λ is. way.1 (marked_way m answers_here (Alike x.guest.code) start state noted threads (length flats) means w.done w.nodes
            (λ p here.
            let less : p < length flats = (let a = slice_get_some_below w.done p true here in let b = w.nodes in omega (arith, a, b)) in
            seen_done x flats noted threads g p less
            (w.done_marked p (flat_of x flats noted threads g p) (at x flats noted threads g p less) here))
            v ((w.exact v).0 is)),
        λ c. (w.exact v).1 (way_to_marked m answers_here (Alike x.guest.code) start state noted threads (length flats) means w.done w.nodes
            (λ p less done.
            w.marked_done p (flat_of x flats noted threads g p) (at x flats noted threads g p less)
            (really_done x flats noted threads g p less done))
            v l (way.0 c)),
      )

  -- what is so of a node's state is so of what the list has there
  state_here : (v : ℕ) (f : SourcedFlat) → slice_get flats v ≡ Some f → Completes m answers_here (state v) ↔ CanEndFrom f
  state_here v f is =
      let l : v < length flats = slice_get_some_below flats v f is in
      let one : flat_of x flats noted threads g v ≡ f =
      same_Some (flat_of x flats noted threads g v) f (sym (at x flats noted threads g v l) ∙ is) in
      let code = code_at x flats noted threads g v l in (
        λ c. subst (λ z. CanEndFrom z) one (subst (λ z. Completes (seen_by z) (answered_by z) (state v)) (sym code) c),
        λ c. subst (λ z. Completes (seen_by z) (answered_by z) (state v)) code (subst (λ z. CanEndFrom z) (sym one) c),
      )

  pub marked_ends : (marks : List Bool) → AreWays noted threads flats marks → (v : ℕ) (f : SourcedFlat) → slice_get flats v ≡ Some f
      → IsNodeOpen marks v ↔ CanEndFrom f
  marked_ends marks w v f is =
      let one = node_marked marks w v (slice_get_some_below flats v f is) in
      let two = state_here v f is in (λ h. two.0 (one.0 h), λ h. one.1 (two.1 h))

  pub counting_stands : (levels : ℕ) → AreGoneOver noted threads origins levels
      → ((v : ℕ) (n : Origin) → slice_get origins v ≡ Some n → n.level ≤ levels) → slice_get origins 0 ≡ Some first_origin
      → (budget : ℕ) (steps : List Step) → IsCounting x budget steps
      → (v : ℕ) × (f : SourcedFlat) × (n : Origin) × (slice_get flats v ≡ Some f) × (slice_get origins v ≡ Some n)
      × (n.level ≤ switches (entering (thread_machine x.guest.code) (tables (start_flat x.guest budget x.profile)) steps))
      × (CanEnd x steps ↔ CanEndFrom f)
  counting_stands levels gone most first budget steps c =
      let seen = counting_as_seen x budget steps c in
      let r = run_way steps seen.0 in
      let is = at x flats noted threads g r.0 r.1 in
      let two = state_here r.0 (flat_of x flats noted threads g r.0) is in
      let n = slice_index_or origins r.0 first_origin in
      let there : slice_get origins r.0 ≡ Some n = slice_get-get_or origins r.0 first_origin (let l = r.1 in omega (arith, l, all)) in
      let level = node_level m state noted threads (length flats) (graph_means x flats noted threads g).idle origins levels
      gone most (λ k at_first. ap (λ z. z.level) (sym (same_Some first_origin k (sym first ∙ at_first)))) (entering m start steps) r.0 n r.2 there
      in (
        r.0,
        flat_of x flats noted threads g r.0,
        n,
        is,
        there,
        subst (λ z. n.level ≤ switches z) seen.1 level,
        (λ h. two.0 (r.3.0 h), λ h. r.3.1 (two.1 h)),
      )

module _ (x : Setup) (flats : List SourcedFlat) (noted : ℕ → BothWays) (threads : ℕ) (g : IsGraph x flats noted threads)
    (origins : List Origin) (refusals : List Refusal) (reached : AreReached noted refusals origins)
    (all : length origins ≡ length flats) (asked_all : AreAsked noted threads (length flats)) where
  pub all_stand : (levels : ℕ) → AreGoneOver noted threads origins levels
      → ((v : ℕ) (n : Origin) → slice_get origins v ≡ Some n → n.level ≤ levels) → slice_get origins 0 ≡ Some first_origin
      → AllStand x flats origins
  all_stand levels gone most first budget steps c =
      counting_stands x flats noted threads g origins refusals reached all asked_all levels gone most first budget steps c

  pub all_found : AllFound x flats
  all_found = resting_run_is_found x flats noted threads g origins refusals reached all asked_all

  pub are_marked : (marks : List Bool) → AreWays noted threads flats marks → AreMarked flats marks
  are_marked marks w = record {
    all = w.all;
    marked = λ v f is here. (marked_ends x flats noted threads g origins refusals reached all asked_all marks w v f is).0 here;
    other = λ v f is can. (marked_ends x flats noted threads g origins refusals reached all asked_all marks w v f is).1 can;
  }
