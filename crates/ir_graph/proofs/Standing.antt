-- States that are found by the levels of a search, and what reaches them.
use Rattle.std.proofs.Common.{◌≡◌, ℕ, ◌<◌, ◌≤◌, Some, List, length, inl, inr, refl, sym, ap, ◌∙◌, subst, arith}
use Rattle.std.specs.Prelude.{slice_get}
use Rattle.std.proofs.lemmas.Bool.{cases_lt}
use Rattle.std.proofs.lemmas.Option.{same_Some}
use Rattle.ir_search.specs.declared.origin.Origin.{Origin}
use Rattle.ir_search.specs.Following.{BothWays}
use Rattle.ir_search.specs.Levels.{Covered}
use Rattle.ir_search.specs.Origins.{first_origin}
use Rattle.ir_search.proofs.CallerLemmas.{covered_covers, slice_get_some_below}
use Rattle.ir_runs.specs.Machine.{Machine}
use Rattle.ir_runs.specs.Run.{State, end}
use Rattle.ir_runs.proofs.CallerLemmas.{StateInvariant}
use Rattle.ir_search_laws.specs.Counting.{IsAtRest, is_own}
use Rattle.ir_search_laws.specs.Outcomes.{switches}
use Rattle.ir_search_laws.proofs.CallerLemmas.{switches_arrive_open, none_ahead_if_at_rest, seen_good, sourced_is_lawful}
use Rattle.ir_thread.specs.State.{ThreadState, thread_machine}
use Rattle.ir_world.specs.Sources.{Source, given}
use Rattle.ir_likeness.specs.Seen.{view, seen_machine, seen_start, IsLive, IsSpoilt}
use Rattle.ir_likeness.proofs.CallerLemmas.{seen_machine_is_lawful, seen_machine_is_view, live_or_next_spoils, guest_invariant_start}
use Rattle.ir_flat.specs.Flat.{tables, start_flat}
use Rattle.ir_state_store.specs.Nodes.{SourcedFlat}
use Rattle.ir_graph.specs.Graph.{IsGraph}
use Rattle.ir_graph.specs.Nodes.{seen_by, answered_by, seen_of, Alike}
use Rattle.ir_graph.specs.Searched.{AreSearched}
use Rattle.ir_graph.specs.Setup.{Setup, first_source}
use Rattle.ir_graph.specs.Standing.{seen_end, EndsAt, switches_in, WithinFound, NeedsSwitches}
use Rattle.ir_graph.proofs.Hangs.{counting_as_seen, alike_tells_nothing}
use Rattle.ir_graph.proofs.Leads.{seen_is_at_rest}
use Rattle.ir_graph.proofs.Listed.{flat_of, state_of, at, graph_means}

-- a run of few switches that ends where all threads rest ends at a node of a low level
pub within_found_if_covered : (x : Setup) (flats : List SourcedFlat) (noted : ℕ → BothWays) (threads : ℕ) → IsGraph x flats noted threads
    → (origins : List Origin) → slice_get origins 0 ≡ Some first_origin
    → length origins ≤ length flats → (c : ℕ) → Covered noted threads origins c → WithinFound x flats origins c
within_found_if_covered x flats noted threads g origins first few c covered budget steps resting less =
    let m : Machine (ThreadState × Source) = seen_by x.guest.code in
    let start : State (ThreadState × Source) = seen_start x.guest x.profile (first_source x) in
    let good : StateInvariant m start = seen_good (thread_machine x.guest.code) (seen_machine x.guest.code) view (IsLive x.guest.code) (IsSpoilt x.guest.code)
    (seen_machine_is_view x.guest.code) (live_or_next_spoils x.guest.code) given (λ y o. refl) (tables (start_flat x.guest 1 x.profile)) (first_source x)
    (guest_invariant_start x.guest 1 x.profile) in
    let covers = covered_covers m (answered_by x.guest.code) (Alike x.guest.code) start (state_of x flats noted threads g) noted threads (length flats)
    (graph_means x flats noted threads g) origins c covered first few in
    let seen = counting_as_seen x budget steps resting.counts in
    let r = switches_arrive_open m (sourced_is_lawful (seen_machine x.guest.code) given (seen_machine_is_lawful x.guest.code))
    (answered_by x.guest.code) (Alike x.guest.code) (alike_tells_nothing x.guest.code) start good (state_of x flats noted threads g) _ 0 c covers steps seen.0
    (subst (λ ts. switches ts ≤ c) (sym seen.1) less) in
    let a = r.1 in
    let v = a.node in
    let n = a.is.0.1 in
    let l : v < length flats = (let i = slice_get_some_below origins v n.0 n.1 in omega (arith, i, few)) in (
      v,
      flat_of x flats noted threads g v,
      n.0,
      at x flats noted threads g v l,
      n.1,
      let i = n.2 in let j = a.is.1 in omega (arith, i, j),
      subst (λ z. Alike x.guest.code (end m (seen_end x steps) z) (state_of x flats noted threads g v))
          (none_ahead_if_at_rest m (answered_by x.guest.code) (seen_end x steps) resting.rests a.left a.goes) a.alike,
    )

-- no run that counts ends at a state with fewer switches than its level, if the levels below are gone over
pub needs_level_switches : (x : Setup) (flats : List SourcedFlat) (origins : List Origin) (levels : ℕ) → AreSearched x flats origins levels
    → (v : ℕ) (s : SourcedFlat) (n : Origin) → slice_get flats v ≡ Some s → slice_get origins v ≡ Some n → n.level ≤ levels → NeedsSwitches x s n.level
needs_level_switches x flats origins levels searched v s n here stands low budget steps counting ends = elim (cases_lt (switches_in x budget steps) n.level) [
  | inr enough ↦ enough
  | inl less ↦
      let tells = alike_tells_nothing x.guest.code in
      let code : s.flat.code ≡ x.guest.code = (searched.reached v s here).like.code in
      let rests : IsAtRest (seen_by x.guest.code) (seen_end x steps) =
      λ t. ap is_own (tells.asks (seen_end x steps) (seen_of s) ends t)
      ∙ subst (λ z. IsAtRest (seen_by z) (seen_of s)) code (seen_is_at_rest s (searched.states.rest v s here)) t in
      let r = searched.found (switches_in x budget steps) (omega (arith, less, low)) budget steps (record { counts = counting; rests = rests }) (omega arith) in
      let w = r.0 in
      let u : SourcedFlat = r.1 in
      let k : Origin = r.2 in
      let there : slice_get flats w ≡ Some u = r.3 in
      let its : slice_get origins w ≡ Some k = r.4 in
      let level : k.level ≤ switches_in x budget steps = r.5 in
      let also : EndsAt x steps u = r.6 in
      let alike : Alike x.guest.code (seen_of u) (seen_of s) =
      tells.onwards (seen_of u) (seen_end x steps) (seen_of s) (tells.backwards (seen_end x steps) (seen_of u) also) ends in
      let same : w ≡ v = searched.states.apart w v u s there here
      (subst (λ z. Alike z (seen_of u) (seen_of s)) (sym (searched.reached w u there).like.code) alike) in
      let one : k ≡ n = same_Some k n (sym its ∙ ap (slice_get origins) same ∙ stands) in
      absurd (let e = ap (λ (z : Origin). z.level) one in omega (arith, e, level, less))
]
