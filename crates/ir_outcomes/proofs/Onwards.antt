-- From states that look the same, threads lead to states that look the same.
use Rattle.std.proofs.Common.{◌≡◌, ℕ, Bool, false, Some, List, refl, sym, ap, ◌∙◌, subst}
use Rattle.std.specs.Prelude.{slice_get}
use Rattle.ir_search.specs.Following.{BothWays}
use Rattle.ir_runs.specs.Machine.{Done, act_of}
use Rattle.ir_runs.specs.Lawful.{IsLawful}
use Rattle.ir_runs.specs.Run.{State, Step, IsDone, asked, act, Can, after, end}
use Rattle.ir_runs.proofs.CallerLemmas.{StateInvariant, state_invariant_step}
use Rattle.ir_search_laws.specs.Counting.{is_own, IsAtRest, GoesAhead}
use Rattle.ir_search_laws.specs.Nodes.{LeadsToNode}
use Rattle.ir_search_laws.specs.Orders.{is_refusal}
use Rattle.ir_search_laws.specs.Outcomes.{Begins}
use Rattle.ir_search_laws.specs.Views.{beside}
use Rattle.ir_search_laws.proofs.CallerLemmas.{ComesToRest, ahead_from_alike, rest_ends_equal, invariant_after_counting, seen_good, sourced_is_lawful}
use Rattle.ir_thread.specs.State.{ThreadState, ask_of, shared_ask, most_budget, thread_machine}
use Rattle.ir_world.specs.Sources.{Source, given}
use Rattle.ir_likeness.specs.Seen.{view, seen_machine, seen_start, IsLive, IsSpoilt}
use Rattle.ir_likeness.proofs.CallerLemmas.{seen_machine_is_lawful, seen_machine_is_view, live_or_next_spoils, guest_invariant_start, start_view_any_budget}
use Rattle.ir_flat.specs.Flat.{tables, machine, thread_of, start_flat}
use Rattle.ir_state_store.specs.Nodes.{SourcedFlat}
use Rattle.ir_graph.specs.Graph.{IsGraph}
use Rattle.ir_graph.specs.Nodes.{seen_by, answered_by, Alike, seen_of, LookAlike, AllRest, IsStepBy, HasStepBy}
use Rattle.ir_graph.specs.Outcomes.{run_outcome}
use Rattle.ir_graph.specs.Plain.{GoesPlain, MayGo, result_by}
use Rattle.ir_graph.specs.Reached.{beginning, IsReached}
use Rattle.ir_graph.specs.Setup.{Setup, first_source, setup_start}
use Rattle.ir_graph.proofs.CallerLemmas.{TakesStep, every_number_rests, seen_is_at_rest, way_leads_to_alike_node, begins_by_plain_steps}
use Rattle.ir_graph.proofs.CallerLemmas.{look_alike_reflexive, counts_of_live_run_seen, end_of_live_run_seen, seen_state}
use Rattle.ir_graph.proofs.CallerLemmas.{alike_tells_nothing, alike_same_outcomes}

-- ---- what is seen of a state that a run leads to

seen_machine_lawful : (code : List ℕ) → IsLawful (seen_by code)
seen_machine_lawful code = sourced_is_lawful (seen_machine code) given (seen_machine_is_lawful code)

pub seen_start_invariant : (x : Setup) → StateInvariant (seen_by x.guest.code) (seen_of (setup_start x))
seen_start_invariant x = seen_good (thread_machine x.guest.code) (seen_machine x.guest.code) view (IsLive x.guest.code) (IsSpoilt x.guest.code)
    (seen_machine_is_view x.guest.code) (live_or_next_spoils x.guest.code) given (λ y o. refl)
    (tables (start_flat x.guest most_budget x.profile)) (first_source x) (guest_invariant_start x.guest most_budget x.profile)

pub seen_reached_invariant : (x : Setup) (s : SourcedFlat) → IsReached x s → StateInvariant (seen_by x.guest.code) (seen_of s)
seen_reached_invariant x s r =
    let code = x.guest.code in
    let ends : end (seen_by code) (seen_of (setup_start x)) r.steps ≡ seen_of s =
    end_of_live_run_seen code (beginning x) r.steps r.answered.1 ∙ ap seen_state (sym r.ends) in
    subst (StateInvariant (seen_by code)) ends
    (invariant_after_counting (seen_by code) (seen_machine_lawful code) (answered_by code) (seen_of (setup_start x)) (seen_start_invariant x) r.steps
    (counts_of_live_run_seen code (beginning x) r.steps r.answered.1 r.answered.0))

-- what looks the same as a state at rest is at rest
at_rest_if_alike : (code : List ℕ) (s : State (ThreadState × Source)) (u : SourcedFlat) → u.flat.code ≡ code → AllRest u.flat → Alike code s (seen_of u)
    → IsAtRest (seen_by code) s
at_rest_if_alike code s u same rest alike t =
    ap is_own ((alike_tells_nothing code).asks s (seen_of u) alike t)
    ∙ subst (λ z. is_own (asked (seen_by z) (seen_of u) t) ≡ false) same (seen_is_at_rest u rest t)

-- ---- two ways to rest

-- whatever leads from one state to what looks the same as states at rest, they look the same
module _ (code : List ℕ) (s : State (ThreadState × Source)) (good : StateInvariant (seen_by code) s) (u w : SourcedFlat) (same : u.flat.code ≡ code)
    (also : w.flat.code ≡ code) (rest : AllRest u.flat) (rests : AllRest w.flat) where
  pub both_rest_alike : (ahead more : List Step) → GoesAhead (seen_by code) (answered_by code) s ahead
      → GoesAhead (seen_by code) (answered_by code) s more → Alike code (end (seen_by code) s ahead) (seen_of u)
      → Alike code (end (seen_by code) s more) (seen_of w) → Alike code (seen_of u) (seen_of w)
  both_rest_alike ahead more goes goes_too alike alike_too =
      let m = seen_by code in
      let tells = alike_tells_nothing code in
      let one : ComesToRest m (answered_by code) s = record { ahead = ahead; goes = goes; at_rest = at_rest_if_alike code (end m s ahead) u same rest alike } in
      let two : ComesToRest m (answered_by code) s = record { ahead = more; goes = goes_too; at_rest = at_rest_if_alike code (end m s more) w also rests alike_too } in
      let meet = rest_ends_equal m (seen_machine_lawful code) (answered_by code) s good one two in
      tells.onwards (seen_of u) (end m s ahead) (seen_of w) (tells.backwards (end m s ahead) (seen_of u) alike)
      (subst (λ z. Alike code z (seen_of w)) (sym meet) alike_too)

-- ---- a way of a thread

-- what looks the same as a state has the same steps
step_by_alike_state : (s k : SourcedFlat) → k.flat.code ≡ s.flat.code → LookAlike s k → (refused : Bool) (e : Step) → IsStepBy s refused e → IsStepBy k refused e
step_by_alike_state s k same alike refused e by =
    subst (λ c. is_refusal (act (seen_by c) (seen_of k) e) ≡ refused) (sym same)
    (ap (λ q. is_refusal (act_of q e.1)) (sym ((alike_tells_nothing s.flat.code).asks (seen_of s) (seen_of k) alike e.0)) ∙ by)

pub has_step_if_alike_has : (s k : SourcedFlat) → k.flat.code ≡ s.flat.code → LookAlike s k → (t : ℕ) (refused : Bool) → HasStepBy k t refused
    → HasStepBy s t refused
has_step_if_alike_has s k same alike t refused has =
    let tells = alike_tells_nothing s.flat.code in (
      has.0,
      tells.can (seen_of k) (seen_of s) (tells.backwards (seen_of s) (seen_of k) alike) (t, has.0) (subst (λ c. Can (seen_by c) (seen_of k) (t, has.0)) same has.1),
      ap (λ q. is_refusal (act_of q has.0)) (tells.asks (seen_of s) (seen_of k) alike t)
          ∙ subst (λ c. is_refusal (act (seen_by c) (seen_of k) (t, has.0)) ≡ refused) same has.2,
    )

-- where s has such a step, and its thread then goes on to w, where all rest, w looks the same as where each such step of k leads
pub goes_where_alike_leads : (x : Setup) (s k u w n : SourcedFlat) (t : ℕ) (refused : Bool) → IsReached x s → k.flat.code ≡ s.flat.code
    → n.flat.code ≡ s.flat.code → LookAlike s k → AllRest s.flat → AllRest w.flat → AllRest n.flat
    → MayGo refused (ask_of s.flat.code (thread_of s.flat t)) → TakesStep s u t (result_by refused) → GoesPlain u w
    → ((e : Step) → e.0 ≡ t → IsStepBy k refused e → Can (seen_by k.flat.code) (seen_of k) e
    → LeadsToNode (seen_by k.flat.code) (answered_by k.flat.code) (Alike k.flat.code) (seen_of k) e (seen_of n))
    → LookAlike w n
goes_where_alike_leads x s k u w n t refused reached same also alike rest rests rests_too may step goes leads =
    let code = s.flat.code in
    let m = seen_by code in
    let tells = alike_tells_nothing code in
    let own = way_leads_to_alike_node s u w w t refused (every_number_rests s.flat rest t) may step goes (look_alike_reflexive w) in
    let e : Step = (t, own.0.0) in
    let one = own.1 e refl own.0.2 own.0.1 in
    let there : Can m (seen_of k) e = tells.can (seen_of s) (seen_of k) alike e own.0.1 in
    let other = subst (λ c. LeadsToNode (seen_by c) (answered_by c) (Alike c) (seen_of k) e (seen_of n)) same
    (leads e refl (step_by_alike_state s k same alike refused e own.0.2) (subst (λ c. Can (seen_by c) (seen_of k) e) (sym same) there)) in
    let more = ahead_from_alike m (answered_by code) (Alike code) tells (after m (seen_of s) e) (after m (seen_of k) e)
    (tells.steps (seen_of s) (seen_of k) alike e own.0.1) other.ahead other.goes in
    let good : StateInvariant m (seen_of s) = subst (λ c. StateInvariant (seen_by c) (seen_of s)) (sym reached.like.code) (seen_reached_invariant x s reached) in
    let here : w.flat.code ≡ code = goes.code ∙ step.code in
    subst (λ c. Alike c (seen_of w) (seen_of n)) (sym here)
    (both_rest_alike code (after m (seen_of s) e)
    (state_invariant_step m (seen_machine_lawful code) (seen_of s) good e own.0.1) w n here also rests rests_too one.ahead other.ahead one.goes more.0
    one.alike
    (tells.onwards (end m (after m (seen_of s) e) other.ahead) (end m (after m (seen_of k) e) other.ahead) (seen_of n) more.1 other.alike))

-- ---- the start

-- where the threads of a guest come to rest from its start looks the same as the first node
pub first_node_rests_alike : (x : Setup) (flats : List SourcedFlat) (noted : ℕ → BothWays) (threads : ℕ) → IsGraph x flats noted threads
    → (s n : SourcedFlat) → slice_get flats 0 ≡ Some n → GoesPlain (setup_start x) s → AllRest s.flat → LookAlike s n
first_node_rests_alike x flats noted threads g s n at goes rest =
    let code = x.guest.code in
    let own = begins_by_plain_steps (setup_start x) s goes in
    let seen : seen_start x.guest x.profile (first_source x) ≡ seen_of (setup_start x) =
    ap (λ z. beside z (first_source x)) (start_view_any_budget x.guest 1 most_budget x.profile) in
    let begins = subst (λ z. Begins (seen_by code) (answered_by code) (Alike code) z (seen_of n)) seen (g.begins n at) in
    subst (λ c. Alike c (seen_of s) (seen_of n)) (sym goes.code)
    (both_rest_alike code (seen_of (setup_start x)) (seen_start_invariant x) s n goes.code (g.code n at) rest (g.nodes.rest 0 n at) own.ahead begins.ahead own.goes begins.goes
    own.alike begins.alike)

-- ---- states in which all threads are done

done_if_alike_is : (s u : SourcedFlat) → u.flat.code ≡ s.flat.code → LookAlike s u → IsDone (machine u.flat) (tables u.flat)
    → IsDone (machine s.flat) (tables s.flat)
done_if_alike_is s u same alike done t =
    let seen : shared_ask (ask_of s.flat.code (view (thread_of u.flat t))) ≡ Done =
    subst (λ c. shared_ask (ask_of c (view (thread_of u.flat t))) ≡ Done) same (((seen_machine_is_view u.flat.code).done (thread_of u.flat t)).0 (done t)) in
    ((seen_machine_is_view s.flat.code).done (thread_of s.flat t)).1
    ((alike_tells_nothing s.flat.code).asks (seen_of s) (seen_of u) alike t ∙ seen)

pub done_with_same_outcome : (s u : SourcedFlat) → u.flat.code ≡ s.flat.code → LookAlike s u → IsDone (machine u.flat) (tables u.flat)
    → IsDone (machine s.flat) (tables s.flat) × (run_outcome (tables s.flat) ≡ run_outcome (tables u.flat))
done_with_same_outcome s u same alike done =
    (done_if_alike_is s u same alike done, alike_same_outcomes s.flat.code (seen_of s) (seen_of u) alike)
