-- Ways that lead from what stands at a node to what stands at another.
use Rattle.std.proofs.Common.{◌≡◌, ℕ, zero, suc, ◌+◌, ◌-◌, ◌<◌, Bool, true, Some, List, [], ◌∷◌, ◌++◌, replicate, inl, inr, length, refl, sym, ap, ◌∙◌, subst, arith}
use Rattle.std.specs.Prelude.{slice_get}
use Rattle.std.proofs.lemmas.Bool.{cases_lt}
use Rattle.ir_lemmas.proofs.CallerLemmas.{element_below_length}
use Rattle.ir_search.specs.declared.stop.Stop.{Stop}
use Rattle.ir_search.specs.Following.{BothWays}
use Rattle.ir_search.specs.Origins.{Goes}
use Rattle.ir_runs.specs.Run.{Step, Can, end}
use Rattle.ir_search_laws.specs.Counting.{IsAtRest}
use Rattle.ir_search_laws.specs.Nodes.{LeadsToNode}
use Rattle.ir_search_laws.proofs.CallerLemmas.{none_ahead_if_at_rest}
use Rattle.ir_thread.specs.State.{ask_of, most_budget}
use Rattle.ir_flat.specs.Flat.{tables, machine, thread_of}
use Rattle.ir_flat.proofs.CallerLemmas.{length_of_start_threads}
use Rattle.ir_state_store.specs.Nodes.{SourcedFlat}
use Rattle.ir_graph.specs.Graph.{IsGraph}
use Rattle.ir_graph.specs.Nodes.{seen_by, answered_by, seen_of, Alike, AllRest, IsStepBy, HasStepBy}
use Rattle.ir_graph.specs.Plain.{full_by, full_of, sources_by, GoesPlain, OthersStay, MayGo, Rests, result_by}
use Rattle.ir_graph.specs.Setup.{Setup, setup_start}
use Rattle.ir_graph.specs.Stops.{IsStop, StopsFollowing}
use Rattle.ir_graph.proofs.CallerLemmas.{TakesStep, all_rest_after_turn, every_number_rests, plain_flat_is_like, stop_after_entry}
use Rattle.ir_graph.proofs.CallerLemmas.{like_transitive, no_seen_refusal, no_seen_step_if_no_step, rest_ask_is_not_own, seen_state}
use Rattle.ir_graph.proofs.CallerLemmas.{reached_after_step}
use Rattle.ir_outcomes.specs.Along.{StandsAt, ArrivesBy, FailsBy}
use Rattle.ir_outcomes.specs.declared.rerun_error.RerunError.{RerunError}
use Rattle.ir_outcomes.specs.declared.rerun_error.RerunError.TheVariants.{NoMemory, NoWay, Stopped}
use Rattle.ir_outcomes.proofs.Onwards.{goes_where_alike_leads, has_step_if_alike_has}

-- ---- ways after ways

goes_splits_at_ways : (leading : BothWays) (size : ℕ) (ways more : List Bool) (v w : ℕ) → Goes leading size v (ways ++ more) w
    → (u : ℕ) × Goes leading size v ways u × Goes leading size u more w
goes_splits_at_ways leading size [] more v w g = (v, refl, g)
goes_splits_at_ways leading size (refused ∷ ways) more v w g =
    let k = goes_splits_at_ways leading size ways more g.0 w g.3 in (k.0, (g.0, g.1, g.2, k.1), k.2)

pub arrives_append : (t : ℕ) (ways more : List Bool) (s u w : SourcedFlat) → ArrivesBy t ways s u → ArrivesBy t more u w → ArrivesBy t (ways ++ more) s w
arrives_append t ways more s u w one two setup flats noted threads size v p g stands goes =
    let k = goes_splits_at_ways (noted t) size ways more v p goes in
    two setup flats noted threads size k.0 p g (one setup flats noted threads size v k.0 g stands k.1) k.2

pub fails_append : (limit t : ℕ) (ways more : List Bool) (s : SourcedFlat) (e : RerunError) → FailsBy limit t ways s e → FailsBy limit t (ways ++ more) s e
fails_append limit t ways more s e fails setup flats noted threads size v p g stands goes =
    let k = goes_splits_at_ways (noted t) size ways more v p goes in fails setup flats noted threads size v k.0 g stands k.1

pub fails_after : (limit t : ℕ) (ways more : List Bool) (s u : SourcedFlat) (e : RerunError) → ArrivesBy t ways s u → FailsBy limit t more u e
    → FailsBy limit t (ways ++ more) s e
fails_after limit t ways more s u e one fails setup flats noted threads size v p g stands goes =
    let k = goes_splits_at_ways (noted t) size ways more v p goes in
    fails setup flats noted threads size k.0 p g (one setup flats noted threads size v k.0 g stands k.1) k.2

pub fails_by_memory : (limit t : ℕ) (ways : List Bool) (s : SourcedFlat) → FailsBy limit t ways s NoMemory
fails_by_memory limit t ways s setup flats noted threads size v w g stands goes = tt

replicate_push_suc : (n : ℕ) (b : Bool) → replicate n b ++ b ∷ [] ≡ replicate (suc n) b
replicate_push_suc zero b = refl
replicate_push_suc (suc n) b = ap (λ z. b ∷ z) (replicate_push_suc n b)

pub replicate_push_plus_one : (n : ℕ) (b : Bool) → replicate n b ++ b ∷ [] ≡ replicate (n + 1) b
replicate_push_plus_one n b = let same : suc n ≡ n + 1 = omega arith in replicate_push_suc n b ∙ ap (λ k. replicate k b) same

-- so many of them are some first and then more
pub replicate_splits_at : (n k : ℕ) (b : Bool) → k < n → replicate n b ≡ replicate k b ++ ((b ∷ []) ++ replicate (n - k - 1) b)
replicate_splits_at zero k b l = absurd (omega (arith, l))
replicate_splits_at (suc n) zero b l = let same : n ≡ suc n - 0 - 1 = omega arith in ap (λ z. b ∷ replicate z b) same
replicate_splits_at (suc n) (suc k) b l =
    let same : n - k - 1 ≡ suc n - suc k - 1 = omega arith in
    ap (λ z. b ∷ z) (replicate_splits_at n k b (omega (arith, l))) ∙ ap (λ z. b ∷ (replicate k b ++ (b ∷ replicate z b))) same

-- ---- no way

-- where all threads rest, none goes on alone
full_stays_if_all_rest : (s u : SourcedFlat) → AllRest s.flat → GoesPlain s u → full_of u ≡ full_of s
full_stays_if_all_rest s u rest goes =
    let code = s.flat.code in
    let still : IsAtRest (full_by code) (full_of s) =
    λ t. rest_ask_is_not_own (ask_of code (thread_of s.flat t)) (every_number_rests s.flat rest t) in
    goes.ends ∙ ap (end (full_by code) (full_of s))
    (none_ahead_if_at_rest (full_by code) (sources_by code) (full_of s) still goes.ahead goes.plain.0)

pub stands_after_plain : (setup : Setup) (flats : List SourcedFlat) (v : ℕ) (s u : SourcedFlat) → StandsAt setup flats v s → GoesPlain s u
    → StandsAt setup flats v u
stands_after_plain setup flats v s u stands goes =
    let same = full_stays_if_all_rest s u stands.rest goes in record {
      node = stands.node;
      at = stands.at;
      alike = subst (λ z. Alike u.flat.code (seen_state z) (seen_of stands.node)) (sym same)
          (subst (λ c. Alike c (seen_of s) (seen_of stands.node)) (sym goes.code) stands.alike);
      rest = λ t less.
          subst (λ z. Rests (ask_of z (thread_of u.flat t))) (sym goes.code)
          (subst (λ z. Rests (ask_of s.flat.code z)) (sym (ap (λ z. (z.now t).0) same))
          (stands.rest t (let n = goes.threads in omega (arith, less, n))));
      reached = record {
        like = like_transitive (setup_start setup).flat s.flat u.flat stands.reached.like (plain_flat_is_like s u goes);
        steps = stands.reached.steps;
        answered = stands.reached.answered;
        ends = same ∙ stands.reached.ends;
      };
      each = goes.sources ∙ stands.each ∙ sym goes.threads;
    }

pub arrives_by_plain_steps : (t : ℕ) (s u : SourcedFlat) → GoesPlain s u → ArrivesBy t [] s u
arrives_by_plain_steps t s u goes setup flats noted threads size v w g stands same =
    subst (λ z. StandsAt setup flats z u) same (stands_after_plain setup flats v s u stands goes)

pub arrives_by_no_ways : (t : ℕ) (s : SourcedFlat) → ArrivesBy t [] s s
arrives_by_no_ways t s setup flats noted threads size v w g stands same = subst (λ z. StandsAt setup flats z s) same stands

pub fails_at_rest : (limit t : ℕ) (ways : List Bool) (s u : SourcedFlat) (stop : Stop) → GoesPlain s u → StopsFollowing s u t limit stop
    → FailsBy limit t ways s (Stopped stop)
fails_at_rest limit t ways s u stop goes stops setup flats noted threads size v w g stands path = record {
  from = s;
  at = u;
  thread = t;
  before = stands.reached;
  reached = (stands_after_plain setup flats v s u stands goes).reached;
  stops = stops;
}

-- ---- one way

module _ (setup : Setup) (flats : List SourcedFlat) (noted : ℕ → BothWays) (threads v w : ℕ) (g : IsGraph setup flats noted threads)
    (s : SourcedFlat) (stands : StandsAt setup flats v s) (t : ℕ) (refused : Bool) (is : noted t refused v ≡ Some (Some w)) where
  below : t < threads
  below = elim (cases_lt t threads) [
    | inl less ↦ less
    | inr past ↦ absurd (cc (sym (g.past t refused v past) ∙ is))
  ]

  pub thread_is_there : t < length s.flat.threads
  thread_is_there =
      let less = below in
      let many = g.number in
      let size = stands.reached.like.threads in
      let all = length_of_start_threads setup.guest most_budget setup.profile 0 (length setup.guest.entries) in omega (arith, less, many, size, all)

  next : (n : SourcedFlat) × (slice_get flats w ≡ Some n)
  next = element_below_length flats w (g.within t refused v w below is)

  code_of_state : (p : ℕ) (k : SourcedFlat) → slice_get flats p ≡ Some k → k.flat.code ≡ s.flat.code
  code_of_state p k at =
      let first = element_below_length flats 0 g.some in
      (g.nodes.like 0 p first.0 k first.1 at).code ∙ g.code first.0 first.1 ∙ sym stands.reached.like.code

  leads : HasStepBy stands.node t refused × ((e : Step) → e.0 ≡ t → IsStepBy stands.node refused e
      → Can (seen_by stands.node.flat.code) (seen_of stands.node) e → LeadsToNode (seen_by stands.node.flat.code) (answered_by stands.node.flat.code)
      (Alike stands.node.flat.code) (seen_of stands.node) e (seen_of next.0))
  leads = g.leads t refused v (Some w) below is stands.node next.0 stands.at next.1

  has : HasStepBy s t refused
  has = has_step_if_alike_has s stands.node (code_of_state v stands.node stands.at) stands.alike t refused leads.0

  rests : Rests (ask_of s.flat.code (thread_of s.flat t))
  rests = every_number_rests s.flat stands.rest t

  pub way_is_there : refused ≡ true → (MayGo true (ask_of s.flat.code (thread_of s.flat t)) → ⊥) → ⊥
  way_is_there same none = no_seen_refusal s t rests none (t, has.0) refl (subst (λ z. IsStepBy s z (t, has.0)) same has.2)

  pub step_is_there : (Can (machine s.flat) (tables s.flat) (t, result_by refused) → ⊥) → ⊥
  step_is_there never = no_seen_step_if_no_step s t refused rests never (t, has.0) refl has.2 has.1

  pub stands_after_turn : (u k : SourcedFlat) → MayGo refused (ask_of s.flat.code (thread_of s.flat t)) → TakesStep s u t (result_by refused) → GoesPlain u k
      → OthersStay u k t → Rests (ask_of k.flat.code (thread_of k.flat t)) → StandsAt setup flats w k
  stands_after_turn u k may step goes others rests_again =
      let all = all_rest_after_turn s u k t (result_by refused) stands.rest step goes others rests_again in record {
        node = next.0;
        at = next.1;
        alike = goes_where_alike_leads setup s stands.node u k next.0 t refused stands.reached (code_of_state v stands.node stands.at)
            (code_of_state w next.0 next.1) stands.alike stands.rest all (g.nodes.rest w next.0 next.1) may step goes leads.1;
        rest = all;
        reached = reached_after_step setup s u k t (result_by refused) stands.reached rests step goes;
        each = goes.sources ∙ step.sources ∙ stands.each ∙ sym step.threads ∙ sym goes.threads;
      }

  pub stop_after_turn : (limit : ℕ) (stop : Stop) (u k : SourcedFlat) → TakesStep s u t (result_by refused) → GoesPlain u k → StopsFollowing u k t limit stop
      → IsStop setup limit stop
  stop_after_turn limit stop u k step goes stops =
      stop_after_entry setup limit stop s u k t (result_by refused) stands.reached rests step goes stops

-- a thread that the guest doesn't have goes no way
pub fails_if_no_thread : (limit t n : ℕ) (refused : Bool) (s : SourcedFlat) → (n ≡ 0 → ⊥)
    → (t < length s.flat.threads → t < length s.sources → ⊥) → FailsBy limit t (replicate n refused) s NoWay
fails_if_no_thread limit t zero refused s some none setup flats noted threads size v w g stands goes = some refl
fails_if_no_thread limit t (suc n) refused s some none setup flats noted threads size v w g stands goes =
    let less = thread_is_there setup flats noted threads v goes.0 g s stands t refused goes.1 in
    none less (let each = stands.each in omega (arith, less, each))
