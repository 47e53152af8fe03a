-- A path that led to a node, and a state that is brought along it.
use Rattle.std.proofs.Common.{◌≡◌, ℕ, zero, suc, ◌-◌, ◌<◌, ◌≤◌, Bool, false, true, Some, List, [], ◌∷◌, ◌++◌, append_assoc, append-nil, replicate, length, drop, refl, sym, ap, ◌∙◌, subst, arith}
use Rattle.std.specs.Prelude.{slice_get}
use Rattle.std.proofs.lemmas.Option.{same_Some}
use Rattle.ir_search.specs.declared.origin.Origin.{Origin}
use Rattle.ir_search.specs.declared.origin.Refusal.{Refusal}
use Rattle.ir_search.specs.Following.{BothWays}
use Rattle.ir_search.specs.Origins.{AreReached, AreWaysOf, BeginsAt}
use Rattle.ir_search.proofs.CallerLemmas.{same_number_same_ways}
use Rattle.ir_lemmas.proofs.CallerLemmas.{element_below_length}
use Rattle.ir_state_store.specs.Nodes.{SourcedFlat}
use Rattle.ir_graph.specs.Graph.{IsGraph}
use Rattle.ir_graph.specs.Nodes.{AllRest}
use Rattle.ir_graph.specs.Plain.{GoesPlain}
use Rattle.ir_graph.specs.Setup.{Setup, setup_start}
use Rattle.ir_graph.proofs.CallerLemmas.{plain_start_is_reached}
use Rattle.ir_outcomes.specs.Along.{AlongPath, ArrivesBy, FailsBy, HaveWays, MayFail, StandsAt}
use Rattle.ir_outcomes.specs.Path.{FallInLevel, IsPathTo, ways_of}
use Rattle.ir_outcomes.specs.declared.rerun_error.RerunError.{RerunError}
use Rattle.ir_outcomes.proofs.Onwards.{first_node_rests_alike}
use Rattle.ir_outcomes.proofs.Paths.{last_turns, last_ways}

-- ---- what is so of each turn

begins_at_lower_level : (origins : List Origin) (k from : ℕ) → BeginsAt origins k from → 0 < k → (m : Origin) × (slice_get origins from ≡ Some m) × (m.level < k)
begins_at_lower_level origins zero from b some = absurd (omega (arith, some))
begins_at_lower_level origins (suc k) from b some = (b.0, b.1, let e = b.2 in omega (arith, e))

pub origins_fall_in_level : (noted : ℕ → BothWays) (table : List Refusal) (origins : List Origin) → AreReached noted table origins → FallInLevel origins
origins_fall_in_level noted table origins reached v n at some = begins_at_lower_level origins n.level n.from (reached v n at).0 some

pub path_has_ways : (noted : ℕ → BothWays) (table : List Refusal) (origins : List Origin) → AreReached noted table origins
    → (v : ℕ) (path : List Origin) → IsPathTo origins v path → HaveWays table path
path_has_ways noted table origins reached v [] leads i n at = absurd leads
path_has_ways noted table origins reached v (m ∷ []) leads zero n at =
    subst (λ z. (ways : List Bool) × AreWaysOf table z ways) (same_Some m n at) ((reached v m leads.0).1, (reached v m leads.0).2)
path_has_ways noted table origins reached v (m ∷ []) leads (suc i) n at = absurd (cc at)
path_has_ways noted table origins reached v (m ∷ k ∷ path) leads zero n at =
    subst (λ z. (ways : List Bool) × AreWaysOf table z ways) (same_Some m n at) ((reached v m leads.0).1, (reached v m leads.0).2)
path_has_ways noted table origins reached v (m ∷ k ∷ path) leads (suc i) n at =
    path_has_ways noted table origins reached m.from (k ∷ path) leads.1 i n at

-- a turn has one list of ways
pub ways_of_turn_unique : (table : List Refusal) (n : Origin) (ways more : List Bool) → AreWaysOf table n ways → AreWaysOf table n more → ways ≡ more
ways_of_turn_unique table n ways more one other =
    one.2 ∙ ap (λ z. z ++ replicate n.entries false) (same_number_same_ways table n.last_refusal one.0 other.0 one.1 other.1) ∙ sym other.2

-- the ways of all refused tries begin with those of the last k, of which the last comes first
ways_of_drop_come_first : (xs : List Refusal) (j : ℕ) → (more : List Bool) × (ways_of xs ≡ ways_of (drop j xs) ++ more)
ways_of_drop_come_first xs zero = ([], sym (append-nil (ways_of xs)))
ways_of_drop_come_first [] (suc j) = ([], refl)
ways_of_drop_come_first (x ∷ xs) (suc j) =
    let r = ways_of_drop_come_first xs j in
    let own : List Bool = replicate x.entries false ++ true ∷ [] in
    (r.0 ++ own, ap (λ z. z ++ own) r.1 ∙ append_assoc (ways_of (drop j xs)) r.0 own)

pub last_ways_come_first : (xs : List Refusal) (k : ℕ) → (more : List Bool) × (ways_of xs ≡ last_ways xs k ++ more)
last_ways_come_first xs k = ways_of_drop_come_first xs (length xs - k)

-- ---- a state that was brought so far

-- the rest of a path leads to some node
path_to_drop : (origins : List Origin) (v : ℕ) (path : List Origin) (j : ℕ) → j < length path → IsPathTo origins v path
    → (u : ℕ) × IsPathTo origins u (drop j path)
path_to_drop origins v [] j less leads = absurd leads
path_to_drop origins v (n ∷ path) zero less leads = (v, leads)
path_to_drop origins v (n ∷ []) (suc j) less leads = absurd (omega (arith, less))
path_to_drop origins v (n ∷ m ∷ path) (suc j) less leads = path_to_drop origins n.from (m ∷ path) j (omega (arith, less)) leads.1

pub path_to_last_turns : (origins : List Origin) (v : ℕ) (path : List Origin) (k : ℕ) → 0 < k → k ≤ length path → IsPathTo origins v path
    → (u : ℕ) × IsPathTo origins u (last_turns path k)
path_to_last_turns origins v path k some few leads = path_to_drop origins v path (length path - k) (omega (arith, some, few)) leads

module _ {table : List Refusal} {path : List Origin} {node : ℕ} {s : SourcedFlat} (from : AlongPath table path node s) where
  -- u stands where these turns of the path lead
  abbrev pub StandsBy : List Origin → SourcedFlat → Type 0
  StandsBy [] u = StandsAt from.setup from.flats 0 u
  StandsBy (n ∷ turns) u = (v : ℕ) → IsPathTo from.origins v (n ∷ turns) → StandsAt from.setup from.flats v u

  turn_at : (n : Origin) (turns : List Origin) (v : ℕ) → IsPathTo from.origins v (n ∷ turns) → slice_get from.origins v ≡ Some n
  turn_at n [] v leads = leads.0
  turn_at n (m ∷ turns) v leads = leads.0

  stands_before : (n : Origin) (turns : List Origin) (u : SourcedFlat) → StandsBy turns u → (v : ℕ) → IsPathTo from.origins v (n ∷ turns)
      → StandsAt from.setup from.flats n.from u
  stands_before n [] u stands v leads =
      let begins = subst (λ k. BeginsAt from.origins k n.from) leads.1 (from.reached v n leads.0).0 in
      subst (λ z. StandsAt from.setup from.flats z u) (sym begins) stands
  stands_before n (m ∷ turns) u stands v leads = stands n.from leads.1

  pub stands_by_one_more : (n : Origin) (turns : List Origin) (u w : SourcedFlat) → StandsBy turns u
      → ((ways : List Bool) → AreWaysOf table n ways → ArrivesBy n.thread ways u w) → StandsBy (n ∷ turns) w
  stands_by_one_more n turns u w stands arrives v leads =
      let r = from.reached v n (turn_at n turns v leads) in
      arrives r.1 r.2 from.setup from.flats from.noted from.threads (length from.origins) n.from v from.graph (stands_before n turns u stands v leads) r.3

  pub may_fail_by_one_more : (limit : ℕ) (n : Origin) (turns : List Origin) (u : SourcedFlat) (e : RerunError) → StandsBy turns u
      → ((ways : List Bool) → AreWaysOf table n ways → FailsBy limit n.thread ways u e) → (v : ℕ) → IsPathTo from.origins v (n ∷ turns)
      → MayFail from.setup limit e
  may_fail_by_one_more limit n turns u e stands fails v leads =
      let r = from.reached v n (turn_at n turns v leads) in
      fails r.1 r.2 from.setup from.flats from.noted from.threads (length from.origins) n.from v from.graph (stands_before n turns u stands v leads) r.3

  pub stands_by_all : (turns : List Origin) (u : SourcedFlat) → StandsBy turns u → IsPathTo from.origins node turns → StandsAt from.setup from.flats node u
  stands_by_all [] u stands leads = absurd leads
  stands_by_all (n ∷ turns) u stands leads = stands node leads

-- where the threads come to rest from the start the path can be gone along
abbrev pub along_path_from_first_node : (setup : Setup) (flats : List SourcedFlat) (noted : ℕ → BothWays) (threads : ℕ) (table : List Refusal)
    (origins path : List Origin) (node : ℕ) (s : SourcedFlat) → IsGraph setup flats noted threads → AreReached noted table origins
    → IsPathTo origins node path → GoesPlain (setup_start setup) s → AllRest s.flat → length s.sources ≡ length s.flat.threads
    → AlongPath table path node s
along_path_from_first_node setup flats noted threads table origins path node s graph reached leads goes rest each =
    let first = element_below_length flats 0 graph.some in record {
      setup = setup;
      flats = flats;
      noted = noted;
      threads = threads;
      origins = origins;
      graph = graph;
      reached = reached;
      leads = leads;
      stands = record {
        node = first.0;
        at = first.1;
        alike = first_node_rests_alike setup flats noted threads graph s first.0 first.1 goes rest;
        rest = rest;
        reached = plain_start_is_reached setup s goes;
        each = each;
      };
    }
