-- Where no thread tries, a run whose entries are those of a path leads to what is alike to the path's end, before the search is finished too.
use Rattle.std.proofs.Common.{◌≡◌, ◌≢◌, ℕ, false, List, [], ◌∷◌, refl, subst}
use Rattle.ir_runs.specs.Machine.{Ask, Private, Env, Enter, Try, Leave, Get, Put, Done, act_of, Machine}
use Rattle.ir_runs.specs.Lawful.{IsLawful}
use Rattle.ir_runs.specs.Run.{State, Step, asked, end}
use Rattle.ir_runs.proofs.CallerLemmas.{StateInvariant}
use Rattle.ir_search_laws.specs.Counting.{AnswersCall, RunCounts, is_own, IsAtRest, entering}
use Rattle.ir_search_laws.specs.Nodes.{TellsNothing, LeadsToNode, Noted, Path, IsClosed, Chain, Arrives}
use Rattle.ir_search_laws.specs.Outcomes.{Begins}
use Rattle.ir_search_laws.proofs.Finished.{arrives_along_entries}
use Rattle.ir_search_laws.proofs.Orders.{leads_to_by_equal_act}
use Rattle.ir_search_laws.proofs.Every.{none_ahead_at_rest}
use Rattle.ir_search_laws.proofs.Within.{Leading}

-- at an entry that is no try a thread does one thing
entry_act_any_result : (q : Ask) (r r' : ℕ) → is_own q ≡ false → ((o : ℕ) → q ≢ Try o) → act_of q r ≡ act_of q r'
entry_act_any_result Private r r' own never = refl
entry_act_any_result (Env k) r r' own never = absurd (cc own)
entry_act_any_result (Enter o a) r r' own never = refl
entry_act_any_result (Try o) r r' own never = absurd (never o refl)
entry_act_any_result (Leave o a) r r' own never = refl
entry_act_any_result (Get o i) r r' own never = refl
entry_act_any_result (Put o i w) r r' own never = refl
entry_act_any_result Done r r' own never = refl

-- a place is what is left of an order
abbrev pub MovesAlongOrder : List ℕ → ℕ → List ℕ → Type 0
MovesAlongOrder ts t us = ts ≡ t ∷ us

chain_along_order : (ts : List ℕ) → Chain MovesAlongOrder ts ts []
chain_along_order [] = refl
chain_along_order (t ∷ ts) = (ts, refl, chain_along_order ts)

module _ {T K : Type 0} (m : Machine T) (law : IsLawful m) (answers : AnswersCall T) (Alike : State T → State T → Type 0)
    (tells : TellsNothing m answers Alike) (state_of : K → State T) (Node : K → Type 0) (Next : Noted K)
    (at_rest : (v : K) → Node v → IsAtRest m (state_of v))
    (no_tries : (v : K) → Node v → (t o : ℕ) → asked m (state_of v) t ≢ Try o)
    (leads : (v : K) → Node v → (e : Step) (w : K) → Next v e w → Node w × LeadsToNode m answers Alike (state_of v) e (state_of w)) where
  -- nodes from which what is left of the order leads to v
  abbrev pub Before : K → List ℕ → K → Type 0
  Before v ts u = Node u × Path Next u ts v

  before_closed : (v : K) → IsClosed m answers Alike MovesAlongOrder state_of (Before v) (Leading m answers Alike state_of)
  before_closed v = record {
    at_rest = λ ts u h. at_rest u h.0;
    followed = λ ts us u h e moves can.
        let path : Path Next u (e.0 ∷ us) v = subst (λ z. Path Next u z v) moves h.1 in
        let n = leads u h.0 (e.0, path.0) path.1 path.2 in
        let l : LeadsToNode m answers Alike (state_of u) e (state_of path.1) =
        leads_to_by_equal_act m answers Alike (state_of u) e.0 path.0 e.1 (state_of path.1)
        (entry_act_any_result (asked m (state_of u) e.0) path.0 e.1 (at_rest u h.0 e.0) (no_tries u h.0 e.0)) n.1 in
        (path.1, (n.0, path.3), l, l);
  }

  -- a run that counts and ends at rest, by the entries of a path from the first node, ends alike to the path's last
  pub told : (s : State T) (first : K) → StateInvariant m s → Begins m answers Alike s (state_of first) → Node first → (run : List Step)
      → RunCounts m answers s run → IsAtRest m (end m s run) → (v : K) → Path Next first (entering m s run) v
      → Alike (end m s run) (state_of v)
  told s first good begins is run ok rest v path =
      let a : Arrives m answers Alike state_of (Before v) (Leading m answers Alike state_of) s first run [] =
      arrives_along_entries m law answers Alike tells MovesAlongOrder state_of (Before v) (Leading m answers Alike state_of) (before_closed v) s first good begins
      (entering m s run) [] (is, path) run ok (chain_along_order (entering m s run)) in
      subst (λ z. Alike (end m s run) (state_of z)) a.is.1
      (subst (λ z. Alike (end m (end m s run) z) (state_of a.node)) (none_ahead_at_rest m answers (end m s run) rest a.left a.goes) a.alike)
