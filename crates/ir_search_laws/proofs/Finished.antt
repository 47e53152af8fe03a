-- The outcomes of a finished search are those of the complete runs that count.
use Rattle.std.proofs.Common.{◌≡◌, ◌↔◌, ℕ, List, [], ◌∷◌, ◌++◌, refl, sym, ap, ◌∙◌, subst}
use Rattle.ir_runs.specs.Machine.{Machine}
use Rattle.ir_runs.specs.Lawful.{IsLawful}
use Rattle.ir_runs.specs.Run.{State, Step, end, IsDone}
use Rattle.ir_runs.proofs.CallerLemmas.{StateInvariant, end_append}
use Rattle.ir_search_laws.specs.Counting.{AnswersCall, RunCounts, GoesAhead, entering, Brought}
use Rattle.ir_search_laws.specs.Nodes.{TellsNothing, Noted, Path, IsClosed, Chain, Arrives}
use Rattle.ir_search_laws.specs.Outcomes.{IsOutcome, Begins, IsFinished}
use Rattle.ir_search_laws.proofs.Rest.{ahead_run_counts, goes_ahead_append, invariant_after_counting, ahead_comes_first, none_ahead_if_done}
use Rattle.ir_search_laws.proofs.Closed.{arrives_along_chain, RunByEntries, shows}

pub done_from_alike : {T : Type 0} (m : Machine T) (answers : AnswersCall T) (Alike : State T → State T → Type 0) → TellsNothing m answers Alike
    → (s v : State T) → Alike s v → IsDone m s → IsDone m v
done_from_alike m answers Alike tells s v alike done t = sym (tells.asks s v alike t) ∙ done t

-- a run that counts, from the start, leads to a node
pub arrives_along_entries : {T I K : Type 0} (m : Machine T) → IsLawful m → (answers : AnswersCall T) (Alike : State T → State T → Type 0)
    → TellsNothing m answers Alike
    → (Moves : I → ℕ → I → Type 0) (state_of : K → State T) (Node : I → K → Type 0) (Next : Noted K)
    → IsClosed m answers Alike Moves state_of Node Next → (s : State T) (first : K) → StateInvariant m s
    → Begins m answers Alike s (state_of first) → (i j : I) → Node i first → (run : List Step) → RunCounts m answers s run
    → Chain Moves i (entering m s run) j → Arrives m answers Alike state_of Node Next s first run j
arrives_along_entries m law answers Alike tells Moves state_of Node Next closed s first good begins i j is run ok chain =
    let b : Brought m answers s begins.ahead run = ahead_comes_first m law answers s good begins.ahead begins.goes run ok in
    let a : Arrives m answers Alike state_of Node Next (end m s begins.ahead) first b.rest j =
    arrives_along_chain m law answers Alike tells Moves state_of Node Next closed (entering m s run) i j chain (end m s begins.ahead) first
    (invariant_after_counting m law answers s good begins.ahead (ahead_run_counts m answers s begins.ahead begins.goes)) begins.alike is b.rest b.counts
    b.same_entering in
    record {
      left = b.left ++ a.left;
      goes = goes_ahead_append m answers (end m s run) b.left a.left b.goes (subst (λ z. GoesAhead m answers z a.left) b.same_end a.goes);
      node = a.node;
      is = a.is;
      alike = subst (λ z. Alike z (state_of a.node))
          (ap (λ z. end m z a.left) b.same_end ∙ sym (end_append m (end m s run) b.left a.left)) a.alike;
      path = subst (λ z. Path Next first z a.node) b.same_entering a.path;
    }

-- of a complete run that node is its end
pub done_alike_to_node : {T I K : Type 0} (m : Machine T) (answers : AnswersCall T) (Alike : State T → State T → Type 0) (state_of : K → State T)
    (Node : I → K → Type 0) (Next : Noted K) (s : State T) (v : K) (run : List Step) (j : I) → IsDone m (end m s run)
    → (a : Arrives m answers Alike state_of Node Next s v run j) → Alike (end m s run) (state_of a.node)
done_alike_to_node m answers Alike state_of Node Next s v run j done a =
    subst (λ z. Alike (end m (end m s run) z) (state_of a.node)) (none_ahead_if_done m answers (end m s run) done a.left a.goes) a.alike

-- nodes that all stand at one place, where every thread may move
abbrev pub MovesFreely : Unit {0} → ℕ → Unit {0} → Type 0
MovesFreely i t j = Unit {0}

abbrev pub AtOnePlace : {K : Type 0} → (K → Type 0) → Unit {0} → K → Type 0
AtOnePlace Node i v = Node v

pub chain_of_free_moves : (ts : List ℕ) → Chain MovesFreely tt ts tt
chain_of_free_moves [] = refl
chain_of_free_moves (t ∷ ts) = (tt, tt, chain_of_free_moves ts)

module _ {T K : Type 0} (m : Machine T) (law : IsLawful m) (answers : AnswersCall T) (Alike : State T → State T → Type 0)
    (tells : TellsNothing m answers Alike) (s : State T) (good : StateInvariant m s) (state_of : K → State T) (Node : K → Type 0) (Next : Noted K)
    (first : K) (f : IsFinished m answers Alike s state_of Node Next first) where
  pub finished_closed : IsClosed m answers Alike MovesFreely state_of (AtOnePlace Node) Next
  finished_closed = record {
    at_rest = λ i v is. f.at_rest v is;
    followed = λ i j v is e moves can. let n = f.followed v is e can in let l = f.leads v is e n.0 n.1 in (n.0, l.0, n.1, l.1);
  }

  -- a run that counts leads to a node
  pub finds : (run : List Step) → RunCounts m answers s run → Arrives m answers Alike state_of (AtOnePlace Node) Next s first run tt
  finds run ok =
      arrives_along_entries m law answers Alike tells MovesFreely state_of (AtOnePlace Node) Next finished_closed s first good f.begins tt tt f.is run ok
      (chain_of_free_moves (entering m s run))

  -- each node has a run that leads to it
  pub found : (v : K) (ts : List ℕ) → Path Next first ts v → RunByEntries m answers Alike s ts (state_of v)
  found v ts path = shows m answers Alike tells state_of Node Next f.at_rest f.leads s first f.begins f.is ts v path

  -- x is the outcome of a complete run that counts exactly where it is that of a done node
  pub exact : {X : Type 0} (outcome : State T → X) → ((u v : State T) → Alike u v → outcome u ≡ outcome v) → (x : X)
      → IsOutcome m answers s outcome x ↔ ((v : K) × Node v × IsDone m (state_of v) × (outcome (state_of v) ≡ x))
  exact outcome same x = (
    λ h.
        let a : Arrives m answers Alike state_of (AtOnePlace Node) Next s first h.0 tt = finds h.0 h.1 in
        let alike : Alike (end m s h.0) (state_of a.node) =
        done_alike_to_node m answers Alike state_of (AtOnePlace Node) Next s first h.0 tt h.2 a in (
          a.node,
          a.is,
          done_from_alike m answers Alike tells (end m s h.0) (state_of a.node) alike h.2,
          sym (same (end m s h.0) (state_of a.node) alike) ∙ h.3,
        ),
    λ h.
        let r = f.reached h.0 h.1 in
        let k : RunByEntries m answers Alike s r.0 (state_of h.0) = found h.0 r.0 r.1 in (
          k.run,
          k.counts,
          done_from_alike m answers Alike tells (state_of h.0) (end m s k.run)
              (tells.backwards (end m s k.run) (state_of h.0) k.alike) h.2,
          same (end m s k.run) (state_of h.0) k.alike ∙ h.3,
        ),
  )
