-- Runs that can't be brought to an end any more.
use Rattle.std.proofs.Common.{◌≡◌, ◌↔◌, ℕ, List, [], ◌∷◌, ◌++◌, refl, sym, ap, ◌∙◌, subst}
use Rattle.ir_runs.specs.Machine.{Machine}
use Rattle.ir_runs.specs.Lawful.{IsLawful}
use Rattle.ir_runs.specs.Run.{State, Step, end, IsDone}
use Rattle.ir_runs.proofs.CallerLemmas.{StateInvariant, end_append}
use Rattle.ir_search_laws.specs.Counting.{AnswersCall, RunCounts, GoesAhead, entering, Brought}
use Rattle.ir_search_laws.specs.Nodes.{TellsNothing, Noted, Path, Arrives}
use Rattle.ir_search_laws.specs.Outcomes.{IsHang, IsFinished, HasWay}
use Rattle.ir_search_laws.proofs.Rest.{ahead_run_counts, counts_append, invariant_after_counting, ahead_comes_first, none_ahead_if_done}
use Rattle.ir_search_laws.proofs.Closed.{RunByEntries, walk, arrives_along_chain}
use Rattle.ir_search_laws.proofs.Finished.{done_alike_to_node, done_from_alike, finds, found, MovesFreely, AtOnePlace, chain_of_free_moves, finished_closed}

-- some run that counts leads from here to the end of all threads
abbrev pub Completes : {T : Type 0} → Machine T → AnswersCall T → State T → Type 0
Completes m answers s = (more : List Step) × RunCounts m answers s more × IsDone m (end m s more)

module _ {T K : Type 0} (m : Machine T) (law : IsLawful m) (answers : AnswersCall T) (Alike : State T → State T → Type 0)
    (tells : TellsNothing m answers Alike) (s : State T) (good : StateInvariant m s) (state_of : K → State T) (Node : K → Type 0) (Next : Noted K)
    (first : K) (f : IsFinished m answers Alike s state_of Node Next first) where
  -- what is alike to a node can be completed only where the node has a way
  node_way : (u : State T) (v : K) → StateInvariant m u → Alike u (state_of v) → Node v → Completes m answers u → HasWay m state_of Next v
  node_way u v good' alike is (more, ok, done) =
      let a : Arrives m answers Alike state_of (AtOnePlace Node) Next u v more tt =
      arrives_along_chain m law answers Alike tells MovesFreely state_of (AtOnePlace Node) Next
      (finished_closed m law answers Alike tells s good state_of Node Next first f) (entering m u more) tt tt
      (chain_of_free_moves (entering m u more)) u v good' alike is more ok refl in (
        entering m u more,
        a.node,
        a.path,
        done_from_alike m answers Alike tells (end m u more) (state_of a.node)
            (done_alike_to_node m answers Alike state_of (AtOnePlace Node) Next u v more tt done a) done,
      )

  way_node : (u : State T) (v : K) → Alike u (state_of v) → Node v → HasWay m state_of Next v → Completes m answers u
  way_node u v alike is (ts, w, path, done) =
      let k : RunByEntries m answers Alike u ts (state_of w) =
      walk m answers Alike tells state_of Node Next f.at_rest f.leads ts u v w alike is path in (
        k.run,
        k.counts,
        done_from_alike m answers Alike tells (state_of w) (end m u k.run) (tells.backwards (end m u k.run) (state_of w) k.alike) done,
      )

  -- a run that counts can be completed exactly where the node to which it leads has a way
  pub back : (run : List Step) → RunCounts m answers s run → (left : List Step) → GoesAhead m answers (end m s run) left → (v : K) → Node v
      → Alike (end m (end m s run) left) (state_of v) → Completes m answers (end m s run) ↔ HasWay m state_of Next v
  back run ok left goes v is alike = (
    λ c.
        let good' : StateInvariant m (end m s run) = invariant_after_counting m law answers s good run ok in
        let b : Brought m answers (end m s run) left c.0 = ahead_comes_first m law answers (end m s run) good' left goes c.0 c.1 in
        let none : b.left ≡ [] = none_ahead_if_done m answers (end m (end m s run) c.0) c.2 b.left b.goes in
        let same : end m (end m (end m s run) left) b.rest ≡ end m (end m s run) c.0 =
        b.same_end ∙ ap (end m (end m (end m s run) c.0)) none in
        node_way (end m (end m s run) left) v
        (invariant_after_counting m law answers (end m s run) good' left (ahead_run_counts m answers (end m s run) left goes)) alike is
        (b.rest, b.counts, subst (IsDone m) (sym same) c.2),
    λ h.
        let k = way_node (end m (end m s run) left) v alike is h in (
          left ++ k.0,
          counts_append m answers (end m s run) left k.0 (ahead_run_counts m answers (end m s run) left goes) k.1,
          subst (IsDone m) (sym (end_append m (end m s run) left k.0)) k.2,
        ),
  )

  -- there is a hang exactly where some node has no way
  pub hangs : ((run : List Step) × IsHang m answers s run) ↔ ((v : K) × Node v × (HasWay m state_of Next v → ⊥))
  hangs = (
    λ h.
        let a : Arrives m answers Alike state_of (AtOnePlace Node) Next s first h.0 tt =
        finds m law answers Alike tells s good state_of Node Next first f h.0 h.1.0 in (
          a.node,
          a.is,
          λ way. let c = (back h.0 h.1.0 a.left a.goes a.node a.is a.alike).1 way in h.1.1 c.0 c.1 c.2,
        ),
    λ h.
        let r = f.reached h.0 h.1 in
        let k : RunByEntries m answers Alike s r.0 (state_of h.0) =
        found m law answers Alike tells s good state_of Node Next first f h.0 r.0 r.1 in (
          k.run,
          (
            k.counts,
            λ more ok done. h.2 (node_way (end m s k.run) h.0 (invariant_after_counting m law answers s good k.run k.counts) k.alike h.1
                (more, ok, done)),
          ),
        ),
  )

-- nodes of which none is done, and after which none but such was noted, have no way
pub lost_node_has_no_way : {T K : Type 0} (m : Machine T) (state_of : K → State T) (Next : Noted K) (Lost : K → Type 0)
    → ((v : K) → Lost v → IsDone m (state_of v) → ⊥) → ((v w : K) (e : Step) → Lost v → Next v e w → Lost w)
    → (v : K) → Lost v → HasWay m state_of Next v → ⊥
lost_node_has_no_way {T} {K} m state_of Next Lost open_end goes v lost (ts, w, path, done) = by_path ts v lost path
  where
    by_path : (ts : List ℕ) (v : K) → Lost v → Path Next v ts w → ⊥
    by_path [] v lost path = open_end w (subst Lost path lost) done
    by_path (t ∷ ts) v lost path = by_path ts path.1 (goes v path.1 (t, path.0) lost path.2) path.3

-- a done node has a way, and so has a node before one that has
pub done_node_has_way : {T K : Type 0} (m : Machine T) (state_of : K → State T) (Next : Noted K) (v : K) → IsDone m (state_of v)
    → HasWay m state_of Next v
done_node_has_way m state_of Next v done = ([], v, refl, done)

pub has_way_by_next : {T K : Type 0} (m : Machine T) (state_of : K → State T) (Next : Noted K) (v w : K) (e : Step) → Next v e w
    → HasWay m state_of Next w → HasWay m state_of Next v
has_way_by_next m state_of Next v w e next way = (e.0 ∷ way.0, way.1, (e.1, w, next, way.2), way.3)
