-- All runs that count lead over a closed set of nodes.
use Rattle.std.proofs.Common.{◌≡◌, ℕ, false, cond, List, [], ◌∷◌, ◌++◌, refl, sym, ap, ◌∙◌, subst}
use Rattle.ir_runs.specs.Machine.{Ask, Private, Env, Enter, Try, Leave, Get, Put, Done, Machine}
use Rattle.ir_runs.specs.Lawful.{IsLawful}
use Rattle.ir_runs.specs.Run.{State, Step, asked, Can, after, end}
use Rattle.ir_runs.proofs.CallerLemmas.{StateInvariant, state_invariant_step, end_append}
use Rattle.ir_search_laws.specs.Counting.{AnswersCall, IsAnswered, RunCounts, is_own, IsAtRest, GoesAhead, entering, Brought}
use Rattle.ir_search_laws.specs.Nodes.{TellsNothing, LeadsToNode, Noted, Path, IsClosed, Chain, Arrives}
use Rattle.ir_search_laws.specs.Outcomes.{Begins}
use Rattle.ir_search_laws.proofs.Rest.{ahead_run_counts, goes_ahead_append, ahead_enters_nothing, counts_append, entering_append, invariant_after_counting, ahead_comes_first}

-- alike states go on alike
pub ahead_from_alike : {T : Type 0} (m : Machine T) (answers : AnswersCall T) (Alike : State T → State T → Type 0) → TellsNothing m answers Alike
    → (s v : State T) → Alike s v → (run : List Step) → GoesAhead m answers v run → GoesAhead m answers s run × Alike (end m s run) (end m v run)
ahead_from_alike m answers Alike tells s v alike [] goes = (tt, alike)
ahead_from_alike m answers Alike tells s v alike (e ∷ run) goes =
    let can : Can m s e = tells.can v s (tells.backwards s v alike) e goes.1.0 in
    let more = ahead_from_alike m answers Alike tells (after m s e) (after m v e) (tells.steps s v alike e can) run goes.2 in
    let same : asked m v e.0 ≡ asked m s e.0 = sym (tells.asks s v alike e.0) in (
      (
        ap is_own (sym same) ∙ goes.0,
        (
          can,
          subst (λ a. IsAnswered (asked m s e.0) a e.1) (sym (tells.answered s v alike e.0))
              (subst (λ q. IsAnswered q (answers e.0 (v.now e.0)) e.1) same goes.1.1),
        ),
        more.0,
      ),
      more.1,
    )

-- where each thread stands at an entry or is done, the first step enters
pub entering_cons_at_rest : {T : Type 0} (m : Machine T) (s : State T) → IsAtRest m s → (e : Step) (run : List Step)
    → entering m s (e ∷ run) ≡ e.0 ∷ entering m (after m s e) run
entering_cons_at_rest m s rest e run = ap (λ b. cond b (entering m (after m s e) run) (e.0 ∷ entering m (after m s e) run)) (rest e.0)

-- A run that counts, from a state that is alike to a node, leads to a node: wherever its order of entries moves.
pub arrives_along_chain : {T I K : Type 0} (m : Machine T) → IsLawful m → (answers : AnswersCall T) (Alike : State T → State T → Type 0)
    → TellsNothing m answers Alike
    → (Moves : I → ℕ → I → Type 0) (state_of : K → State T) (Node : I → K → Type 0) (Next : Noted K)
    → IsClosed m answers Alike Moves state_of Node Next → (ts : List ℕ) (i j : I)
    → Chain Moves i ts j → (s : State T) (v : K) → StateInvariant m s → Alike s (state_of v) → Node i v
    → (run : List Step) → RunCounts m answers s run → entering m s run ≡ ts → Arrives m answers Alike state_of Node Next s v run j
arrives_along_chain m law answers Alike tells Moves state_of Node Next closed [] i j chain s v good alike is [] ok order = record {
  left = [];
  goes = tt;
  node = v;
  is = subst (λ z. Node z v) chain is;
  alike = alike;
  path = refl;
}
arrives_along_chain m law answers Alike tells Moves state_of Node Next closed (t ∷ ts) i j chain s v good alike is [] ok order = absurd (cc order)
arrives_along_chain m law answers Alike tells Moves state_of Node Next closed [] i j chain s v good alike is (e ∷ run) ok order =
    absurd (cc (sym (entering_cons_at_rest m s (λ t. ap is_own (tells.asks s (state_of v) alike t) ∙ closed.at_rest i v is t) e run) ∙ order))
arrives_along_chain {T} {I} {K} m law answers Alike tells Moves state_of Node Next closed (t ∷ ts) i j chain s v good alike is (e ∷ run) ok order =
    let rest : IsAtRest m s = λ u. ap is_own (tells.asks s (state_of v) alike u) ∙ closed.at_rest i v is u in
    let orders : (e.0 ∷ entering m (after m s e) run) ≡ (t ∷ ts) = sym (entering_cons_at_rest m s rest e run) ∙ order in
    let f = closed.followed i chain.0 v is e (subst (λ z. Moves i z chain.0) (sym (cc orders)) chain.1)
    (tells.can s (state_of v) alike e ok.0.0) in
    let l : LeadsToNode m answers Alike (state_of v) e (state_of f.0) = f.3 in
    let g = ahead_from_alike m answers Alike tells (after m s e) (after m (state_of v) e) (tells.steps s (state_of v) alike e ok.0.0) l.ahead
    l.goes in
    let good' : StateInvariant m (after m s e) = state_invariant_step m law s good e ok.0.0 in
    let b : Brought m answers (after m s e) l.ahead run = ahead_comes_first m law answers (after m s e) good' l.ahead g.0 run ok.1 in
    let a : Arrives m answers Alike state_of Node Next (end m (after m s e) l.ahead) f.0 b.rest j =
    arrives_along_chain m law answers Alike tells Moves state_of Node Next closed ts chain.0 j chain.2 (end m (after m s e) l.ahead) f.0
    (invariant_after_counting m law answers (after m s e) good' l.ahead (ahead_run_counts m answers (after m s e) l.ahead g.0))
    (tells.onwards _ (end m (after m (state_of v) e) l.ahead) (state_of f.0) g.1 l.alike) f.1 b.rest b.counts
    (b.same_entering ∙ cc orders) in
    record {
      left = b.left ++ a.left;
      goes = goes_ahead_append m answers (end m (after m s e) run) b.left a.left b.goes (subst (λ z. GoesAhead m answers z a.left) b.same_end a.goes);
      node = a.node;
      is = a.is;
      alike = subst (λ z. Alike z (state_of a.node))
          (ap (λ z. end m z a.left) b.same_end ∙ sym (end_append m (end m (after m s e) run) b.left a.left)) a.alike;
      path = subst (λ z. Path Next v z a.node) (sym (entering_cons_at_rest m s rest e run))
          (e.1, f.0, f.2, subst (λ z. Path Next f.0 z a.node) b.same_entering a.path);
    }

-- a run by steps of these threads' entries to what is alike to w
pub record RunByEntries {T : Type 0} (m : Machine T) (answers : AnswersCall T) (Alike : State T → State T → Type 0) (s : State T) (ts : List ℕ)
    (w : State T) : Type 0 where
  pub run : List Step
  pub counts : RunCounts m answers s run
  pub order : entering m s run ≡ ts
  pub alike : Alike (end m s run) w

-- at an entry any result counts
entry_answered_by_any : (q : Ask) (answer r : ℕ) → is_own q ≡ false → IsAnswered q answer r
entry_answered_by_any Private answer r h = tt
entry_answered_by_any (Env k) answer r h = absurd (cc h)
entry_answered_by_any (Enter o a) answer r h = tt
entry_answered_by_any (Try o) answer r h = tt
entry_answered_by_any (Leave o a) answer r h = tt
entry_answered_by_any (Get o i) answer r h = tt
entry_answered_by_any (Put o i w) answer r h = tt
entry_answered_by_any Done answer r h = tt

module _ {T K : Type 0} (m : Machine T) (answers : AnswersCall T) (Alike : State T → State T → Type 0) (tells : TellsNothing m answers Alike)
    (state_of : K → State T) (Node : K → Type 0) (Next : Noted K) (at_rest : (v : K) → Node v → IsAtRest m (state_of v))
    (leads : (v : K) → Node v → (e : Step) (w : K) → Next v e w → Node w × LeadsToNode m answers Alike (state_of v) e (state_of w)) where
  -- what was noted can be walked, from what is alike to the one node to what is alike to the other
  pub walk : (ts : List ℕ) (s : State T) (v w : K) → Alike s (state_of v) → Node v → Path Next v ts w
      → RunByEntries m answers Alike s ts (state_of w)
  walk [] s v w alike is path =
      record { run = []; counts = tt; order = refl; alike = subst (λ z. Alike s (state_of z)) path alike }
  walk (t ∷ ts) s v w alike is path =
      let e : Step = (t, path.0) in
      let n = leads v is e path.1 path.2 in
      let l : LeadsToNode m answers Alike (state_of v) e (state_of path.1) = n.1 in
      let rest : IsAtRest m s = λ u. ap is_own (tells.asks s (state_of v) alike u) ∙ at_rest v is u in
      let can : Can m s e = tells.can (state_of v) s (tells.backwards s (state_of v) alike) e l.can in
      let g = ahead_from_alike m answers Alike tells (after m s e) (after m (state_of v) e) (tells.steps s (state_of v) alike e can) l.ahead l.goes
      in
      let k : RunByEntries m answers Alike (end m (after m s e) l.ahead) ts (state_of w) =
      walk ts (end m (after m s e) l.ahead) path.1 w
      (tells.onwards _ (end m (after m (state_of v) e) l.ahead) (state_of path.1) g.1 l.alike) n.0 path.3 in
      record {
        run = e ∷ (l.ahead ++ k.run);
        counts = (
          (can, entry_answered_by_any (asked m s t) (answers t (s.now t)) path.0 (rest t)),
          counts_append m answers (after m s e) l.ahead k.run (ahead_run_counts m answers (after m s e) l.ahead g.0) k.counts,
        );
        order = entering_cons_at_rest m s rest e (l.ahead ++ k.run)
            ∙ ap (λ z. t ∷ z) (entering_append m (after m s e) l.ahead k.run
            ∙ ap (λ z. z ++ entering m (end m (after m s e) l.ahead) k.run) (ahead_enters_nothing m answers (after m s e) l.ahead g.0) ∙ k.order);
        alike = subst (λ z. Alike z (state_of w)) (sym (end_append m (after m s e) l.ahead k.run)) k.alike;
      }

  -- so can what begins at the start
  pub shows : (s : State T) (first : K) → Begins m answers Alike s (state_of first) → Node first
      → (ts : List ℕ) (v : K) → Path Next first ts v → RunByEntries m answers Alike s ts (state_of v)
  shows s first begins is ts v path =
      let k : RunByEntries m answers Alike (end m s begins.ahead) ts (state_of v) =
      walk ts (end m s begins.ahead) first v begins.alike is path in
      record {
        run = begins.ahead ++ k.run;
        counts = counts_append m answers s begins.ahead k.run (ahead_run_counts m answers s begins.ahead begins.goes) k.counts;
        order = entering_append m s begins.ahead k.run
            ∙ ap (λ z. z ++ entering m (end m s begins.ahead) k.run) (ahead_enters_nothing m answers s begins.ahead begins.goes) ∙ k.order;
        alike = subst (λ z. Alike z (state_of v)) (sym (end_append m s begins.ahead k.run)) k.alike;
      }
