-- Where all threads always come to rest, the states at rest that can be reached are a finished search.
use Rattle.std.proofs.Common.{◌≡◌, ℕ, List, [], ◌∷◌, ◌++◌, refl, sym, ap, ◌∙◌, subst}
use Rattle.ir_runs.specs.Machine.{Machine}
use Rattle.ir_runs.specs.Lawful.{IsLawful}
use Rattle.ir_runs.specs.Run.{State, Step, asked, Can, after, end}
use Rattle.ir_runs.proofs.CallerLemmas.{StateInvariant}
use Rattle.ir_search_laws.specs.Counting.{AnswersCall, IsAtRest, GoesAhead, entering, Brought}
use Rattle.ir_search_laws.specs.Nodes.{TellsNothing, LeadsToNode, Noted, Path}
use Rattle.ir_search_laws.specs.Outcomes.{IsFinished}
use Rattle.ir_search_laws.proofs.Rest.{ahead_run_counts, ahead_enters_nothing, ahead_comes_first, ComesToRest}
use Rattle.ir_search_laws.proofs.Closed.{entering_cons_at_rest}
use Rattle.ir_search_laws.proofs.Within.{path_append}

-- one state is alike to itself alone
pub equality_tells_nothing : {T : Type 0} (m : Machine T) (answers : AnswersCall T) → TellsNothing m answers (λ s v. s ≡ v)
equality_tells_nothing m answers = record {
  asks = λ s v h t. ap (λ z. asked m z t) h;
  answered = λ s v h t. ap (λ z. answers t (z.now t)) h;
  can = λ s v h e can. subst (λ z. Can m z e) h can;
  steps = λ s v h e can. ap (λ z. after m z e) h;
  backwards = λ s v h. sym h;
  onwards = λ s v w h k. h ∙ k;
}

module _ {T : Type 0} (m : Machine T) (answers : AnswersCall T) (rest : (s : State T) → ComesToRest m answers s) (s : State T) where
  -- what is at rest after a step
  abbrev pub Resting : Noted (State T)
  Resting v e w = LeadsToNode m answers (λ s v. s ≡ v) v e w × IsAtRest m w

  abbrev pub start_at_rest : State T
  start_at_rest = end m s (rest s).ahead

  abbrev pub IsReached : State T → Type 0
  IsReached v = IsAtRest m v × ((ts : List ℕ) × Path Resting start_at_rest ts v)

  pub every : IsFinished m answers (λ s v. s ≡ v) s (λ v. v) IsReached Resting start_at_rest
  every = record {
    begins = record { ahead = (rest s).ahead; goes = (rest s).goes; alike = refl };
    is = ((rest s).at_rest, ([], refl));
    at_rest = λ v h. h.0;
    leads = λ v h e w n. (
      (n.1, (h.1.0 ++ e.0 ∷ [], path_append Resting start_at_rest v w h.1.0 (e.0 ∷ []) h.1.1 (e.1, w, n, refl))),
      n.0,
    );
    followed = λ v h e can.
        let r : ComesToRest m answers (after m v e) = rest (after m v e) in
        (end m (after m v e) r.ahead, (record { can = can; ahead = r.ahead; goes = r.goes; alike = refl }, r.at_rest));
    reached = λ v h. h.1;
  }

-- where all are at rest nothing goes on
pub none_ahead_at_rest : {T : Type 0} (m : Machine T) (answers : AnswersCall T) (s : State T) → IsAtRest m s → (left : List Step) → GoesAhead m answers s left
    → left ≡ []
none_ahead_at_rest m answers s at_rest [] goes = refl
none_ahead_at_rest m answers s at_rest (e ∷ left) goes = absurd (cc (at_rest e.0, goes.0))

entering_none_is_empty : {T : Type 0} (m : Machine T) (s : State T) → IsAtRest m s → (run : List Step) → entering m s run ≡ [] → run ≡ []
entering_none_is_empty m s at_rest [] h = refl
entering_none_is_empty m s at_rest (e ∷ run) h = absurd (cc (sym (entering_cons_at_rest m s at_rest e run) ∙ h))

-- whatever the order in which threads go on, they come to rest in one state
pub rest_ends_equal : {T : Type 0} (m : Machine T) → IsLawful m → (answers : AnswersCall T) (s : State T) → StateInvariant m s → (r r' : ComesToRest m answers s)
    → end m s r.ahead ≡ end m s r'.ahead
rest_ends_equal m law answers s good r r' =
    let b : Brought m answers s r.ahead r'.ahead =
    ahead_comes_first m law answers s good r.ahead r.goes r'.ahead (ahead_run_counts m answers s r'.ahead r'.goes) in
    let none : b.left ≡ [] = none_ahead_at_rest m answers (end m s r'.ahead) r'.at_rest b.left b.goes in
    let none' : b.rest ≡ [] = entering_none_is_empty m (end m s r.ahead) r.at_rest b.rest
    (b.same_entering ∙ ahead_enters_nothing m answers s r'.ahead r'.goes) in
    ap (end m (end m s r.ahead)) (sym none') ∙ b.same_end ∙ ap (end m (end m s r'.ahead)) none
