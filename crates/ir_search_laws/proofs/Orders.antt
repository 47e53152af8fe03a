-- A run is the run by the order of its threads, and the only one.
use Rattle.std.proofs.Common.{◌≡◌, ◌≢◌, ℕ, suc, zero, false, List, [], ◌∷◌, ◌++◌, refl, sym, ap, ◌∙◌, subst, inl, inr, ◌⊎◌, append-nil}
use Rattle.std.proofs.lemmas.Bool.{cases_eq}
use Rattle.ir_runs.specs.Machine.{Ask, Private, Env, Enter, Try, Leave, Get, Put, Done, act_of, Machine, Object, target, Admits}
use Rattle.ir_runs.specs.Run.{State, Step, asked, act, after, IsRun, end, IsDone}
use Rattle.ir_runs.specs.Orders.{InTurn, IsByOrder}
use Rattle.ir_runs.proofs.CallerLemmas.{after_same_if_act_same, thread_after_other}
use Rattle.ir_search_laws.specs.Counting.{AnswersCall, IsAnswered, RunCounts, is_own, IsAtRest, GoesAhead}
use Rattle.ir_search_laws.specs.Nodes.{LeadsToNode}
use Rattle.ir_search_laws.specs.Orders.{stepping_threads, EachEnters, IsStepAlone}

-- a run goes by its threads' turns
pub run_in_turn_of_threads : {T : Type 0} (m : Machine T) (s : State T) (run : List Step) → IsRun m s run → EachEnters m s run
    → InTurn m s (stepping_threads run) run
run_in_turn_of_threads m s [] ok enters = refl
run_in_turn_of_threads m s (e ∷ run) ok enters = inr (e.1, run, refl, ok.0, enters.0, run_in_turn_of_threads m (after m s e) run ok.1 enters.1)

-- a complete run is the run by the order of its threads
pub complete_is_by_order : {T : Type 0} (m : Machine T) (s : State T) (n : ℕ) (run : List Step) → IsRun m s run → EachEnters m s run
    → IsDone m (end m s run) → IsByOrder m s n (stepping_threads run) run
complete_is_by_order m s n run ok enters done = record {
  count = 0;
  turns = subst (λ z. InTurn m s z run) (sym (append-nil (stepping_threads run))) (run_in_turn_of_threads m s run ok enters);
  done = done;
}

-- a turn is one act, where a try enters if it can
admitted_acts_equal : {T : Type 0} (m : Machine T) (f : ℕ → Object) (q : Ask) (answer r r' : ℕ) → IsAnswered q answer r → IsAnswered q answer r'
    → Admits m (act_of q r) (f (target (act_of q r))) → Admits m (act_of q r') (f (target (act_of q r')))
    → ((o : ℕ) → q ≡ Try o → Admits m (act_of q 1) (f (target (act_of q 1))) → r ≡ 1)
    → ((o : ℕ) → q ≡ Try o → Admits m (act_of q 1) (f (target (act_of q 1))) → r' ≡ 1) → act_of q r ≡ act_of q r'
admitted_acts_equal m f Private answer r r' a b can can' free free' = refl
admitted_acts_equal m f (Env k) answer r r' a b can can' free free' = ap (act_of (Env k)) (a ∙ sym b)
admitted_acts_equal m f (Enter o c) answer r r' a b can can' free free' = refl
admitted_acts_equal m f (Try o) answer zero zero a b can can' free free' = refl
admitted_acts_equal m f (Try o) answer zero (suc zero) a b can can' free free' = absurd (cc (free o refl can'))
admitted_acts_equal m f (Try o) answer zero (suc (suc r')) a b can can' free free' = absurd can'
admitted_acts_equal m f (Try o) answer (suc zero) zero a b can can' free free' = absurd (cc (free' o refl can))
admitted_acts_equal m f (Try o) answer (suc zero) (suc zero) a b can can' free free' = refl
admitted_acts_equal m f (Try o) answer (suc zero) (suc (suc r')) a b can can' free free' = absurd can'
admitted_acts_equal m f (Try o) answer (suc (suc r)) r' a b can can' free free' = absurd can
admitted_acts_equal m f (Leave o c) answer r r' a b can can' free free' = refl
admitted_acts_equal m f (Get o i) answer r r' a b can can' free free' = refl
admitted_acts_equal m f (Put o i w) answer r r' a b can can' free free' = refl
admitted_acts_equal m f Done answer r r' a b can can' free free' = refl

-- where all are done no turn is taken
done_in_turn_is_empty : {T : Type 0} (m : Machine T) (s : State T) → IsDone m s → (order : List ℕ) (run : List Step) → InTurn m s order run → run ≡ []
done_in_turn_is_empty m s done [] run is = is
done_in_turn_is_empty m s done (t ∷ order) run (inl none) = done_in_turn_is_empty m s done order run none.1
done_in_turn_is_empty m s done (t ∷ order) run (inr some) =
    absurd (subst (λ q. Admits m (act_of q some.0) (s.objects (target (act_of q some.0)))) (done t) some.3)

-- the runs by the order of a complete run's threads, whatever turns come after, end as it does
pub longer_order_same_end : {T : Type 0} (m : Machine T) (answers : AnswersCall T) (s : State T) (run : List Step) → RunCounts m answers s run
    → EachEnters m s run → IsDone m (end m s run) → (more : List ℕ) (run' : List Step) → InTurn m s (stepping_threads run ++ more) run'
    → RunCounts m answers s run' → end m s run' ≡ end m s run
longer_order_same_end m answers s [] ok enters done more run' turns ok' = ap (end m s) (done_in_turn_is_empty m s done more run' turns)
longer_order_same_end m answers s (e ∷ run) ok enters done more run' (inl none) ok' = absurd (none.0 e.1 ok.0.0)
longer_order_same_end m answers s (e ∷ run) ok enters done more run' (inr (r, rest, is, can, free, turns)) ok' =
    let counted : RunCounts m answers s ((e.0, r) ∷ rest) = subst (RunCounts m answers s) is ok' in
    let same : after m s (e.0, r) ≡ after m s e = after_same_if_act_same m s e.0 r e.1
    (admitted_acts_equal m s.objects (asked m s e.0) (answers e.0 (s.now e.0)) r e.1 counted.0.1 ok.0.1 can ok.0.0 free enters.0) in
    ap (end m s) is
    ∙ ap (λ z. end m z rest) same
    ∙ longer_order_same_end m answers (after m s e) run ok.1 enters.1 done more rest
    (subst (λ z. InTurn m z (stepping_threads run ++ more) rest) same turns) (subst (λ z. RunCounts m answers z rest) same counted.1)

-- results with which a thread does the same lead to the same node
pub leads_to_by_equal_act : {T : Type 0} (m : Machine T) (answers : AnswersCall T) (Alike : State T → State T → Type 0) (v : State T) (t r r' : ℕ)
    (w : State T) → act m v (t, r) ≡ act m v (t, r') → LeadsToNode m answers Alike v (t, r) w → LeadsToNode m answers Alike v (t, r') w
leads_to_by_equal_act m answers Alike v t r r' w same l =
    let p : after m v (t, r) ≡ after m v (t, r') = after_same_if_act_same m v t r r' same in
    record {
      can = subst (λ q. Admits m q (v.objects (target q))) same l.can;
      ahead = l.ahead;
      goes = subst (λ z. GoesAhead m answers z l.ahead) p l.goes;
      alike = subst (λ z. Alike (end m z l.ahead) w) p l.alike;
    }

-- at an entry there are two results at most: 0, and 1 of a try that enters
pub entry_act_zero_or_one : {T : Type 0} (m : Machine T) (q : Ask) (r : ℕ) (b : Object) → is_own q ≡ false → Admits m (act_of q r) b
    → (act_of q 0 ≡ act_of q r) ⊎ (act_of q 1 ≡ act_of q r)
entry_act_zero_or_one m Private r b own can = absurd (cc own)
entry_act_zero_or_one m (Env k) r b own can = absurd (cc own)
entry_act_zero_or_one m (Enter o a) r b own can = inl refl
entry_act_zero_or_one m (Try o) zero b own can = inl refl
entry_act_zero_or_one m (Try o) (suc zero) b own can = inr refl
entry_act_zero_or_one m (Try o) (suc (suc r)) b own can = absurd can
entry_act_zero_or_one m (Leave o a) r b own can = absurd (cc own)
entry_act_zero_or_one m (Get o i) r b own can = absurd (cc own)
entry_act_zero_or_one m (Put o i w) r b own can = absurd (cc own)
entry_act_zero_or_one m Done r b own can = absurd can

-- steps of one thread leave the others as they were
pub others_kept_by_lone_run : {T : Type 0} (m : Machine T) (s : State T) (t : ℕ) (run : List Step) → IsStepAlone t run → (u : ℕ) → u ≢ t
    → (end m s run).now u ≡ s.now u
others_kept_by_lone_run m s t [] alone u ne = refl
others_kept_by_lone_run m s t (e ∷ run) alone u ne =
    others_kept_by_lone_run m (after m s e) t run alone.1 u ne ∙ thread_after_other m s e u (λ p. ne (p ∙ sym alone.0))

-- after a step where all stand at rest, its thread alone has to go on
pub rest_after_lone_run : {T : Type 0} (m : Machine T) (v : State T) (e : Step) (ahead : List Step) → IsAtRest m v → IsStepAlone e.0 ahead
    → is_own (asked m (end m (after m v e) ahead) e.0) ≡ false → IsAtRest m (end m (after m v e) ahead)
rest_after_lone_run m v e ahead rest alone own u = elim (cases_eq u e.0) [
  | inl same ↦ subst (λ z. is_own (asked m (end m (after m v e) ahead) z) ≡ false) (sym same) own
  | inr other ↦ ap (λ x. is_own (m.ask x)) (others_kept_by_lone_run m (after m v e) e.0 ahead alone u other ∙ thread_after_other m v e u other) ∙ rest u
]
