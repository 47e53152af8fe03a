-- What threads do between their entries, brought before a run.
use Rattle.std.proofs.Common.{◌≡◌, ℕ, suc, zero, ◌+◌, ◌<◌, ◌≤◌, ◌⊎◌, inl, inr, Bool, true, false, cond, List, [], ◌∷◌, ◌++◌, length, refl}
use Rattle.std.proofs.Common.{sym, ap, ◌∙◌, subst, arith, eqb, append-nil, append_assoc, length-append}
use Rattle.std.proofs.lemmas.Bool.{cases_eq, cases_lt}
use Rattle.ir_runs.specs.Machine.{Ask, Private, Env, Enter, Try, Leave, Get, Put, Done, act_of, Machine, target, Admits}
use Rattle.ir_runs.specs.Lawful.{IsLawful}
use Rattle.ir_runs.specs.declared.env_kind.EnvKind.{EnvKind}
use Rattle.ir_runs.specs.Run.{State, Step, asked, after, label, IsRun, end, join_if, trail, IsDone}
use Rattle.ir_runs.specs.Bounds.{IsIdle}
use Rattle.ir_runs.proofs.CallerLemmas.{StateInvariant, state_invariant_step, later_threads_stay_done, end_append, trail_append}
use Rattle.ir_search_laws.specs.Counting.{AnswersCall, IsAnswered, Takes, RunCounts, is_own, IsAtRest, GoesAhead, entering, Brought}
use Rattle.ir_search_laws.proofs.First.{own_step_may_come_first}

-- a run that counts is a run
pub counting_run_is_run : {T : Type 0} (m : Machine T) (answers : AnswersCall T) (s : State T) (run : List Step) → RunCounts m answers s run → IsRun m s run
counting_run_is_run m answers s [] ok = tt
counting_run_is_run m answers s (e ∷ run) ok = (ok.0.0, counting_run_is_run m answers (after m s e) run ok.1)

-- steps that no other can refuse count
pub ahead_run_counts : {T : Type 0} (m : Machine T) (answers : AnswersCall T) (s : State T) (run : List Step) → GoesAhead m answers s run
    → RunCounts m answers s run
ahead_run_counts m answers s [] ok = tt
ahead_run_counts m answers s (e ∷ run) ok = (ok.1, ahead_run_counts m answers (after m s e) run ok.2)

-- runs one after the other
pub counts_append : {T : Type 0} (m : Machine T) (answers : AnswersCall T) (s : State T) (run more : List Step) → RunCounts m answers s run
    → RunCounts m answers (end m s run) more → RunCounts m answers s (run ++ more)
counts_append m answers s [] more ok ok' = ok'
counts_append m answers s (e ∷ run) more ok ok' = (ok.0, counts_append m answers (after m s e) run more ok.1 ok')

pub goes_ahead_append : {T : Type 0} (m : Machine T) (answers : AnswersCall T) (s : State T) (run more : List Step) → GoesAhead m answers s run
    → GoesAhead m answers (end m s run) more → GoesAhead m answers s (run ++ more)
goes_ahead_append m answers s [] more ok ok' = ok'
goes_ahead_append m answers s (e ∷ run) more ok ok' = (ok.0, ok.1, goes_ahead_append m answers (after m s e) run more ok.2 ok')

-- the entries of runs one after the other
pub entering_append : {T : Type 0} (m : Machine T) (s : State T) (run more : List Step)
    → entering m s (run ++ more) ≡ entering m s run ++ entering m (end m s run) more
entering_append m s [] more = refl
entering_append m s (e ∷ run) more =
    ap (λ z. cond (is_own (asked m s e.0)) z (e.0 ∷ z)) (entering_append m (after m s e) run more)
    ∙ join (is_own (asked m s e.0)) (entering m (after m s e) run)
  where
    join : (b : Bool) (ts : List ℕ) → cond b (ts ++ entering m (end m (after m s e) run) more)
        (e.0 ∷ (ts ++ entering m (end m (after m s e) run) more)) ≡ cond b ts (e.0 ∷ ts) ++ entering m (end m (after m s e) run) more
    join true ts = refl
    join false ts = refl

-- steps that no other can refuse enter nothing
pub ahead_enters_nothing : {T : Type 0} (m : Machine T) (answers : AnswersCall T) (s : State T) (run : List Step) → GoesAhead m answers s run
    → entering m s run ≡ []
ahead_enters_nothing m answers s [] ok = refl
ahead_enters_nothing m answers s (e ∷ run) ok =
    ap (λ b. cond b (entering m (after m s e) run) (e.0 ∷ entering m (after m s e) run)) ok.0
    ∙ ahead_enters_nothing m answers (after m s e) run ok.2

pub invariant_after_counting : {T : Type 0} (m : Machine T) → IsLawful m → (answers : AnswersCall T) (s : State T) → StateInvariant m s → (run : List Step)
    → RunCounts m answers s run → StateInvariant m (end m s run)
invariant_after_counting m law answers s good [] ok = good
invariant_after_counting m law answers s good (e ∷ run) ok =
    invariant_after_counting m law answers (after m s e) (state_invariant_step m law s good e ok.0.0) run ok.1

-- In a run that counts, what the threads do up to their next entries may come first.
pub ahead_comes_first : {T : Type 0} (m : Machine T) → IsLawful m → (answers : AnswersCall T) (s : State T) → StateInvariant m s → (ahead : List Step)
    → GoesAhead m answers s ahead → (run : List Step) → RunCounts m answers s run → Brought m answers s ahead run
ahead_comes_first m law answers s good [] goes run ok = record {
  left = [];
  goes = tt;
  rest = run;
  counts = ok;
  same_end = refl;
  same_entering = refl;
  same_trail = λ u. ap (λ z. trail m s z u) (sym (append-nil run));
  same_length = omega arith;
}
ahead_comes_first m law answers s good (e ∷ ahead) goes run ok =
    let p : Brought m answers s (e ∷ []) run = own_step_may_come_first m law answers s good run ok e.0 e.1 goes.0 goes.1 in
    let q : Brought m answers (after m s e) ahead p.rest = ahead_comes_first m law answers (after m s e) (state_invariant_step m law s good e goes.1.0) ahead
    goes.2 p.rest p.counts in
    record {
      left = p.left ++ q.left;
      goes = goes_ahead_append m answers (end m s run) p.left q.left p.goes (subst (λ z. GoesAhead m answers z q.left) p.same_end q.goes);
      rest = q.rest;
      counts = q.counts;
      same_end = q.same_end ∙ ap (λ z. end m z q.left) p.same_end ∙ sym (end_append m (end m s run) p.left q.left);
      same_entering = q.same_entering ∙ p.same_entering;
      same_trail = λ u.
          ap (join_if (eqb u e.0) (s.now u, label m s e)) (q.same_trail u)
          ∙ trail_append m s (e ∷ p.rest) q.left u
          ∙ ap (λ z. z ++ trail m (end m (after m s e) p.rest) q.left u) (p.same_trail u)
          ∙ ap (λ z. trail m s (run ++ p.left) u ++ trail m z q.left u) (p.same_end ∙ sym (end_append m s run p.left))
          ∙ sym (trail_append m s (run ++ p.left) q.left u)
          ∙ ap (λ z. trail m s z u) (append_assoc run p.left q.left);
      same_length =
          let a = p.same_length in let b = q.same_length in let c = length-append p.left q.left in omega (arith, a, b, c);
    }

-- where all are done nothing goes on
pub none_ahead_if_done : {T : Type 0} (m : Machine T) (answers : AnswersCall T) (s : State T) → IsDone m s → (left : List Step)
    → GoesAhead m answers s left → left ≡ []
none_ahead_if_done m answers s done [] goes = refl
none_ahead_if_done m answers s done (e ∷ left) goes = absurd (subst (λ q. is_own q ≡ true → ⊥) (sym (done e.0)) (λ h. cc h) goes.0)

-- where all are at rest nothing goes on
pub none_ahead_if_at_rest : {T : Type 0} (m : Machine T) (answers : AnswersCall T) (s : State T) → IsAtRest m s → (left : List Step)
    → GoesAhead m answers s left → left ≡ []
none_ahead_if_at_rest m answers s rest [] goes = refl
none_ahead_if_at_rest m answers s rest (e ∷ left) goes = absurd (let h = rest e.0 in let k = goes.0 in cc (h, k))

-- the run with the steps `ahead` first, of a complete run
pub record BroughtWhole {T : Type 0} (m : Machine T) (answers : AnswersCall T) (s : State T) (ahead run : List Step) : Type 0 where
  pub rest : List Step
  pub counts : RunCounts m answers (end m s ahead) rest
  pub same_end : end m (end m s ahead) rest ≡ end m s run
  pub same_entering : entering m (end m s ahead) rest ≡ entering m s run
  pub same_trail : (u : ℕ) → trail m s (ahead ++ rest) u ≡ trail m s run u
  pub same_length : length ahead + length rest ≡ length run

-- In a complete run that counts, what the threads do up to their next entries may come first: each of its steps is among the run's.
pub ahead_first_if_complete : {T : Type 0} (m : Machine T) → IsLawful m → (answers : AnswersCall T) (s : State T) → StateInvariant m s → (ahead : List Step)
    → GoesAhead m answers s ahead → (run : List Step) → RunCounts m answers s run → IsDone m (end m s run) → BroughtWhole m answers s ahead run
ahead_first_if_complete m law answers s good ahead goes run ok done =
    let b : Brought m answers s ahead run = ahead_comes_first m law answers s good ahead goes run ok in
    let none : b.left ≡ [] = none_ahead_if_done m answers (end m s run) done b.left b.goes in
    record {
      rest = b.rest;
      counts = b.counts;
      same_end = b.same_end ∙ ap (end m (end m s run)) none;
      same_entering = b.same_entering;
      same_trail = λ u. b.same_trail u ∙ ap (λ z. trail m s (run ++ z) u) none ∙ ap (λ z. trail m s z u) (append-nil run);
      same_length = let h = b.same_length in let n : length b.left ≡ 0 = ap length none in omega (arith, h, n);
    }

-- each answer suits its call
abbrev pub AnswersFit : {T : Type 0} → Machine T → AnswersCall T → Type 0
AnswersFit {T} m answers = (t : ℕ) (x : T) (k : EnvKind) → m.ask x ≡ Env k → m.fits k (answers t x) ≡ true

own_step_may_be_taken : {T : Type 0} (m : Machine T) (answers : AnswersCall T) → AnswersFit m answers → (s : State T) (t : ℕ)
    → is_own (asked m s t) ≡ true → Takes m answers s (t, answers t (s.now t))
own_step_may_be_taken m answers fit s t own = by_ask (asked m s t) (answers t (s.now t)) own (λ k is. fit t (s.now t) k is)
  where
    by_ask : (q : Ask) (a : ℕ) → is_own q ≡ true → ((k : EnvKind) → q ≡ Env k → m.fits k a ≡ true)
        → Admits m (act_of q a) (s.objects (target (act_of q a))) × IsAnswered q a a
    by_ask Private a own fits = (tt, tt)
    by_ask (Env k) a own fits = (fits k refl, refl)
    by_ask (Enter o c) a own fits = absurd (cc own)
    by_ask (Try o) a own fits = absurd (cc own)
    by_ask (Leave o c) a own fits = (tt, tt)
    by_ask (Get o i) a own fits = (tt, tt)
    by_ask (Put o i w) a own fits = (tt, tt)
    by_ask Done a own fits = absurd (cc own)

-- some thread has such a step, or none below n
own_ask_or_none : {T : Type 0} (m : Machine T) (s : State T) (n : ℕ) → ((t : ℕ) × (is_own (asked m s t) ≡ true))
    ⊎ ((t : ℕ) → t < n → is_own (asked m s t) ≡ false)
own_ask_or_none m s zero = inr (λ t h. absurd (omega arith))
own_ask_or_none m s (suc n) = elim (own_ask_or_none m s n) [
  | inl p ↦ inl p
  | inr none ↦ elim (true_or_false (is_own (asked m s n))) [
    | inl own ↦ inl (n, own)
    | inr other ↦ inr (λ t h. elim (cases_eq t n) [
      | inl same ↦ subst (λ z. is_own (asked m s z) ≡ false) (sym same) other
      | inr ne ↦ none t (omega (arith, h, ne))
    ])
  ]
]
  where
    true_or_false : (b : Bool) → (b ≡ true) ⊎ (b ≡ false)
    true_or_false true = inl refl
    true_or_false false = inr refl

-- the threads can go on to their next entries or their ends
pub record ComesToRest {T : Type 0} (m : Machine T) (answers : AnswersCall T) (s : State T) : Type 0 where
  pub ahead : List Step
  pub goes : GoesAhead m answers s ahead
  pub at_rest : IsAtRest m (end m s ahead)

done_state_is_at_rest : {T : Type 0} (m : Machine T) (s : State T) → IsDone m s → IsAtRest m s
done_state_is_at_rest m s done t = ap is_own (done t)

-- where a complete run counts, they can
pub completes_comes_to_rest : {T : Type 0} (m : Machine T) → IsLawful m → (answers : AnswersCall T) → AnswersFit m answers → (n count : ℕ) (s : State T) → StateInvariant m s
    → IsIdle m s n → (run : List Step) → RunCounts m answers s run → IsDone m (end m s run) → length run ≤ count → ComesToRest m answers s
completes_comes_to_rest m law answers fit n zero s good idle [] ok done few =
    record { ahead = []; goes = tt; at_rest = done_state_is_at_rest m s done }
completes_comes_to_rest m law answers fit n zero s good idle (e ∷ run) ok done few = absurd (omega (arith, few))
completes_comes_to_rest m law answers fit n (suc count) s good idle run ok done few = elim (own_ask_or_none m s n) [
  | inl own ↦
      let e : Step = (own.0, answers own.0 (s.now own.0)) in
      let takes : Takes m answers s e = own_step_may_be_taken m answers fit s own.0 own.1 in
      let b : BroughtWhole m answers s (e ∷ []) run = ahead_first_if_complete m law answers s good (e ∷ []) (own.1, takes, tt) run ok done in
      let r : ComesToRest m answers (after m s e) = completes_comes_to_rest m law answers fit n count (after m s e) (state_invariant_step m law s good e takes.0)
      (later_threads_stay_done m s n idle e takes.0) b.rest b.counts (subst (IsDone m) (sym b.same_end) done)
      (let h = b.same_length in omega (arith, few, h)) in
      record { ahead = e ∷ r.ahead; goes = (own.1, takes, r.goes); at_rest = r.at_rest }
  | inr none ↦ record {
    ahead = [];
    goes = tt;
    at_rest = λ t. elim (cases_lt t n) [ inl l ↦ none t l | inr g ↦ ap is_own (idle t g) ];
  }
]
