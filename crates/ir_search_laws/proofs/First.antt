-- A step that no other can refuse may come first.
use Rattle.std.proofs.Common.{◌≡◌, ◌≢◌, ℕ, true, cond, eqb, List, [], ◌∷◌, refl, sym, ap, ◌∙◌, subst, arith, inl, inr, append-nil}
use Rattle.std.proofs.lemmas.Bool.{cases_eq, eqb-true}
use Rattle.ir_runs.specs.Machine.{Ask, Private, Env, Enter, Try, Leave, Get, Put, Done, Act, act_of, Replied, Entered, Machine, target, emitted}
use Rattle.ir_runs.specs.Lawful.{IsLawful}
use Rattle.ir_runs.specs.declared.access.Access.TheVariants.{Reading, Writing}
use Rattle.ir_runs.specs.Run.{State, Step, asked, act, after, label, end, join_if, trail}
use Rattle.ir_runs.proofs.CallerLemmas.{StateInvariant, state_invariant_step, Clash, IsEntry, Clashes, StepUnchanged}
use Rattle.ir_runs.proofs.CallerLemmas.{step_unchanged_by_other, steps_commute, after_same_if_act_same, clash_is_symmetric}
use Rattle.ir_runs.proofs.CallerLemmas.{join_if_commutes}
use Rattle.ir_search_laws.specs.Counting.{AnswersCall, IsAnswered, Takes, RunCounts, is_own, entering, Brought}

-- what clashes with an entry is an entry
clash_with_entry : (q q' : Act) → Clash q q' → IsEntry q'
clash_with_entry (Entered o Writing x) (Entered p a y) c = tt
clash_with_entry (Entered o Reading x) (Entered p Writing y) c = tt
clash_with_entry (Entered o Reading x) (Entered p Reading y) c = tt
clash_with_entry _ _ c = absurd c

own_act_is_no_entry : (q : Ask) (r : ℕ) → is_own q ≡ true → IsEntry (act_of q r) → ⊥
own_act_is_no_entry Private r own h = h
own_act_is_no_entry (Env k) r own h = h
own_act_is_no_entry (Enter o a) r own h = cc own
own_act_is_no_entry (Try o) r own h = cc own
own_act_is_no_entry (Leave o a) r own h = h
own_act_is_no_entry (Get o i) r own h = h
own_act_is_no_entry (Put o i w) r own h = h
own_act_is_no_entry Done r own h = h

-- such a step does one thing
pub answering_acts_equal : (q : Ask) (answer r r' : ℕ) → is_own q ≡ true → IsAnswered q answer r → IsAnswered q answer r' → act_of q r ≡ act_of q r'
answering_acts_equal Private answer r r' own a b = refl
answering_acts_equal (Env k) answer r r' own a b = ap (Replied k) (a ∙ sym b)
answering_acts_equal (Enter o a) answer r r' own _ b = absurd (cc own)
answering_acts_equal (Try o) answer r r' own a b = absurd (cc own)
answering_acts_equal (Leave o c) answer r r' own a b = refl
answering_acts_equal (Get o i) answer r r' own a b = refl
answering_acts_equal (Put o i w) answer r r' own a b = refl
answering_acts_equal Done answer r r' own a b = refl

-- the thread's own step, and that of another before it
own_step_first_begun : {T : Type 0} (m : Machine T) (answers : AnswersCall T) (s : State T) (run : List Step) (t r r' : ℕ)
    → Takes m answers s (t, r') → RunCounts m answers (after m s (t, r')) run → is_own (asked m s t) ≡ true → Takes m answers s (t, r)
    → Brought m answers s ((t, r) ∷ []) ((t, r') ∷ run)
own_step_first_begun m answers s run t r r' taken ok own takes =
    let a : act m s (t, r') ≡ act m s (t, r) = answering_acts_equal (asked m s t) (answers t (s.now t)) r' r own taken.1 takes.1 in
    let p : after m s (t, r') ≡ after m s (t, r) = after_same_if_act_same m s t r' r a in
    record {
      left = [];
      goes = tt;
      rest = run;
      counts = subst (λ z. RunCounts m answers z run) p ok;
      same_end = ap (λ z. end m z run) (sym p);
      same_entering = ap (λ z. entering m z run) (sym p)
          ∙ ap (λ b. cond b (entering m (after m s (t, r')) run) (t ∷ entering m (after m s (t, r')) run)) (sym own);
      same_trail = λ u. ap (λ q. join_if (eqb u t) (s.now u, emitted q (s.objects (target q))) (trail m (after m s (t, r)) run u)) (sym a)
          ∙ ap (λ z. join_if (eqb u t) (s.now u, label m s (t, r')) (trail m z run u)) (sym p)
          ∙ ap (λ z. trail m s ((t, r') ∷ z) u) (sym (append-nil run));
      same_length = omega arith;
    }

own_step_first_other : {T : Type 0} (m : Machine T) → IsLawful m → (answers : AnswersCall T) (s : State T) → StateInvariant m s → (e : Step) (run : List Step)
    → Takes m answers s e → (t r : ℕ) → t ≢ e.0 → is_own (asked m s t) ≡ true → Takes m answers s (t, r)
    → (is_own (asked m (after m s e) t) ≡ true → Takes m answers (after m s e) (t, r) → Brought m answers (after m s e) ((t, r) ∷ []) run)
    → Brought m answers s ((t, r) ∷ []) (e ∷ run)
own_step_first_other m law answers s good e run taken t r other own takes ih =
    let free : Clashes m s e (t, r) → ⊥ = λ c. own_act_is_no_entry (asked m s t) r own (clash_with_entry _ _ c.1) in
    let free' : Clashes m s (t, r) e → ⊥ = λ c. own_act_is_no_entry (asked m s t) r own (clash_with_entry _ _ (clash_is_symmetric _ _ c.1)) in
    let k : StepUnchanged m s e (t, r) = step_unchanged_by_other m law s good e (t, r) (λ p. other (sym p)) taken.0 takes.0 free in
    let k' : StepUnchanged m s (t, r) e = step_unchanged_by_other m law s good (t, r) e other takes.0 taken.0 free' in
    let q : Brought m answers (after m s e) ((t, r) ∷ []) run = ih (ap (λ x. is_own (m.ask x)) k.now_same ∙ own)
    (k.can, subst (λ x. IsAnswered (m.ask x) (answers t x) r) (sym k.now_same) takes.1) in
    let p : after m (after m s (t, r)) e ≡ after m (after m s e) (t, r) = steps_commute m law s good (t, r) e other takes.0 taken.0 free' free in
    record {
      left = q.left;
      goes = q.goes;
      rest = e ∷ q.rest;
      counts = (
        (k'.can, subst (λ x. IsAnswered (m.ask x) (answers e.0 x) e.1) (sym k'.now_same) taken.1),
        subst (λ z. RunCounts m answers z q.rest) (sym p) q.counts,
      );
      same_end = ap (λ z. end m z q.rest) p ∙ q.same_end;
      same_entering = ap (λ z. cond (is_own (asked m (after m s (t, r)) e.0)) (entering m z q.rest) (e.0 ∷ entering m z q.rest)) p
          ∙ ap (λ x. cond (is_own (m.ask x)) (entering m (after m (after m s e) (t, r)) q.rest)
          (e.0 ∷ entering m (after m (after m s e) (t, r)) q.rest)) k'.now_same
          ∙ ap (λ z. cond (is_own (asked m s e.0)) z (e.0 ∷ z)) q.same_entering;
      same_trail = λ u.
          ap (λ z. join_if (eqb u t) (s.now u, label m s (t, r))
          (join_if (eqb u e.0) ((after m s (t, r)).now u, label m (after m s (t, r)) e) (trail m z q.rest u))) p
          ∙ join_if_commutes (eqb u t) (eqb u e.0) (s.now u, label m s (t, r)) ((after m s e).now u, label m (after m s e) (t, r))
          ((after m s (t, r)).now u, label m (after m s (t, r)) e) (s.now u, label m s e) (trail m (after m (after m s e) (t, r)) q.rest u)
          (λ a b. other (sym (eqb-true u t a) ∙ eqb-true u e.0 b))
          (λ a. λ i. (subst (λ z. s.now z ≡ (after m s e).now z) (sym (eqb-true u t a)) (sym k.now_same) i, sym k.label_same i))
          (λ b. λ i. (subst (λ z. (after m s (t, r)).now z ≡ s.now z) (sym (eqb-true u e.0 b)) k'.now_same i, k'.label_same i))
          ∙ ap (join_if (eqb u e.0) (s.now u, label m s e)) (q.same_trail u);
      same_length = let h = q.same_length in omega (arith, h);
    }

-- in a run that counts, such a step that counts may come first
pub own_step_may_come_first : {T : Type 0} (m : Machine T) → IsLawful m → (answers : AnswersCall T) (s : State T) → StateInvariant m s → (run : List Step)
    → RunCounts m answers s run → (t r : ℕ) → is_own (asked m s t) ≡ true → Takes m answers s (t, r) → Brought m answers s ((t, r) ∷ []) run
own_step_may_come_first m law answers s good [] ok t r own takes = record {
  left = (t, r) ∷ [];
  goes = (own, takes, tt);
  rest = [];
  counts = tt;
  same_end = refl;
  same_entering = refl;
  same_trail = λ u. refl;
  same_length = omega arith;
}
own_step_may_come_first m law answers s good (e ∷ run) ok t r own takes = elim (cases_eq t e.0) [
  | inl same ↦ subst (λ z. Brought m answers s ((z, r) ∷ []) (e ∷ run)) (sym same) (own_step_first_begun m answers s run e.0 r e.1 ok.0 ok.1
      (subst (λ z. is_own (asked m s z) ≡ true) same own) (subst (λ z. Takes m answers s (z, r)) same takes))
  | inr other ↦ own_step_first_other m law answers s good e run ok.0 t r other own takes
      (λ o c. own_step_may_come_first m law answers (after m s e) (state_invariant_step m law s good e ok.0.0) run ok.1 t r o c)
]
