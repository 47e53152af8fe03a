-- A thread's first step of a run, taken immediately.
-- an entry that was taken, as the object saw it
use Rattle.std.proofs.Common.{◌≡◌, ◌≢◌, ℕ, suc, zero, Bool, true, false, eqb, List, [], ◌∷◌, Some, refl, sym, ap, ◌∙◌, subst, arith, inl, inr, eq-eqb, ne_eqb, append-nil, ◌++◌}
use Rattle.std.proofs.lemmas.Bool.{cases_eq, eqb-true}
use Rattle.ir_runs.specs.Machine.{Ask, Private, Env, Enter, Try, Leave, Get, Put, Done, Act, act_of, Entered, Machine, Object, target}
use Rattle.ir_runs.specs.Machine.{Admits, acted, emitted, Label, Quiet, Answer, EnteredAt, FailedTry, LeftAt, logged}
use Rattle.ir_runs.specs.Lawful.{IsLawful}
use Rattle.ir_runs.specs.declared.access.Access.{Access}
use Rattle.ir_runs.specs.declared.access.Access.TheVariants.{Reading, Writing}
use Rattle.ir_runs.proofs.Tables.{upd_at_own_place}
use Rattle.ir_runs.specs.Run.{act, State, after_act, Step, asked, Can, after, label, IsRun, end, join_if, trail, At}
use Rattle.ir_runs.proofs.Good.{StateInvariant, state_invariant_step}
use Rattle.ir_runs.proofs.Ratchet.{TakenStep, step_of_trail_was_taken, WritesOrPast, ReadsOrPast, writes_or_past_is_kept, reads_or_past_is_kept, Entering, emitted_entry_is_entering}
use Rattle.ir_runs.proofs.Steps.{Clashes, StepUnchanged, step_unchanged_by_other, steps_commute}
use Rattle.ir_runs.proofs.Swap.{Clash}

pub record TakenEntry {T : Type 0} (m : Machine T) (R : Object → Type 0) (o : ℕ) (a : Access) (v l : ℕ) : Type 0 where
  pub object : Object
  pub answer : ℕ
  pub kept : R object
  pub admits : Admits m (Entered o a answer) object
  pub version : object.version ≡ v
  pub left : a ≡ Writing → object.left ≡ l

pub taken_entry_saw_object : {T : Type 0} (m : Machine T) (R : Object → Type 0) (o : ℕ) (a : Access) (v l t : ℕ) → TakenStep m R o t (EnteredAt o a v l)
    → TakenEntry m R o a v l
taken_entry_saw_object m R o a v l t k =
    let q : Act = act m k.state k.step in
    let e : Entering m (k.state.objects (target q)) o a v l q = emitted_entry_is_entering m q (k.state.objects (target q)) o a v l k.emits in
    record {
      object = k.state.objects o;
      answer = e.answer;
      kept = k.kept;
      admits = subst (λ z. Admits m z (k.state.objects (target z))) e.does k.can;
      version = ap (λ z. (k.state.objects (target z)).version) (sym e.does) ∙ e.version;
      left = λ w. ap (λ z. (k.state.objects (target z)).left) (sym e.does) ∙ e.left w;
    }

pub entry_not_past_writer : {T : Type 0} (m : Machine T) (v u o : ℕ) (a : Access) (l : ℕ) → TakenEntry m (WritesOrPast v u) o a v l → ⊥
entry_not_past_writer m v u o Reading l e = elim e.kept [ inl p ↦ omega (arith, p, e.version) | inr p ↦ e.admits u p.1 ]
entry_not_past_writer m v u o Writing l e = elim e.kept [ inl p ↦ omega (arith, p, e.version) | inr p ↦ cc (e.admits u, p.1) ]

pub write_not_past_reader : {T : Type 0} (m : Machine T) (v u o l : ℕ) → TakenEntry m (ReadsOrPast v l u) o Writing v l → ⊥
write_not_past_reader m v u o l e = elim e.kept [
  | inl p ↦ omega (arith, p, e.version)
  | inr p ↦ elim p.1
      [ inl q ↦ omega (arith, q, e.left refl) | inr q ↦ cc (e.admits u, q.1) ]
]

pub target_object_step : {T : Type 0} (m : Machine T) (s : State T) (e : Step) (q : Act) → act m s e ≡ q
    → (after m s e).objects (target q) ≡ acted q e.0 (s.objects (target q))
unfolding after
target_object_step m s e q p = subst (λ z. (after m s e).objects (target z) ≡ acted z e.0 (s.objects (target z))) p
    (upd_at_own_place s.objects (target (act m s e)) _)

-- after an entry, another that clashed with it emits something else
clash_does_not_recur : {T : Type 0} (m : Machine T) → IsLawful m → (s : State T) → StateInvariant m s → (e : Step) → Can m s e → (run : List Step)
    → IsRun m (after m s e) run → (t k : ℕ) (x : T)
    → (q' q : Act) → act m s e ≡ q' → target q ≡ target q' → Clash q' q
    → At (trail m (after m s e) run t) k (x, emitted q (s.objects (target q))) → ⊥
clash_does_not_recur m law s good e can run ok t k x (Entered o Writing ans) (Entered p Reading ans') is same c h =
    entry_not_past_writer m (s.objects p).version e.0 p Reading 0 (taken_entry_saw_object m (WritesOrPast (s.objects p).version e.0) p Reading _ _ t
    (step_of_trail_was_taken m law (WritesOrPast (s.objects p).version e.0) (writes_or_past_is_kept m _ _) (after m s e) (state_invariant_step m law s good e can) run ok p
    (inr (subst (λ z. (((after m s e).objects z).version ≡ (s.objects z).version) × (((after m s e).objects z).inside e.0 ≡ Some Writing))
    (sym same) (
      ap (λ z. z.version) (target_object_step m s e (Entered o Writing ans) is),
      ap (λ z. z.inside e.0)
          (target_object_step m s e (Entered o Writing ans) is) ∙ upd_at_own_place (s.objects o).inside e.0 (Some Writing),
    )))
    t k x _ h))
clash_does_not_recur m law s good e can run ok t k x (Entered o Writing ans) (Entered p Writing ans') is same c h =
    entry_not_past_writer m (s.objects p).version e.0 p Writing (s.objects p).left (taken_entry_saw_object m (WritesOrPast (s.objects p).version e.0) p Writing _ _ t
    (step_of_trail_was_taken m law (WritesOrPast (s.objects p).version e.0) (writes_or_past_is_kept m _ _) (after m s e) (state_invariant_step m law s good e can) run ok p
    (inr (subst (λ z. (((after m s e).objects z).version ≡ (s.objects z).version) × (((after m s e).objects z).inside e.0 ≡ Some Writing))
    (sym same) (
      ap (λ z. z.version) (target_object_step m s e (Entered o Writing ans) is),
      ap (λ z. z.inside e.0)
          (target_object_step m s e (Entered o Writing ans) is) ∙ upd_at_own_place (s.objects o).inside e.0 (Some Writing),
    )))
    t k x _ h))
clash_does_not_recur m law s good e can run ok t k x (Entered o Reading ans) (Entered p Writing ans') is same c h =
    write_not_past_reader m (s.objects p).version e.0 p (s.objects p).left
    (taken_entry_saw_object m (ReadsOrPast (s.objects p).version (s.objects p).left e.0) p Writing _ _ t
    (step_of_trail_was_taken m law (ReadsOrPast (s.objects p).version (s.objects p).left e.0) (reads_or_past_is_kept m _ _ _) (after m s e) (state_invariant_step m law s good e can) run
    ok p
    (subst (λ z. ReadsOrPast (s.objects z).version (s.objects z).left e.0 ((after m s e).objects z)) (sym same)
    (inr (
      ap (λ z. z.version) (target_object_step m s e (Entered o Reading ans) is),
      inr (
        ap (λ z. z.left) (target_object_step m s e (Entered o Reading ans) is),
        ap (λ z. z.inside e.0)
            (target_object_step m s e (Entered o Reading ans) is) ∙ upd_at_own_place (s.objects o).inside e.0 (Some Reading),
      ),
    )))
    t k x _ h))
clash_does_not_recur m law s good e can run ok t k x (Entered o Reading ans) (Entered p Reading ans') is same c h = c
clash_does_not_recur m law s good e can run ok t k x _ _ is same c h = absurd c

pub clash_is_symmetric : (q q' : Act) → Clash q q' → Clash q' q
clash_is_symmetric (Entered o Writing ans) (Entered p Reading ans') c = tt
clash_is_symmetric (Entered o Writing ans) (Entered p Writing ans') c = tt
clash_is_symmetric (Entered o Reading ans) (Entered p Writing ans') c = tt
clash_is_symmetric (Entered o Reading ans) (Entered p Reading ans') c = c
clash_is_symmetric _ _ c = absurd c

-- results with which an ask logs the same are one act
pub act_same_if_logs_same : {T : Type 0} (m : Machine T) (q : Ask) (r r' : ℕ) (b b' : Object) (xs ys zs : List Label) → Admits m (act_of q r) b
    → Admits m (act_of q r') b' → logged (emitted (act_of q r) b) xs ++ ys ≡ logged (emitted (act_of q r') b') zs → act_of q r ≡ act_of q r'
act_same_if_logs_same m Private r r' b b' xs ys zs can can' h = refl
act_same_if_logs_same m (Env k) r r' b b' xs ys zs can can' h = cc h
act_same_if_logs_same m (Enter o a) r r' b b' xs ys zs can can' h = refl
act_same_if_logs_same m (Try o) zero zero b b' xs ys zs can can' h = refl
act_same_if_logs_same m (Try o) zero (suc zero) b b' xs ys zs can can' h = absurd (cc h)
act_same_if_logs_same m (Try o) zero (suc (suc r')) b b' xs ys zs can can' h = absurd can'
act_same_if_logs_same m (Try o) (suc zero) zero b b' xs ys zs can can' h = absurd (cc h)
act_same_if_logs_same m (Try o) (suc zero) (suc zero) b b' xs ys zs can can' h = refl
act_same_if_logs_same m (Try o) (suc zero) (suc (suc r')) b b' xs ys zs can can' h = absurd can'
act_same_if_logs_same m (Try o) (suc (suc r)) r' b b' xs ys zs can can' h = absurd can
act_same_if_logs_same m (Leave o a) r r' b b' xs ys zs can can' h = refl
act_same_if_logs_same m (Get o j) r r' b b' xs ys zs can can' h = refl
act_same_if_logs_same m (Put o j w) r r' b b' xs ys zs can can' h = refl
act_same_if_logs_same m Done r r' b b' xs ys zs can can' h = refl

pub after_same_if_act_same : {T : Type 0} (m : Machine T) (s : State T) (t r r' : ℕ) → act m s (t, r) ≡ act m s (t, r')
    → after m s (t, r) ≡ after m s (t, r')
unfolding after
after_same_if_act_same m s t r r' h = ap (after_act m s t (s.now t)) h

-- the run with the step of t first
pub record PulledFirst {T : Type 0} (m : Machine T) (s : State T) (run : List Step) (t r : ℕ) : Type 0 where
  pub rest : List Step
  pub ok : IsRun m (after m s (t, r)) rest
  pub same_end : end m (after m s (t, r)) rest ≡ end m s run
  pub same_trail : (u : ℕ) → trail m s ((t, r) ∷ rest) u ≡ trail m s run u

pub join_if_commutes : {A : Type 0} (b c : Bool) (x x' y y' : A) (xs : List A) → (b ≡ true → c ≡ true → ⊥) → (b ≡ true → x ≡ x') → (c ≡ true → y ≡ y')
    → join_if b x (join_if c y xs) ≡ join_if c y' (join_if b x' xs)
join_if_commutes true true x x' y y' xs f p q = absurd (f refl refl)
join_if_commutes true false x x' y y' xs f p q = ap (λ z. z ∷ xs) (p refl)
join_if_commutes false true x x' y y' xs f p q = ap (λ z. z ∷ xs) (q refl)
join_if_commutes false false x x' y y' xs f p q = refl

heads_equal : {A : Type 0} (x y : A) (xs ys : List A) → (x ∷ xs) ≡ (y ∷ ys) → x ≡ y
heads_equal x y xs ys h = cc h

-- what logs an entry is the entry
label_is_entry : (k : Label) (o : ℕ) (a : Access) (v l : ℕ) → logged k [] ≡ EnteredAt o a v l ∷ [] → k ≡ EnteredAt o a v l
label_is_entry Quiet o a v l h = absurd (cc h)
label_is_entry (Answer i w) o a v l h = cc h
label_is_entry (EnteredAt p c v' l') o a v l h = cc h
label_is_entry (FailedTry p) o a v l h = absurd (cc h)
label_is_entry (LeftAt p c v') o a v l h = absurd (cc h)

clashing_label_same : (q' q : Act) (b : Object) (k : Label) → Clash q' q → logged k [] ≡ logged (emitted q b) [] → k ≡ emitted q b
clashing_label_same q' (Entered o Reading x) b k c h = label_is_entry k o Reading _ _ h
clashing_label_same q' (Entered o Writing x) b k c h = label_is_entry k o Writing _ _ h
clashing_label_same (Entered p Reading x) _ b k c h = absurd c
clashing_label_same (Entered p Writing x) _ b k c h = absurd c
clashing_label_same _ _ b k c h = absurd c

pulled_first_own_step : {T : Type 0} (m : Machine T) (s : State T) (e : Step) (run : List Step) → IsRun m s (e ∷ run) → (r : ℕ) → Can m s (e.0, r)
    → logged (label m s e) [] ≡ logged (label m s (e.0, r)) [] → PulledFirst m s (e ∷ run) e.0 r
pulled_first_own_step m s e run ok r can h =
    let a : act m s (e.0, r) ≡ act m s e = sym (act_same_if_logs_same m (asked m s e.0) e.1 r (s.objects (target (act m s e)))
    (s.objects (target (act m s (e.0, r)))) [] [] [] ok.0 can (append-nil _ ∙ h)) in
    let p : after m s (e.0, r) ≡ after m s e = after_same_if_act_same m s e.0 r e.1 a in
    record {
      rest = run;
      ok = subst (λ z. IsRun m z run) (sym p) ok.1;
      same_end = ap (λ z. end m z run) p;
      same_trail = λ u. ap (λ z. join_if (eqb u e.0) (s.now u, label m s (e.0, r)) (trail m z run u)) p
          ∙ ap (λ z. join_if (eqb u e.0) (s.now u, emitted z (s.objects (target z))) (trail m (after m s e) run u)) a;
    }

pulled_past_other_step : {T : Type 0} (m : Machine T) → IsLawful m → (s : State T) → StateInvariant m s → (e : Step) (run : List Step) → IsRun m s (e ∷ run)
    → (t r : ℕ) → t ≢ e.0 → Can m s (t, r) → (x : T) (j : Label) → At (trail m (after m s e) run t) 0 (x, j)
    → logged j [] ≡ logged (label m s (t, r)) []
    → (Can m (after m s e) (t, r) → logged j [] ≡ logged (label m (after m s e) (t, r)) [] → PulledFirst m (after m s e) run t r)
    → PulledFirst m s (e ∷ run) t r
pulled_past_other_step m law s good e run ok t r other can x j h l ih =
    let free : Clashes m s e (t, r) → ⊥ = λ c. clash_does_not_recur m law s good e ok.0 run ok.1 t 0 x (act m s e) (act m s (t, r)) refl c.0 c.1
    (subst (λ z. At (trail m (after m s e) run t) 0 (x, z))
    (clashing_label_same (act m s e) (act m s (t, r)) (s.objects (target (act m s (t, r)))) j c.1 l) h) in
    let free' : Clashes m s (t, r) e → ⊥ = λ c. free (sym c.0, clash_is_symmetric _ _ c.1) in
    let k : StepUnchanged m s e (t, r) = step_unchanged_by_other m law s good e (t, r) (λ p. other (sym p)) ok.0 can free in
    let k' : StepUnchanged m s (t, r) e = step_unchanged_by_other m law s good (t, r) e other can ok.0 free' in
    let q : PulledFirst m (after m s e) run t r = ih k.can (l ∙ ap (λ z. logged z []) (sym k.label_same)) in
    let p : after m (after m s (t, r)) e ≡ after m (after m s e) (t, r) = steps_commute m law s good (t, r) e other can ok.0 free' free in
    record {
      rest = e ∷ q.rest;
      ok = (k'.can, subst (λ z. IsRun m z q.rest) (sym p) q.ok);
      same_end = ap (λ z. end m z q.rest) p ∙ q.same_end;
      same_trail = λ u.
          ap (λ z. join_if (eqb u t) (s.now u, label m s (t, r))
          (join_if (eqb u e.0) ((after m s (t, r)).now u, label m (after m s (t, r)) e) (trail m z q.rest u))) p
          ∙ join_if_commutes (eqb u t) (eqb u e.0) (s.now u, label m s (t, r)) ((after m s e).now u, label m (after m s e) (t, r))
          ((after m s (t, r)).now u, label m (after m s (t, r)) e) (s.now u, label m s e) (trail m (after m (after m s e) (t, r)) q.rest u)
          (λ a b. other (sym (eqb-true u t a) ∙ eqb-true u e.0 b))
          (λ a. λ i. (subst (λ z. s.now z ≡ (after m s e).now z) (sym (eqb-true u t a)) (sym k.now_same) i, sym k.label_same i))
          (λ b. λ i. (subst (λ z. (after m s (t, r)).now z ≡ s.now z) (sym (eqb-true u e.0 b)) k'.now_same i, k'.label_same i))
          ∙ ap (join_if (eqb u e.0) (s.now u, label m s e)) (q.same_trail u);
    }

-- A step that can be taken, and that logs what the thread's first step in the run logs, may come first.
pub step_can_come_first : {T : Type 0} (m : Machine T) → IsLawful m → (s : State T) → StateInvariant m s → (run : List Step) → IsRun m s run → (t r : ℕ)
    → Can m s (t, r) → (x : T) (j : Label) → At (trail m s run t) 0 (x, j) → logged j [] ≡ logged (label m s (t, r)) [] → PulledFirst m s run t r
step_can_come_first m law s good [] ok t r can x j h l = absurd h
step_can_come_first m law s good (e ∷ run) ok t r can x j h l = elim (cases_eq t e.0) [
  | inl same ↦ subst (λ z. PulledFirst m s (e ∷ run) z r) (sym same) (pulled_first_own_step m s e run ok r
      (subst (λ z. Can m s (z, r)) same can)
      (ap (λ z. logged z.1 []) (subst (λ b. At (join_if b (s.now t, label m s e) (trail m (after m s e) run t)) 0 (x, j))
      (eq-eqb t e.0 same) h) ∙ subst (λ z. logged j [] ≡ logged (label m s (z, r)) []) same l))
  | inr other ↦ pulled_past_other_step m law s good e run ok t r other can x j
      (subst (λ b. At (join_if b (s.now t, label m s e) (trail m (after m s e) run t)) 0 (x, j)) (ne_eqb t e.0 other) h) l
      (λ c a. step_can_come_first m law (after m s e) (state_invariant_step m law s good e ok.0) run ok.1 t r c x j
      (subst (λ b. At (join_if b (s.now t, label m s e) (trail m (after m s e) run t)) 0 (x, j)) (ne_eqb t e.0 other) h) a)
]
