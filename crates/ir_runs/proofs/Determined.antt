-- The state at a consistent cut, and that the trace determines it.
use Rattle.std.proofs.Common.{◌≡◌, ◌≢◌, ℕ, suc, zero, min, ◌+◌, ◌≤◌, Bool, true, false, cond, eqb, List, [], ◌∷◌, ◌++◌, length, take, drop}
use Rattle.std.proofs.Common.{refl, sym, ap, ◌∙◌, subst, arith, inl, inr, eq-eqb, ne_eqb, le_refl, length-append, length-take}
use Rattle.std.proofs.Common.{take-append-drop}
use Rattle.std.proofs.lemmas.Bool.{cases_eq}
use Rattle.ir_runs.specs.Machine.{Machine, Label}
use Rattle.ir_runs.specs.Lawful.{IsLawful}
use Rattle.ir_runs.specs.Run.{State, Step, Can, after, label, IsRun, end, join_if, trail, count, events, th, thread_in, At, Emits, Cut, IsCut, Consistent, part}
use Rattle.ir_runs.specs.Bounds.{IsStart}
use Rattle.ir_runs.proofs.Good.{StateInvariant}
use Rattle.ir_runs.proofs.Append.{events_append}
use Rattle.ir_runs.proofs.Same.{BeginsRun, beginning_logs_begin_run, SameTrailsAndEnd, same_logs_same_trails, thread_after_other, no_counts_empty_run}
use Rattle.ir_runs.proofs.Sort.{PartIsRun, consistent_part_is_run}
use Rattle.ir_runs.specs.Alike.{SameTrace, SameRun}
use Rattle.ir_runs.specs.Admitted.{AtCut, further, Admitted}

-- the cuts of two runs with the same trails
pub same_trails_consistent : {T : Type 0} (m : Machine T) (s : State T) (run run' : List Step) → ((u : ℕ) → trail m s run u ≡ trail m s run' u)
    → (p : Cut) → Consistent m s run p → Consistent m s run' p
same_trails_consistent m s run run' same p c = λ t k u j a b h g n l. c t k u j a b (h.0, subst (λ z. At z k (h.0, a)) (sym (same t)) h.1)
    (g.0, subst (λ z. At z j (g.0, b)) (sym (same u)) g.1) n l

-- what the first steps log is a prefix of the log
-- a part of the run, and then the rest
pub taken_trails_begin_run : {T : Type 0} (m : Machine T) → IsLawful m → (s : State T) → StateInvariant m s → (prefix run : List Step) → IsRun m s prefix
    → IsRun m s run → (n : ℕ → ℕ) → ((t : ℕ) → trail m s prefix t ≡ take (n t) (trail m s run t)) → BeginsRun m s prefix run
taken_trails_begin_run m law s good prefix run ok ok' n same = beginning_logs_begin_run m law s good prefix run ok ok' (λ t. events (drop (n t) (trail m s run t)))
    (λ t. ap (λ z. events z ++ events (drop (n t) (trail m s run t))) (same t)
    ∙ sym (events_append (take (n t) (trail m s run t)) (drop (n t) (trail m s run t)))
    ∙ ap events (take-append-drop (n t) (trail m s run t)))
    (λ t. omega (arith, ap length (same t), length-take (n t) (trail m s run t)))

thread_at_position_zero : {T : Type 0} (m : Machine T) (s : State T) (run : List Step) (t : ℕ)
    → thread_in (trail m s run t) 0 ((end m s run).now t) ≡ s.now t
thread_at_position_zero m s [] t = refl
thread_at_position_zero m s (e ∷ run) t = elim (cases_eq t e.0) [
  | inl same ↦ subst (λ b. thread_in (join_if b (s.now t, label m s e) (trail m (after m s e) run t)) 0 ((end m (after m s e) run).now t) ≡
      s.now t) (sym (eq-eqb t e.0 same)) refl
  | inr other ↦ subst (λ b. thread_in (join_if b (s.now t, label m s e) (trail m (after m s e) run t)) 0 ((end m (after m s e) run).now t) ≡
      s.now t) (sym (ne_eqb t e.0 other)) (thread_at_position_zero m (after m s e) run t ∙ thread_after_other m s e t other)
]

thread_in_append_at_end : {T : Type 0} (xs ys : List (T × Label)) (k : ℕ) (last : T) → length xs ≡ k
    → thread_in (xs ++ ys) k last ≡ thread_in ys 0 last
thread_in_append_at_end [] ys zero last h = refl
thread_in_append_at_end [] ys (suc k) last h = absurd (omega arith)
thread_in_append_at_end (x ∷ xs) ys zero last h = absurd (omega arith)
thread_in_append_at_end (x ∷ xs) ys (suc k) last h = thread_in_append_at_end xs ys k last (omega arith)

-- the thread at a cut
thread_at_prefix_end : {T : Type 0} (m : Machine T) (s : State T) (prefix run : List Step) → BeginsRun m s prefix run → (t k : ℕ) → count m s prefix t ≡ k
    → (end m s prefix).now t ≡ th m s run t k
thread_at_prefix_end m s prefix run g t k h =
    sym (thread_at_position_zero m (end m s prefix) g.rest t)
    ∙ sym (thread_in_append_at_end (trail m s prefix t) (trail m (end m s prefix) g.rest t) k ((end m (end m s prefix) g.rest).now t) h)
    ∙ ap (λ z. thread_in z k ((end m (end m s prefix) g.rest).now t)) (g.same_trail t)
    ∙ ap (λ z. thread_in (trail m s run t) k (z.now t)) g.same_end

-- a run of one step
pub record SingleStep {T : Type 0} (m : Machine T) (s : State T) (run : List Step) (t : ℕ) : Type 0 where
  pub result : ℕ
  pub can : Can m s (t, result)
  pub same_end : after m s (t, result) ≡ end m s run
  pub emits : At (trail m s run t) 0 (s.now t, label m s (t, result))

pub count_of_cons : {T : Type 0} (m : Machine T) (s : State T) (e : Step) (run : List Step) (u : ℕ)
    → count m s (e ∷ run) u ≡ cond (eqb u e.0) (suc (count m (after m s e) run u)) (count m (after m s e) run u)
count_of_cons m s e run u = lengthen (eqb u e.0) (s.now u, label m s e) (trail m (after m s e) run u)
  where
    lengthen : {A : Type 0} (b : Bool) (x : A) (xs : List A) → length (join_if b x xs) ≡ cond b (suc (length xs)) (length xs)
    lengthen true x xs = refl
    lengthen false x xs = refl

one_step_run_is_single : {T : Type 0} (m : Machine T) (s : State T) (run : List Step) → IsRun m s run → (t : ℕ) → count m s run t ≡ 1
    → ((u : ℕ) → u ≢ t → count m s run u ≡ 0) → SingleStep m s run t
one_step_run_is_single m s [] ok t one none = absurd (omega arith)
one_step_run_is_single m s (e ∷ run) ok t one none = elim (cases_eq e.0 t) [
  | inr other ↦ absurd (some_step (eqb e.0 e.0) (eq-eqb e.0 e.0 refl) (count m (after m s e) run e.0)
      (sym (count_of_cons m s e run e.0) ∙ none e.0 other))
  | inl same ↦
      let empty : run ≡ [] = no_counts_empty_run m (after m s e) run (λ u. elim (cases_eq u t) [
        | inl p ↦ last_step (eqb u e.0) (eq-eqb u e.0 (p ∙ sym same)) (count m (after m s e) run u)
            (sym (count_of_cons m s e run u) ∙ ap (count m s (e ∷ run)) p ∙ one)
        | inr p ↦ no_step (eqb u e.0) (ne_eqb u e.0 (λ q. p (q ∙ same))) (count m (after m s e) run u)
            (sym (count_of_cons m s e run u) ∙ none u p)
      ]) in
      subst (λ z. SingleStep m s (e ∷ run) z) same (record {
        result = e.1;
        can = ok.0;
        same_end = ap (end m (after m s e)) (sym empty);
        emits = subst (λ b. At (join_if b (s.now e.0, label m s e) (trail m (after m s e) run e.0)) 0 (s.now e.0, label m s e))
            (sym (eq-eqb e.0 e.0 refl)) refl;
      })
]
  where
    some_step : (b : Bool) → b ≡ true → (n : ℕ) → cond b (suc n) n ≡ 0 → ⊥
    some_step true p n h = let g : suc n ≡ 0 = h in omega arith
    some_step false p n h = cc p

    last_step : (b : Bool) → b ≡ true → (n : ℕ) → cond b (suc n) n ≡ 1 → n ≡ 0
    last_step true p n h = let g : suc n ≡ 1 = h in omega arith
    last_step false p n h = absurd (cc p)

    no_step : (b : Bool) → b ≡ false → (n : ℕ) → cond b (suc n) n ≡ 0 → n ≡ 0
    no_step true p n h = absurd (cc p)
    no_step false p n h = h

take_of_longer_take : {A : Type 0} (n k : ℕ) (xs : List A) → n ≤ k → take n (take k xs) ≡ take n xs
take_of_longer_take zero k xs h = refl
take_of_longer_take (suc n) zero xs h = absurd (omega arith)
take_of_longer_take (suc n) (suc k) [] h = refl
take_of_longer_take (suc n) (suc k) (x ∷ xs) h = ap (λ z. x ∷ z) (take_of_longer_take n k xs (omega arith))

at_of_append_right : {A : Type 0} (xs ys : List A) (k n : ℕ) (x : A) → length xs ≡ n → At ys k x → At (xs ++ ys) (n + k) x
at_of_append_right [] ys k n x h a = let e : k ≡ n + k = omega arith in subst (λ z. At ys z x) e a
at_of_append_right (y ∷ xs) ys k zero x h a = absurd (omega arith)
at_of_append_right (y ∷ xs) ys k (suc n) x h a = let e : suc (n + k) ≡ suc n + k = omega arith in
    subst (λ z. At (y ∷ (xs ++ ys)) z x) e (at_of_append_right xs ys k n x (omega arith) a)

at_if_at_of_take : {A : Type 0} (n : ℕ) (xs : List A) (k : ℕ) (x : A) → At (take n xs) k x → At xs k x
at_if_at_of_take zero xs k x h = absurd h
at_if_at_of_take (suc n) [] k x h = absurd h
at_if_at_of_take (suc n) (y ∷ xs) zero x h = h
at_if_at_of_take (suc n) (y ∷ xs) (suc k) x h = at_if_at_of_take n xs k x h

pub cut_below_further : (p : Cut) (t u : ℕ) → p u ≤ further p t u
cut_below_further p t u = more (eqb u t) (p u)
  where
    more : (b : Bool) (n : ℕ) → n ≤ cond b (suc n) n
    more true n = let g : n ≤ suc n = omega arith in g
    more false n = le_refl n

pub further_at_own_thread : (p : Cut) (t : ℕ) → further p t t ≡ suc (p t)
further_at_own_thread p t = rw (eq-eqb t t refl) refl

pub further_at_other_thread : (p : Cut) (t u : ℕ) → u ≢ t → further p t u ≡ p u
further_at_other_thread p t u ne = rw (ne_eqb u t ne) refl

pub state_at_consistent_cut : {T : Type 0} (m : Machine T) → IsLawful m → (s : State T) → StateInvariant m s → (run : List Step) → IsRun m s run → (p : Cut)
    → IsCut m s run p → Consistent m s run p → AtCut m s run p
state_at_consistent_cut m law s good run ok p cut c =
    let z : PartIsRun m s run p = consistent_part_is_run m law s good run ok p c in
    record {
      runs = z.ok;
      threads = λ t. thread_at_prefix_end m s (part run p) run (taken_trails_begin_run m law s good (part run p) run z.ok ok p z.same_trail) t (p t)
          (omega (arith, ap length (z.same_trail t), length-take (p t) (trail m s run t), cut t));
      steps = λ t ad. one_step t ad z;
    }
  where
    one_step : (t : ℕ) → Admitted m s run p t → PartIsRun m s run p → (r : ℕ) × Can m (end m s (part run p)) (t, r)
        × (after m (end m s (part run p)) (t, r) ≡ end m s (part run (further p t)))
        × Emits m s run t (p t) (label m (end m s (part run p)) (t, r))
    one_step t ad z =
        let q : Cut = further p t in
        let y : PartIsRun m s run q = consistent_part_is_run m law s good run ok q ad.1 in
        let g : BeginsRun m s (part run p) (part run q) =
        taken_trails_begin_run m law s good (part run p) (part run q) z.ok y.ok p
        (λ u. z.same_trail u ∙ sym (take_of_longer_take (p u) (q u) (trail m s run u) (cut_below_further p t u))
        ∙ ap (take (p u)) (sym (y.same_trail u))) in
        let lengths : (u : ℕ) → p u + count m (end m s (part run p)) g.rest u ≡ min (q u) (count m s run u) =
        λ u. omega (
          arith,
          ap length (z.same_trail u),
          length-take (p u) (trail m s run u),
          cut u,
          ap length (y.same_trail u),
          length-take (q u) (trail m s run u),
          ap length (g.same_trail u),
          length-append (trail m s (part run p) u)
              (trail m (end m s (part run p)) g.rest u),
        ) in
        let k : SingleStep m (end m s (part run p)) g.rest t =
        one_step_run_is_single m (end m s (part run p)) g.rest g.ok t (omega (arith, lengths t, further_at_own_thread p t, ad.0))
        (λ u ne. omega (arith, lengths u, further_at_other_thread p t u ne, cut u)) in (
          k.result,
          k.can,
          k.same_end ∙ g.same_end,
          (
            (end m s (part run p)).now t,
            subst (λ i. At (trail m s run t) i ((end m s (part run p)).now t, label m (end m s (part run p)) (t, k.result)))
                (add_zero (p t))
                (at_if_at_of_take (q t) (trail m s run t) (p t + 0) _
                (subst (λ w. At w (p t + 0) ((end m s (part run p)).now t, label m (end m s (part run p)) (t, k.result)))
                (g.same_trail t ∙ y.same_trail t)
                (at_of_append_right (trail m s (part run p) t) (trail m (end m s (part run p)) g.rest t) 0 (p t) _
                (omega (arith, ap length (z.same_trail t), length-take (p t) (trail m s run t), cut t)) k.emits))),
          ),
        )
      where
        add_zero : (n : ℕ) → n + 0 ≡ n
        add_zero n = omega arith

pub same_trace_same_run : {T : Type 0} (m : Machine T) → IsLawful m → (s : State T) → StateInvariant m s → (run run' : List Step) → IsRun m s run
    → IsRun m s run' → SameTrace m s run run' → SameRun m s run run'
same_trace_same_run m law s good run run' ok ok' same =
    let a : SameTrailsAndEnd m s run run' = same_logs_same_trails m law s good run run' ok ok' (λ t. (same t).0) (λ t. (same t).1) in
    record {
      counts = λ t. (same t).1;
      threads = λ t k. ap (λ z. thread_in z k ((end m s run).now t)) (a.same_trail t)
          ∙ ap (λ z. thread_in (trail m s run' t) k (z.now t)) a.same_end;
      cuts = λ p. (same_trails_consistent m s run run' a.same_trail p, same_trails_consistent m s run' run (λ u. sym (a.same_trail u)) p);
      objects = λ p c o.
          let z : PartIsRun m s run p = consistent_part_is_run m law s good run ok p c in
          let z' : PartIsRun m s run' p = consistent_part_is_run m law s good run' ok' p (same_trails_consistent m s run run' a.same_trail p c) in
          let e : (u : ℕ) → trail m s (part run p) u ≡ trail m s (part run' p) u = λ u. z.same_trail u ∙ ap (take (p u)) (a.same_trail u)
          ∙ sym (z'.same_trail u) in
          ap (λ y. y.objects o) (same_logs_same_trails m law s good (part run p) (part run' p) z.ok z'.ok (λ u. ap events (e u))
          (λ u. ap length (e u))).same_end;
    }
