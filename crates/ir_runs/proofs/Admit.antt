-- A step that follows the run's log at a cut is admitted there.
use Rattle.std.proofs.Common.{◌≡◌, ◌≢◌, ℕ, suc, zero, ◌<◌, ◌≤◌, cond, eqb, List, [], ◌∷◌, ◌++◌, length, take, drop, refl, sym, ap, ◌∙◌}
use Rattle.std.proofs.Common.{subst, arith, inl, inr, append-nil, append_assoc, eq-eqb, ne_eqb, take-append-drop, length-take}
use Rattle.std.proofs.Common.{length-append, pred, Bool, true, false, ltb, ◌⊎◌}
use Rattle.std.proofs.lemmas.Bool.{cases_eq, cases_lt}
use Rattle.ir_runs.specs.Machine.{Machine, Label, Quiet, Answer, EnteredAt, FailedTry, LeftAt, logged}
use Rattle.ir_runs.specs.Lawful.{IsLawful}
use Rattle.ir_runs.specs.Run.{State, Step, Can, IsRun, end, join_if, trail, events, log, count, label, At, Emits, Cut, IsCut, Consistent, part}
use Rattle.ir_runs.proofs.Good.{StateInvariant}
use Rattle.ir_runs.proofs.Append.{trail_append, append_of_runs_is_run, events_append}
use Rattle.ir_runs.proofs.Early.{moment}
use Rattle.ir_runs.proofs.Determined.{same_trails_consistent, further_at_own_thread, further_at_other_thread}
use Rattle.ir_runs.proofs.Early.{moment_is_consistent}
use Rattle.ir_runs.proofs.Order.{moment_at_length, equal_cut_is_consistent}
use Rattle.ir_runs.proofs.Same.{BeginsRun, beginning_logs_begin_run}
use Rattle.ir_runs.proofs.Sort.{PartIsRun, consistent_part_is_run}
use Rattle.ir_runs.specs.Admitted.{further, Admitted}
use Rattle.ir_runs.specs.Bounds.{lower}

logged_is_append : (k : Label) (es : List Label) → logged k es ≡ logged k [] ++ es
logged_is_append Quiet es = refl
logged_is_append (Answer i v) es = refl
logged_is_append (EnteredAt o a v l) es = refl
logged_is_append (FailedTry o) es = refl
logged_is_append (LeftAt o a v) es = refl

logged_same_by_empty : (k j : Label) (es : List Label) → logged k [] ≡ logged j [] → logged k es ≡ logged j es
logged_same_by_empty k j es h = logged_is_append k es ∙ ap (λ z. z ++ es) h ∙ sym (logged_is_append j es)

-- a list cut at a place
pub drop_at_element : {A : Type 0} (xs : List A) (n : ℕ) (x : A) → At xs n x → drop n xs ≡ x ∷ drop (suc n) xs
drop_at_element [] n x h = absurd h
drop_at_element (y ∷ ys) zero x h = ap (λ z. z ∷ ys) h
drop_at_element (y ∷ ys) (suc n) x h = drop_at_element ys n x h

index_of_element_below : {A : Type 0} (xs : List A) (n : ℕ) (x : A) → At xs n x → n < length xs
index_of_element_below [] n x h = absurd h
index_of_element_below (y ∷ ys) zero x h = omega arith
index_of_element_below (y ∷ ys) (suc n) x h = omega (arith, index_of_element_below ys n x h)

-- one more step, which logs what the step at place n logs
same_log_step_replaced : {T : Type 0} (xs : List (T × Label)) (n : ℕ) (y x : T) (j k : Label) → At xs n (x, k) → logged k [] ≡ logged j []
    → events (take n xs ++ (y, j) ∷ []) ++ events (drop (suc n) xs) ≡ events xs
same_log_step_replaced xs n y x j k h l =
    ap (λ z. z ++ events (drop (suc n) xs)) (events_append (take n xs) ((y, j) ∷ []))
    ∙ append_assoc (events (take n xs)) (logged j []) (events (drop (suc n) xs))
    ∙ ap (λ z. events (take n xs) ++ z) (sym (logged_is_append j (events (drop (suc n) xs))) ∙ sym (logged_same_by_empty k j (events (drop (suc n) xs)) l)
    ∙ ap events (sym (drop_at_element xs n (x, k) h)))
    ∙ sym (events_append (take n xs) (drop n xs)) ∙ ap events (take-append-drop n xs)

pub moment_append_at_end : (run more : List Step) (t : ℕ) → moment (run ++ more) (length run) t ≡ moment run (length run) t
moment_append_at_end [] more t = refl
moment_append_at_end (e ∷ run) more t = ap (λ z. cond (eqb t e.0) (suc z) z) (moment_append_at_end run more t)

pub admitted_by_log : {T : Type 0} (m : Machine T) → IsLawful m → (s : State T) → StateInvariant m s → (run : List Step) → IsRun m s run → (p : Cut)
    → IsCut m s run p → Consistent m s run p → (t r : ℕ) (k : Label) → Can m (end m s (part run p)) (t, r) → Emits m s run t (p t) k
    → logged k [] ≡ logged (label m (end m s (part run p)) (t, r)) [] → Admitted m s run p t
admitted_by_log m law s good run ok p cut c t r k can emits l =
    let z : PartIsRun m s run p = consistent_part_is_run m law s good run ok p c in
    let s1 = end m s (part run p) in
    let prefix : List Step = part run p ++ (t, r) ∷ [] in
    let more : (u : ℕ) → trail m s prefix u ≡ take (p u) (trail m s run u) ++ join_if (eqb u t) (s1.now u, label m s1 (t, r)) [] =
    λ u. trail_append m s (part run p) ((t, r) ∷ []) u
    ∙ ap (λ y. y ++ join_if (eqb u t) (s1.now u, label m s1 (t, r)) []) (z.same_trail u) in
    let at_t : trail m s prefix t ≡ take (p t) (trail m s run t) ++ (s1.now t, label m s1 (t, r)) ∷ [] = more t
    ∙ ap (λ b. take (p t) (trail m s run t) ++ join_if b (s1.now t, label m s1 (t, r)) []) (eq-eqb t t refl) in
    let at_u : (u : ℕ) → u ≢ t → trail m s prefix u ≡ take (p u) (trail m s run u) = λ u ne. more u
    ∙ ap (λ b. take (p u) (trail m s run u) ++ join_if b (s1.now u, label m s1 (t, r)) []) (ne_eqb u t ne) ∙ append-nil _ in
    let short : p t < count m s run t = index_of_element_below (trail m s run t) (p t) (emits.0, k) emits.1 in
    let counts : (u : ℕ) → count m s prefix u ≡ further p t u = λ u. elim (cases_eq u t) [
      | inl e ↦ subst (λ w. count m s prefix w ≡ further p t w) (sym e)
          (omega (
            arith,
            ap length at_t,
            length-append (take (p t) (trail m s run t)) ((s1.now t, label m s1 (t, r)) ∷ []),
            length-take
                (p t) (trail m s run t),
            short,
            further_at_own_thread p t,
          ))
      | inr ne ↦ omega (arith, ap length (at_u u ne), length-take (p u) (trail m s run u), cut u, further_at_other_thread p t u ne)
    ] in
    let g : BeginsRun m s prefix run = beginning_logs_begin_run m law s good prefix run (append_of_runs_is_run m s (part run p) ((t, r) ∷ []) z.ok (can, tt)) ok
    (λ u. events (drop (further p t u) (trail m s run u)))
    (λ u. elim (cases_eq u t) [
      | inl e ↦ subst (λ w. log m s prefix w ++ events (drop (further p t w) (trail m s run w)) ≡ log m s run w) (sym e)
          (ap (λ y. events y ++ events (drop (further p t t) (trail m s run t))) at_t
          ∙ ap (λ y. events (take (p t) (trail m s run t) ++ (s1.now t, label m s1 (t, r)) ∷ []) ++ events (drop y (trail m s run t)))
          (further_at_own_thread p t)
          ∙ same_log_step_replaced (trail m s run t) (p t) (s1.now t) emits.0 (label m s1 (t, r)) k emits.1 l)
      | inr ne ↦ ap (λ y. events y ++ events (drop (further p t u) (trail m s run u))) (at_u u ne)
          ∙ ap (λ y. events (take (p u) (trail m s run u)) ++ events (drop y (trail m s run u))) (further_at_other_thread p t u ne)
          ∙ sym (events_append (take (p u) (trail m s run u)) (drop (p u) (trail m s run u)))
          ∙ ap events (take-append-drop (p u) (trail m s run u))
    ])
    (λ u. elim (cases_eq u t) [
      | inl e ↦ subst (λ w. count m s prefix w ≤ count m s run w) (sym e) (omega (arith, counts t, further_at_own_thread p t, short))
      | inr ne ↦ omega (arith, counts u, further_at_other_thread p t u ne, cut u)
    ]) in (
      short,
      same_trails_consistent m s (prefix ++ g.rest) run (λ u. trail_append m s prefix g.rest u ∙ g.same_trail u) (further p t)
          (equal_cut_is_consistent m s (prefix ++ g.rest) (moment (prefix ++ g.rest) (length prefix)) (further p t)
          (λ u. moment_append_at_end prefix g.rest u ∙ moment_at_length m s prefix u ∙ counts u)
          (moment_is_consistent m law s good (prefix ++ g.rest)
          (append_of_runs_is_run m s prefix g.rest (append_of_runs_is_run m s (part run p) ((t, r) ∷ []) z.ok (can, tt)) g.ok) (length prefix))),
    )

pub at_place_is_unique : {A : Type 0} (xs : List A) (n : ℕ) (x y : A) → At xs n x → At xs n y → x ≡ y
at_place_is_unique [] n x y a b = absurd a
at_place_is_unique (z ∷ zs) zero x y a b = sym a ∙ b
at_place_is_unique (z ∷ zs) (suc n) x y a b = at_place_is_unique zs n x y a b

pub further_within : (p q : Cut) (t : ℕ) → p t < q t → ((u : ℕ) → p u ≤ q u) → (u : ℕ) → further p t u ≤ q u
further_within p q t lt le u = elim (cases_eq u t) [
  | inl e ↦ subst (λ x. further p t x ≤ q x) (sym e) (omega (arith, further_at_own_thread p t, lt))
  | inr ne ↦ omega (arith, further_at_other_thread p t u ne, le u)
]

pred_of_zero_either_way : (b : Bool) (n : ℕ) → n ≡ 0 → cond b (pred n) n ≡ 0
pred_of_zero_either_way true n e = ap pred e
pred_of_zero_either_way false n e = e

-- no step is in the cut with no step
pub zero_cut_part_is_empty : (run : List Step) (p : Cut) → ((t : ℕ) → p t ≡ 0) → part run p ≡ []
zero_cut_part_is_empty [] p none = refl
zero_cut_part_is_empty (e ∷ run) p none =
    ap (λ b. join_if (ltb 0 b) e (part run (lower p e.0))) (none e.0)
    ∙ zero_cut_part_is_empty run (lower p e.0) (λ u. pred_of_zero_either_way (eqb u e.0) (p u) (none u))

-- a position below n that is below its target, or none
pub below_target_or_none : (n : ℕ) (p q : Cut) → ((t : ℕ) × (t < n) × (p t < q t)) ⊎ ((t : ℕ) → t < n → q t ≤ p t)
below_target_or_none zero p q = inr (λ t less. absurd (omega (arith, less)))
below_target_or_none (suc n) p q = elim (cases_lt (p n) (q n)) [
  | inl less ↦ inl (n, omega arith, less)
  | inr not ↦ elim (below_target_or_none n p q) [
    | inl found ↦ inl (found.0, (let less = found.1 in omega (arith, less)), found.2)
    | inr none ↦ inr (λ t less. elim (cases_eq t n) [
      | inl same ↦ subst (λ z. q z ≤ p z) (sym same) not
      | inr ne ↦ none t (omega (arith, less, ne))
    ])
  ]
]
