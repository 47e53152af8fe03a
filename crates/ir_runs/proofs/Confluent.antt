-- Two maximal runs that follow a coherent trace are one, up to the order of the steps.
-- what is left to each thread after a step
use Rattle.std.proofs.Common.{◌≡◌, ◌≢◌, ℕ, suc, pred, ◌+◌, ◌<◌, ◌≤◌, Bool, true, false, cond, eqb, List, [], ◌∷◌, ◌++◌, None, refl, sym, ap}
use Rattle.std.proofs.Common.{◌∙◌, subst, arith, inl, inr, ◌⊎◌, eq-eqb, ne_eqb, append-nil, append_assoc}
use Rattle.std.proofs.lemmas.Bool.{cases_eq, eqb-true, cases_lt}
use Rattle.ir_runs.specs.Machine.{Act, act_of, Entered, Done, Machine, Object, target, Admits, emitted, Label, Quiet, Answer, EnteredAt, FailedTry, LeftAt, logged, Trace}
use Rattle.ir_runs.specs.Lawful.{IsLawful}
use Rattle.ir_runs.specs.declared.access.Access.TheVariants.{Reading, Writing}
use Rattle.ir_runs.specs.Run.{act, State, Step, asked, Can, after, label, IsRun, end, join_if, trail, At}
use Rattle.ir_runs.specs.Bounds.{IsStart, IsIdle}
use Rattle.ir_runs.proofs.Good.{StateInvariant, state_invariant_step}
use Rattle.ir_runs.proofs.Append.{trail_append, append_of_runs_is_run}
use Rattle.ir_runs.proofs.Follow.{fitting_prefix_fits}
use Rattle.ir_runs.proofs.Pull.{PulledFirst, step_can_come_first}
use Rattle.ir_runs.proofs.Same.{BeginsRun, FirstStepEmits, first_step_emits, NonEmpty, thread_after_other, logs_of_same_ask_agree, join_if_append_assoc}
use Rattle.ir_runs.proofs.Steps.{Clashes, StepUnchanged, step_unchanged_by_other}
use Rattle.ir_runs.proofs.Swap.{Clash}
use Rattle.ir_runs.proofs.Tally.{Tally, tally_after_step, tally_at_start, sum_below_less, sum_below_of_zeros, one_if_reader, readers_inside, counted_read}
use Rattle.ir_runs.specs.Alike.{Reaches}
use Rattle.ir_runs.specs.Verdicts.{reads_one, reads, sum_below, Check, unlogged, Fits, Follows, IsMaximal}
use Rattle.ir_runs.specs.Coherent.{IsCoherent}
use Rattle.ir_runs.proofs.Ending.{last_step_can_be_taken}

abbrev pub steps_left : (ℕ → ℕ) → Step → ℕ → ℕ
steps_left ns e u = cond (eqb u e.0) (pred (ns u)) (ns u)

abbrev pub log_left : (ℕ → List Label) → Step → Label → ℕ → List Label
log_left rem e k u = cond (eqb u e.0) (unlogged k (rem u)) (rem u)

-- the run follows what is left
abbrev pub FollowsRemainder : {T : Type 0} → (ℕ → Check T) → Machine T → State T → (ℕ → ℕ) → (ℕ → List Label) → List Step → Type 0
FollowsRemainder E m s ns rem run = IsRun m s run × ((t : ℕ) → Fits (E t) (ns t) (rem t) (trail m s run t))

join_if_first_fits : {T : Type 0} (E : Check T) (n : ℕ) (es : List Label) (b : Bool) (x : T × Label) (xs : List (T × Label)) → b ≡ true
    → Fits E n es (join_if b x xs) → (0 < n) × (logged x.1 (unlogged x.1 es) ≡ es) × E x.0 n es
join_if_first_fits E n es true x xs p h = (h.0, h.1, h.2)
join_if_first_fits E n es false x xs p h = absurd (cc p)

join_if_rest_fits : {T : Type 0} (E : Check T) (n : ℕ) (es : List Label) (b : Bool) (x : T × Label) (xs : List (T × Label))
    → Fits E n es (join_if b x xs) → (k : Label) → (b ≡ true → x.1 ≡ k) → Fits E (cond b (pred n) n) (cond b (unlogged k es) es) xs
join_if_rest_fits E n es true x xs h k same = subst (λ z. Fits E (pred n) (unlogged z es) xs) (same refl) h.3
join_if_rest_fits E n es false x xs h k same = h

-- the first step's conditions, and the rest
pub first_step_follows : {T : Type 0} (E : ℕ → Check T) (m : Machine T) (s : State T) (ns : ℕ → ℕ) (rem : ℕ → List Label) (e : Step) (run : List Step)
    → FollowsRemainder E m s ns rem (e ∷ run) → (0 < ns e.0) × (logged (label m s e) (unlogged (label m s e) (rem e.0)) ≡ rem e.0)
    × E e.0 (s.now e.0) (ns e.0) (rem e.0)
first_step_follows E m s ns rem e run h = join_if_first_fits (E e.0) (ns e.0) (rem e.0) (eqb e.0 e.0) (s.now e.0, label m s e)
    (trail m (after m s e) run e.0) (eq-eqb e.0 e.0 refl) (h.1 e.0)

pub later_steps_follow : {T : Type 0} (E : ℕ → Check T) (m : Machine T) (s : State T) (ns : ℕ → ℕ) (rem : ℕ → List Label) (e : Step) (run : List Step)
    → FollowsRemainder E m s ns rem (e ∷ run) → FollowsRemainder E m (after m s e) (steps_left ns e) (log_left rem e (label m s e)) run
later_steps_follow E m s ns rem e run h = (
  h.0.1,
  λ t. join_if_rest_fits (E t) (ns t) (rem t) (eqb t e.0) (s.now t, label m s e)
      (trail m (after m s e) run t) (h.1 t) (label m s e) (λ _. refl),
)

-- what is known so far
pub record FollowingInvariant (n : ℕ) {T : Type 0} (m : Machine T) (tr : Trace) (s : State T) (rem : ℕ → List Label) : Type 0 where
  pub good : StateInvariant m s
  pub counts : ℕ → ℕ → ℕ → ℕ
  pub tally : Tally n s counts
  pub total : (o v t : ℕ) → counts o v t + reads o v (rem t) ≡ reads o v (tr.logs t)
  pub within : (t i : ℕ) (k : Label) → At (rem t) i k → (j : ℕ) × At (tr.logs t) j k
  pub idle : (t : ℕ) → n ≤ t → asked m s t ≡ Done

reads-logged : (o v : ℕ) (k : Label) (es : List Label) → reads o v (logged k es) ≡ reads_one o v k + reads o v es
reads-logged o v Quiet es = let g : reads o v es ≡ 0 + reads o v es = omega arith in g
reads-logged o v (Answer i x) es = refl
reads-logged o v (EnteredAt p a w l) es = refl
reads-logged o v (FailedTry p) es = refl
reads-logged o v (LeftAt p a w) es = let g : reads o v es ≡ 0 + reads o v es = omega arith in g

event_stays_in_logged : (k : Label) (es : List Label) (i : ℕ) (j : Label) → At es i j → (h : ℕ) × At (logged k es) h j
event_stays_in_logged Quiet es i j h = (i, h)
event_stays_in_logged (Answer a x) es i j h = (suc i, h)
event_stays_in_logged (EnteredAt p a w l) es i j h = (suc i, h)
event_stays_in_logged (FailedTry p) es i j h = (suc i, h)
event_stays_in_logged (LeftAt p a w) es i j h = (i, h)

pub stepping_below_idle : {T : Type 0} (m : Machine T) (s : State T) (n : ℕ) → ((t : ℕ) → n ≤ t → asked m s t ≡ Done) → (e : Step) → Can m s e
    → e.0 < n
stepping_below_idle m s n idle e can = elim (cases_lt e.0 n)
    [ inl l ↦ l | inr g ↦ absurd (subst (λ q. Admits m (act_of q e.1) (s.objects (target (act_of q e.1)))) (idle e.0 g) can) ]

following_invariant_step : (n : ℕ) {T : Type 0} (m : Machine T) → IsLawful m → (tr : Trace) (s : State T) (rem : ℕ → List Label) → FollowingInvariant n m tr s rem
    → (e : Step) → Can m s e → logged (label m s e) (unlogged (label m s e) (rem e.0)) ≡ rem e.0
    → FollowingInvariant n m tr (after m s e) (log_left rem e (label m s e))
following_invariant_step n m law tr s rem f e can is =
    let less : e.0 < n = stepping_below_idle m s n f.idle e can in
    record {
      good = state_invariant_step m law s f.good e can;
      counts = λ o v u. f.counts o v u + counted_read o v (label m s e) e.0 u;
      tally = tally_after_step m law n s f.good f.counts f.tally e can less;
      total = λ o v t. elim (cases_eq t e.0) [
        | inl same ↦ subst (λ b. (f.counts o v t + cond b (reads_one o v (label m s e)) 0) + reads o v
            (cond b (unlogged (label m s e) (rem t)) (rem t)) ≡ reads o v (tr.logs t)) (sym (eq-eqb t e.0 same))
            (here (f.counts o v t) (reads_one o v (label m s e)) (reads o v (unlogged (label m s e) (rem t))) (reads o v (rem t))
            (reads o v (tr.logs t)) (f.total o v t)
            (sym (reads-logged o v (label m s e) (unlogged (label m s e) (rem t)))
            ∙ ap (reads o v) (subst (λ z. logged (label m s e) (unlogged (label m s e) (rem z)) ≡ rem z) (sym same) is)))
        | inr other ↦ subst (λ b. (f.counts o v t + cond b (reads_one o v (label m s e)) 0) + reads o v
            (cond b (unlogged (label m s e) (rem t)) (rem t)) ≡ reads o v (tr.logs t)) (sym (ne_eqb t e.0 other))
            (there (f.counts o v t) (reads o v (rem t)) (reads o v (tr.logs t)) (f.total o v t))
      ];
      within = λ t i k h. elim (cases_eq t e.0) [
        | inl same ↦
            let g = event_stays_in_logged (label m s e) (unlogged (label m s e) (rem t)) i k
            (subst (λ b. At (cond b (unlogged (label m s e) (rem t)) (rem t)) i k) (eq-eqb t e.0 same) h) in
            f.within t g.0 k (subst (λ z. At z g.0 k)
            (subst (λ z. logged (label m s e) (unlogged (label m s e) (rem z)) ≡ rem z) (sym same) is) g.1)
        | inr other ↦ f.within t i k (subst (λ b. At (cond b (unlogged (label m s e) (rem t)) (rem t)) i k) (ne_eqb t e.0 other) h)
      ];
      idle = λ t l. ap m.ask (thread_after_other m s e t (λ p. lt_ne e.0 t n less l p)) ∙ f.idle t l;
    }
  where
    here : (c k u r l : ℕ) → c + r ≡ l → k + u ≡ r → (c + k) + u ≡ l
    here c k u r l p q = omega arith

    there : (c r l : ℕ) → c + r ≡ l → (c + 0) + r ≡ l
    there c r l p = omega arith

    lt_ne : (a t n : ℕ) → a < n → n ≤ t → t ≡ a → ⊥
    lt_ne a t n l g e = omega arith

-- a writer that is admitted at its logged version has all its readers before it
write_excludes_read : (n : ℕ) {T : Type 0} (m : Machine T) (tr : Trace) → IsCoherent n tr → (s : State T) (rem : ℕ → List Label)
    → FollowingInvariant n m tr s rem → (e d : Step) (o ans ans' : ℕ) → Can m s e → logged (label m s e) (unlogged (label m s e) (rem e.0)) ≡ rem e.0
    → act m s e ≡ Entered o Writing ans → act m s d ≡ Entered o Reading ans' → logged (label m s d) (unlogged (label m s d) (rem d.0)) ≡ rem d.0
    → d.0 < n → ⊥
write_excludes_read n m tr co s rem f e d o ans ans' can is a a' is' less =
    let b : Object = s.objects o in
    let v : ℕ = b.version in
    let k : label m s e ≡ EnteredAt o Writing v b.left = ap (λ z. emitted z (s.objects (target z))) a in
    let k' : label m s d ≡ EnteredAt o Reading v 0 = ap (λ z. emitted z (s.objects (target z))) a' in
    let i = f.within e.0 0 (EnteredAt o Writing v b.left)
    (subst (λ z. At z 0 (EnteredAt o Writing v b.left)) (ap (λ z. logged z (unlogged (label m s e) (rem e.0))) (sym k) ∙ is) refl) in
    let all : b.left ≡ sum_below n (λ u. reads o v (tr.logs u)) = co.readers e.0 i.0 o v b.left i.1 in
    let empty : (u : ℕ) → b.inside u ≡ None = subst (λ z. Admits m z (s.objects (target z))) a can in
    let none : readers_inside n b ≡ 0 = sum_below_of_zeros n (λ u. one_if_reader (b.inside u)) (λ u _. ap one_if_reader (empty u)) in
    let one : 1 ≤ reads o v (rem d.0) = subst (λ z. 1 ≤ reads o v z) (ap (λ z. logged z (unlogged (label m s d) (rem d.0))) (sym k') ∙ is')
    (read_first o v (unlogged (label m s d) (rem d.0))) in
    let more : sum_below n (f.counts o v) < sum_below n (λ u. reads o v (tr.logs u)) =
    sum_below_less n d.0 (f.counts o v) (λ u. reads o v (tr.logs u)) less (omega (arith, f.total o v d.0, one))
    (λ u. omega (arith, f.total o v u)) in
    omega (arith, f.tally.balance o, none, all, more)
  where
    read_first : (o v : ℕ) (es : List Label) → 1 ≤ reads o v (EnteredAt o Reading v 0 ∷ es)
    read_first o v es = subst (λ z. 1 ≤ z + reads o v es)
        (sym (ap (λ b. cond b (cond (eqb v v) 1 0) 0) (eq-eqb o o refl) ∙ ap (λ b. cond b 1 0) (eq-eqb v v refl))) (at_least (reads o v es))
      where
        at_least : (n : ℕ) → 1 ≤ 1 + n
        at_least n = omega arith

-- no two next steps clash
next_steps_do_not_clash : (n : ℕ) {T : Type 0} (m : Machine T) → IsLawful m → (tr : Trace) → IsCoherent n tr → (s : State T) (rem : ℕ → List Label)
    → FollowingInvariant n m tr s rem → (e d : Step) → e.0 ≢ d.0 → Can m s e → Can m s d
    → logged (label m s e) (unlogged (label m s e) (rem e.0)) ≡ rem e.0 → logged (label m s d) (unlogged (label m s d) (rem d.0)) ≡ rem d.0
    → (q q' : Act) → act m s e ≡ q → act m s d ≡ q' → target q' ≡ target q → Clash q q' → ⊥
next_steps_do_not_clash n m law tr co s rem f e d ne can can' is is' (Entered o Writing ans) (Entered p Writing ans') a a' same c =
    let k : label m s e ≡ EnteredAt o Writing (s.objects o).version (s.objects o).left = ap (λ z. emitted z (s.objects (target z))) a in
    let k' : label m s d ≡ EnteredAt o Writing (s.objects o).version (s.objects o).left = ap (λ z. emitted z (s.objects (target z))) a'
    ∙ ap (λ z. EnteredAt z Writing (s.objects z).version (s.objects z).left) same in
    let i = f.within e.0 0 (EnteredAt o Writing (s.objects o).version (s.objects o).left)
    (subst (λ z. At z 0 (EnteredAt o Writing (s.objects o).version (s.objects o).left))
    (ap (λ z. logged z (unlogged (label m s e) (rem e.0))) (sym k) ∙ is) refl) in
    let j = f.within d.0 0 (EnteredAt o Writing (s.objects o).version (s.objects o).left)
    (subst (λ z. At z 0 (EnteredAt o Writing (s.objects o).version (s.objects o).left))
    (ap (λ z. logged z (unlogged (label m s d) (rem d.0))) (sym k') ∙ is') refl) in
    ne (co.writer e.0 i.0 d.0 j.0 o (s.objects o).version (s.objects o).left (s.objects o).left i.1 j.1).0
next_steps_do_not_clash n m law tr co s rem f e d ne can can' is is' (Entered o Writing ans) (Entered p Reading ans') a a' same c =
    write_excludes_read n m tr co s rem f e d o ans ans' can is a (subst (λ z. act m s d ≡ Entered z Reading ans') same a') is'
    (stepping_below_idle m s n f.idle d can')
next_steps_do_not_clash n m law tr co s rem f e d ne can can' is is' (Entered o Reading ans) (Entered p Writing ans') a a' same c =
    write_excludes_read n m tr co s rem f d e p ans' ans can' is' a' (subst (λ z. act m s e ≡ Entered z Reading ans) (sym same) a) is
    (stepping_below_idle m s n f.idle e can)
next_steps_do_not_clash n m law tr co s rem f e d ne can can' is is' (Entered o Reading ans) (Entered p Reading ans') a a' same c = c
next_steps_do_not_clash n m law tr co s rem f e d ne can can' is is' (Entered o Reading ans) _ a a' same c = absurd c
next_steps_do_not_clash n m law tr co s rem f e d ne can can' is is' (Entered o Writing ans) _ a a' same c = absurd c
next_steps_do_not_clash n m law tr co s rem f e d ne can can' is is' _ _ a a' same c = absurd c

-- a step that is not taken stays
pub record StillPossible {T : Type 0} (m : Machine T) (s : State T) (run : List Step) (e : Step) : Type 0 where
  pub can : Can m (end m s run) e
  pub label_same : label m (end m s run) e ≡ label m s e
  pub now_same : (end m s run).now e.0 ≡ s.now e.0

untaken_stays_possible : {T : Type 0} (E : ℕ → Check T) (n : ℕ) (m : Machine T) → IsLawful m → (tr : Trace) → IsCoherent n tr
    → (s : State T) (ns : ℕ → ℕ) (rem : ℕ → List Label) → FollowingInvariant n m tr s rem → (e : Step) → Can m s e
    → logged (label m s e) (unlogged (label m s e) (rem e.0)) ≡ rem e.0
    → (run : List Step) → FollowsRemainder E m s ns rem run → trail m s run e.0 ≡ [] → StillPossible m s run e
untaken_stays_possible E n m law tr co s ns rem f e can is [] h none = record { can = can; label_same = refl; now_same = refl }
untaken_stays_possible E n m law tr co s ns rem f e can is (d ∷ run) h none =
    let other : d.0 ≢ e.0 = λ p. cc (subst (λ b. join_if b (s.now e.0, label m s d) (trail m (after m s d) run e.0) ≡ [])
    (eq-eqb e.0 d.0 (sym p)) none) in
    let none' : trail m (after m s d) run e.0 ≡ [] =
    subst (λ b. join_if b (s.now e.0, label m s d) (trail m (after m s d) run e.0) ≡ []) (ne_eqb e.0 d.0 (λ p. other (sym p))) none in
    let isd = first_step_follows E m s ns rem d run h in
    let free : Clashes m s d e → ⊥ = λ c. next_steps_do_not_clash n m law tr co s rem f d e other h.0.0 can isd.1 is (act m s d) (act m s e) refl refl c.0
    c.1 in
    let k : StepUnchanged m s d e = step_unchanged_by_other m law s f.good d e other h.0.0 can free in
    let rem' : ℕ → List Label = log_left rem d (label m s d) in
    let same : rem' e.0 ≡ rem e.0 = ap (λ b. cond b (unlogged (label m s d) (rem e.0)) (rem e.0)) (ne_eqb e.0 d.0 (λ p. other (sym p))) in
    let g : StillPossible m (after m s d) run e = untaken_stays_possible E n m law tr co (after m s d) (steps_left ns d) rem'
    (following_invariant_step n m law tr s rem f d h.0.0 isd.1) e k.can
    (subst (λ z. logged z (unlogged z (rem' e.0)) ≡ rem' e.0) (sym k.label_same)
    (subst (λ z. logged (label m s e) (unlogged (label m s e) z) ≡ z) (sym same) is))
    run (later_steps_follow E m s ns rem d run h) none' in
    record { can = g.can; label_same = g.label_same ∙ k.label_same; now_same = g.now_same ∙ k.now_same }

empty_or_non_empty : {A : Type 0} (xs : List A) → (xs ≡ []) ⊎ NonEmpty xs
empty_or_non_empty [] = inl refl
empty_or_non_empty (x ∷ xs) = inr (record { head = x; rest = xs; is = refl })

-- a step that stays can be taken after the run
untaken_can_end_run : {T : Type 0} (E : ℕ → Check T) (m : Machine T) (s : State T) (ns : ℕ → ℕ) (rem : ℕ → List Label) (run : List Step)
    → FollowsRemainder E m s ns rem run → (e : Step) → trail m s run e.0 ≡ [] → StillPossible m s run e
    → (0 < ns e.0) × (logged (label m s e) (unlogged (label m s e) (rem e.0)) ≡ rem e.0) × E e.0 (s.now e.0) (ns e.0) (rem e.0)
    → FollowsRemainder E m s ns rem (run ++ e ∷ [])
untaken_can_end_run E m s ns rem run h e none k fits = (
  append_of_runs_is_run m s run (e ∷ []) h.0 (k.can, tt),
  λ t. elim (cases_eq t e.0) [
    | inl same ↦ subst (λ w. Fits (E w) (ns w) (rem w) (trail m s (run ++ e ∷ []) w)) (sym same)
        (subst (Fits (E e.0) (ns e.0) (rem e.0))
        (sym (trail_append m s run (e ∷ []) e.0 ∙ ap (λ z. z ++ trail m (end m s run) (e ∷ []) e.0) none
        ∙ ap (λ b. join_if b ((end m s run).now e.0, label m (end m s run) e) []) (eq-eqb e.0 e.0 refl))) (
          fits.0,
          subst (λ z. logged z (unlogged z (rem e.0)) ≡ rem e.0) (sym k.label_same) fits.1,
          subst (λ z. E e.0 z (ns e.0) (rem e.0))
              (sym k.now_same) fits.2,
          tt,
        ))
    | inr other ↦ subst (Fits (E t) (ns t) (rem t))
        (sym (trail_append m s run (e ∷ []) t ∙ ap (λ b. trail m s run t ++ join_if b ((end m s run).now t, label m (end m s run) e) [])
        (ne_eqb t e.0 other) ∙ append-nil (trail m s run t))) (h.1 t)
  ],
)

pub join_if_fits : {T : Type 0} (E : Check T) (n : ℕ) (es : List Label) (b : Bool) (x : T × Label) (xs : List (T × Label))
    → (b ≡ true → (0 < n) × (logged x.1 (unlogged x.1 es) ≡ es) × E x.0 n es) → Fits E (cond b (pred n) n) (cond b (unlogged x.1 es) es) xs
    → Fits E n es (join_if b x xs)
join_if_fits E n es true x xs f h = let g = f refl in (g.0, g.1, g.2, h)
join_if_fits E n es false x xs f h = h

-- one that is maximal stays so when its first step is taken
pulled_rest_is_maximal : {T : Type 0} (E : ℕ → Check T) (m : Machine T) (s : State T) (ns : ℕ → ℕ) (rem : ℕ → List Label) (run : List Step)
    → IsRun m s run → (e : Step) → (0 < ns e.0) × (logged (label m s e) (unlogged (label m s e) (rem e.0)) ≡ rem e.0)
    × E e.0 (s.now e.0) (ns e.0) (rem e.0)
    → (p : PulledFirst m s run e.0 e.1) → ((x : Step) → FollowsRemainder E m s ns rem (run ++ x ∷ []) → ⊥) → (x : Step)
    → FollowsRemainder E m (after m s e) (steps_left ns e) (log_left rem e (label m s e)) (p.rest ++ x ∷ []) → ⊥
pulled_rest_is_maximal E m s ns rem run ok e fits p top x h = top x (
  append_of_runs_is_run m s run (x ∷ []) ok (subst (λ z. Can m z x) p.same_end (last_step_can_be_taken m (after m s e) p.rest x h.0), tt),
  λ t. subst (Fits (E t) (ns t) (rem t)) (whole t)
      (join_if_fits (E t) (ns t) (rem t) (eqb t e.0) (s.now t, label m s e) (trail m (after m s e) (p.rest ++ x ∷ []) t)
      (λ b. subst (λ w. (0 < ns w) × (logged (label m s e) (unlogged (label m s e) (rem w)) ≡ rem w) × E w (s.now w) (ns w) (rem w))
      (sym (eqb-true t e.0 b)) fits) (h.1 t)),
)
  where
    whole : (t : ℕ) → join_if (eqb t e.0) (s.now t, label m s e) (trail m (after m s e) (p.rest ++ x ∷ []) t) ≡ trail m s (run ++ x ∷ []) t
    whole t = ap (join_if (eqb t e.0) (s.now t, label m s e)) (trail_append m (after m s e) p.rest (x ∷ []) t)
        ∙ sym (join_if_append_assoc (eqb t e.0) (s.now t, label m s e) (trail m (after m s e) p.rest t)
        (trail m (end m (after m s e) p.rest) (x ∷ []) t))
        ∙ ap (λ z. z ++ trail m (end m (after m s e) p.rest) (x ∷ []) t) (p.same_trail t)
        ∙ ap (λ z. trail m s run t ++ trail m z (x ∷ []) t) p.same_end
        ∙ sym (trail_append m s run (x ∷ []) t)

first_label_logs_as_next : {T : Type 0} (E : Check T) (m : Machine T) (s : State T) (run : List Step) → IsRun m s run → (e : Step) → Can m s e
    → (n : ℕ) (es : List Label) (x : T) (j : Label) (xs : List (T × Label)) → trail m s run e.0 ≡ (x, j) ∷ xs
    → Fits E n es (trail m s run e.0)
    → logged (label m s e) (unlogged (label m s e) es) ≡ es → logged j [] ≡ logged (label m s e) []
first_label_logs_as_next E m s run ok e can n es x j xs is h fits =
    let k : FirstStepEmits m s e.0 x j = first_step_emits m s run ok e.0 x j (subst (λ z. At z 0 (x, j)) (sym is) refl) in
    let g : Fits E n es ((x, j) ∷ xs) = subst (Fits E n es) is h in
    ap (λ z. logged z []) k.emits
    ∙ logs_of_same_ask_agree m (asked m s e.0) e.1 k.result (s.objects (target (act m s e))) k.object (unlogged (label m s e) es) [] (unlogged j es) can
    k.admits
    (append-nil _ ∙ fits ∙ sym g.1 ∙ ap (λ z. logged z (unlogged j es)) k.emits)

-- A run that follows a coherent trace is the beginning of each maximal one.
pub begins_maximal_run : {T : Type 0} (E : ℕ → Check T) (n : ℕ) (m : Machine T) → IsLawful m → (tr : Trace) → IsCoherent n tr
    → (s : State T) (ns : ℕ → ℕ) (rem : ℕ → List Label) → FollowingInvariant n m tr s rem → (run run' : List Step) → FollowsRemainder E m s ns rem run
    → FollowsRemainder E m s ns rem run'
    → ((x : Step) → FollowsRemainder E m s ns rem (run' ++ x ∷ []) → ⊥) → BeginsRun m s run run'
begins_maximal_run E n m law tr co s ns rem f [] run' h h' top = record { rest = run'; ok = h'.0; same_end = refl; same_trail = λ u. refl }
begins_maximal_run E n m law tr co s ns rem f (e ∷ run) run' h h' top = elim (empty_or_non_empty (trail m s run' e.0)) [
  | inl none ↦ absurd (top e (untaken_can_end_run E m s ns rem run' h' e none
      (untaken_stays_possible E n m law tr co s ns rem f e h.0.0 (first_step_follows E m s ns rem e run h).1 run' h' none) (first_step_follows E m s ns rem e run h)))
  | inr st ↦
      let fits = first_step_follows E m s ns rem e run h in
      let p : PulledFirst m s run' e.0 e.1 = step_can_come_first m law s f.good run' h'.0 e.0 e.1 h.0.0 st.head.0 st.head.1
      (subst (λ z. At z 0 st.head) (sym st.is) refl)
      (first_label_logs_as_next (E e.0) m s run' h'.0 e h.0.0 (ns e.0) (rem e.0) st.head.0 st.head.1 st.rest st.is (h'.1 e.0) fits.1) in
      let g : BeginsRun m (after m s e) run p.rest =
      begins_maximal_run E n m law tr co (after m s e) (steps_left ns e) (log_left rem e (label m s e))
      (following_invariant_step n m law tr s rem f e h.0.0 fits.1) run p.rest (later_steps_follow E m s ns rem e run h)
      (later_steps_follow E m s ns rem e p.rest ((h.0.0, p.ok), λ t. subst (Fits (E t) (ns t) (rem t)) (sym (p.same_trail t)) (h'.1 t)))
      (pulled_rest_is_maximal E m s ns rem run' h'.0 e fits p top) in
      record {
        rest = g.rest;
        ok = g.ok;
        same_end = g.same_end ∙ p.same_end;
        same_trail = λ u. join_if_append_assoc (eqb u e.0) (s.now u, label m s e) (trail m (after m s e) run u)
            (trail m (end m (after m s e) run) g.rest u)
            ∙ ap (join_if (eqb u e.0) (s.now u, label m s e)) (g.same_trail u) ∙ p.same_trail u;
      }
]

-- where a maximal run stops nothing is left
maximal_run_leaves_none : {T : Type 0} (E : ℕ → Check T) (m : Machine T) (s : State T) (ns : ℕ → ℕ) (rem : ℕ → List Label) (run run' : List Step) → IsRun m s run
    → ((t : ℕ) → Fits (E t) (ns t) (rem t) (trail m s run' t)) → ((x : Step) → FollowsRemainder E m s ns rem (run ++ x ∷ []) → ⊥)
    → (rest : List Step) → IsRun m (end m s run) rest → ((u : ℕ) → trail m s run u ++ trail m (end m s run) rest u ≡ trail m s run' u)
    → rest ≡ []
maximal_run_leaves_none E m s ns rem run run' ok fits top [] okr same = refl
maximal_run_leaves_none E m s ns rem run run' ok fits top (e ∷ rest) okr same = absurd (top e (
  append_of_runs_is_run m s run (e ∷ []) ok (okr.0, tt),
  λ t. fitting_prefix_fits (E t) (ns t) (rem t) (trail m s (run ++ e ∷ []) t) (trail m (after m (end m s run) e) rest t)
      (subst (Fits (E t) (ns t) (rem t)) (sym (same t) ∙ whole t) (fits t)),
))
  where
    whole : (t : ℕ) → trail m s run t ++ trail m (end m s run) (e ∷ rest) t ≡ trail m s (run ++ e ∷ []) t ++ trail m
        (after m (end m s run) e) rest t
    whole t = ap (λ z. trail m s run t ++ z) (sym (join_if_append_assoc (eqb t e.0) ((end m s run).now t, label m (end m s run) e) []
        (trail m (after m (end m s run) e) rest t)))
        ∙ sym (append_assoc (trail m s run t) (trail m (end m s run) (e ∷ []) t) (trail m (after m (end m s run) e) rest t))
        ∙ ap (λ z. z ++ trail m (after m (end m s run) e) rest t) (sym (trail_append m s run (e ∷ []) t))

pub following_invariant_start : (n : ℕ) {T : Type 0} (m : Machine T) (tr : Trace) (s : State T) → StateInvariant m s → IsStart m s → IsIdle m s n
    → FollowingInvariant n m tr s tr.logs
following_invariant_start n m tr s good st im = record {
  good = good;
  counts = λ o v u. 0;
  tally = tally_at_start m n s st;
  total = λ o v t. zero_plus (reads o v (tr.logs t));
  within = λ t i k h. (i, h);
  idle = im;
}
  where
    zero_plus : (n : ℕ) → 0 + n ≡ n
    zero_plus n = omega arith

-- Maximal runs that follow one coherent trace are the same, up to the order of the steps.
pub maximal_reach_same_end : {T : Type 0} (E : ℕ → Check T) (n : ℕ) (m : Machine T) → IsLawful m → (tr : Trace) → IsCoherent n tr → (s : State T)
    → StateInvariant m s → IsStart m s → IsIdle m s n → (run run' : List Step) → Follows E m s tr run → IsMaximal E m s tr run → Follows E m s tr run'
    → IsMaximal E m s tr run' → Reaches m s run run'
maximal_reach_same_end E n m law tr co s good st im run run' h top h' top' =
    let g : BeginsRun m s run run' = begins_maximal_run E n m law tr co s tr.steps tr.logs (following_invariant_start n m tr s good st im) run run' h h' top' in
    let none : g.rest ≡ [] = maximal_run_leaves_none E m s tr.steps tr.logs run run' h.0 h'.1 top g.rest g.ok g.same_trail in
    record {
      trails = λ u. sym (append-nil _) ∙ ap (λ z. trail m s run u ++ trail m (end m s run) z u) (sym none) ∙ g.same_trail u;
      states = ap (end m (end m s run)) (sym none) ∙ g.same_end;
    }
