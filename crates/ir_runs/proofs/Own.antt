-- The trace of a run is coherent.
-- an event of a run is the first step's, or a later one
use Rattle.std.proofs.Common.{◌≡◌, ℕ, suc, zero, ◌+◌, ◌<◌, ◌≤◌, Bool, true, false, cond, eqb, List, [], ◌∷◌, Some, None, refl, sym, ap, ◌∙◌, subst, arith, inl, inr, ◌⊎◌, eq-eqb, ne_eqb}
use Rattle.std.proofs.lemmas.Bool.{cases_eq, eqb-true, cases_lt}
use Rattle.ir_runs.specs.Machine.{Done, Act, act_of, Silent, Replied, Entered, TryFailed, Left, Got, Stored, Never, Machine, upd, Object}
use Rattle.ir_runs.specs.Machine.{target, Admits, acted, emitted, Label, Quiet, Answer, EnteredAt, FailedTry, LeftAt, logged}
use Rattle.ir_runs.specs.Lawful.{IsLawful}
use Rattle.ir_runs.specs.declared.access.Access.{Access}
use Rattle.ir_runs.specs.declared.access.Access.TheVariants.{Reading, Writing}
use Rattle.ir_runs.proofs.Tables.{upd_at_own_place, upd_by_cases}
use Rattle.ir_runs.specs.Run.{act, State, Step, asked, Can, after, label, IsRun, join_if, trail, events, log, At}
use Rattle.ir_runs.specs.Bounds.{IsStart, IsIdle, trace}
use Rattle.ir_runs.proofs.Good.{Exclusive, InsideForAct, StateInvariant, state_invariant_step, inside_for_act_of_step}
use Rattle.ir_runs.proofs.Pull.{taken_entry_saw_object, entry_not_past_writer, target_object_step}
use Rattle.ir_runs.proofs.Ratchet.{step_of_trail_was_taken, WritesOrPast, writes_or_past_is_kept, emitted_entry_is_entering, Entering}
use Rattle.ir_runs.proofs.Same.{thread_after_other}
use Rattle.ir_runs.proofs.Tally.{Tally, tally_after_step, tally_at_start, sum_below_cong, sum_below_of_zeros, one_if_reader, counted_read}
use Rattle.ir_runs.specs.Verdicts.{reads_one, reads, sum_below}
use Rattle.ir_runs.specs.Coherent.{IsCoherent}

pub record FirstStepEvent {T : Type 0} (m : Machine T) (s : State T) (e : Step) (t i : ℕ) (k : Label) : Type 0 where
  pub who : t ≡ e.0
  pub place : i ≡ 0
  pub is : k ≡ label m s e

-- how many events the first step has of thread t
abbrev pub shifted_place : Bool → Label → ℕ → ℕ
shifted_place true Quiet i = i
shifted_place true (Answer k v) i = suc i
shifted_place true (EnteredAt o a v l) i = suc i
shifted_place true (FailedTry o) i = suc i
shifted_place true (LeftAt o a v) i = i
shifted_place false k i = i

event_of_join_if_cases : {T : Type 0} (b : Bool) (x : T × Label) (xs : List (T × Label)) (i : ℕ) (k : Label) → At (events (join_if b x xs)) i k
    → ((b ≡ true) × (i ≡ 0) × (k ≡ x.1)) ⊎ ((j : ℕ) × (i ≡ shifted_place b x.1 j) × At (events xs) j k)
event_of_join_if_cases false x xs i k h = inr (i, refl, h)
event_of_join_if_cases true x xs i k h = in_logged x.1 i h
  where
    in_logged : (y : Label) (i : ℕ) → At (logged y (events xs)) i k → ((true ≡ true) × (i ≡ 0) × (k ≡ y))
        ⊎ ((j : ℕ) × (i ≡ shifted_place true y j) × At (events xs) j k)
    in_logged Quiet i h = inr (i, refl, h)
    in_logged (Answer a v) zero h = inl (refl, refl, sym h)
    in_logged (Answer a v) (suc i) h = inr (i, refl, h)
    in_logged (EnteredAt o a v l) zero h = inl (refl, refl, sym h)
    in_logged (EnteredAt o a v l) (suc i) h = inr (i, refl, h)
    in_logged (FailedTry o) zero h = inl (refl, refl, sym h)
    in_logged (FailedTry o) (suc i) h = inr (i, refl, h)
    in_logged (LeftAt o a v) i h = inr (i, refl, h)

event_of_cons_cases : {T : Type 0} (m : Machine T) (s : State T) (e : Step) (run : List Step) (t i : ℕ) (k : Label) → At (log m s (e ∷ run) t) i k
    → FirstStepEvent m s e t i k ⊎ ((j : ℕ) × (i ≡ shifted_place (eqb t e.0) (label m s e) j) × At (log m (after m s e) run t) j k)
event_of_cons_cases m s e run t i k h = elim (event_of_join_if_cases (eqb t e.0) (s.now t, label m s e) (trail m (after m s e) run t) i k h) [
  | inl p ↦ inl (record { who = eqb-true t e.0 p.0; place = p.1; is = p.2 })
  | inr p ↦ inr p
]

-- an event is in the trail
logged_event_in_trail : {T : Type 0} (y : T × Label) (ys : List (T × Label)) (k : Label)
    → ((i : ℕ) → At (events ys) i k → (x : T) × (j : ℕ) × At ys j (x, k)) → (z : Label) (i : ℕ) → y.1 ≡ z → At (logged z (events ys)) i k
    → (x : T) × (j : ℕ) × At (y ∷ ys) j (x, k)
logged_event_in_trail y ys k ih Quiet i p h = let g = ih i h in (g.0, suc g.1, g.2)
logged_event_in_trail y ys k ih (Answer a v) zero p h = (y.0, 0, λ w. (y.0, (p ∙ h) w))
logged_event_in_trail y ys k ih (Answer a v) (suc i) p h = let g = ih i h in (g.0, suc g.1, g.2)
logged_event_in_trail y ys k ih (EnteredAt o a v l) zero p h = (y.0, 0, λ w. (y.0, (p ∙ h) w))
logged_event_in_trail y ys k ih (EnteredAt o a v l) (suc i) p h = let g = ih i h in (g.0, suc g.1, g.2)
logged_event_in_trail y ys k ih (FailedTry o) zero p h = (y.0, 0, λ w. (y.0, (p ∙ h) w))
logged_event_in_trail y ys k ih (FailedTry o) (suc i) p h = let g = ih i h in (g.0, suc g.1, g.2)
logged_event_in_trail y ys k ih (LeftAt o a v) i p h = let g = ih i h in (g.0, suc g.1, g.2)

event_is_in_trail : {T : Type 0} (xs : List (T × Label)) (i : ℕ) (k : Label) → At (events xs) i k → (x : T) × (j : ℕ) × At xs j (x, k)
event_is_in_trail [] i k h = absurd h
event_is_in_trail (y ∷ ys) i k h = logged_event_in_trail y ys k (λ j g. event_is_in_trail ys j k g) y.1 i refl h

-- after a write entry no other entry has its version
no_entry_past_writer : {T : Type 0} (m : Machine T) → IsLawful m → (s : State T) → StateInvariant m s → (e : Step) → Can m s e → (run : List Step)
    → IsRun m (after m s e) run → (o v l : ℕ) → EnteredAt o Writing v l ≡ label m s e → (t i : ℕ) (a : Access) (k : ℕ)
    → At (log m (after m s e) run t) i (EnteredAt o a v k) → ⊥
no_entry_past_writer m law s good e can run ok o v l is t i a k h =
    let q : Act = act m s e in
    let en : Entering m (s.objects (target q)) o Writing v l q = emitted_entry_is_entering m q (s.objects (target q)) o Writing v l (sym is) in
    let ver : (s.objects o).version ≡ v = ap (λ z. (s.objects (target z)).version) (sym en.does) ∙ en.version in
    let g = event_is_in_trail (trail m (after m s e) run t) i (EnteredAt o a v k) h in
    entry_not_past_writer m v e.0 o a k (taken_entry_saw_object m (WritesOrPast v e.0) o a v k t
    (step_of_trail_was_taken m law (WritesOrPast v e.0) (writes_or_past_is_kept m v e.0) (after m s e) (state_invariant_step m law s good e can) run ok o
    (inr (
      ap (λ z. z.version) (target_object_step m s e (Entered o Writing en.answer) en.does)
          ∙ ver,
      ap (λ z. z.inside e.0) (target_object_step m s e (Entered o Writing en.answer) en.does)
          ∙ upd_at_own_place (s.objects o).inside e.0 (Some Writing),
    ))
    t g.1 g.0 (EnteredAt o a v k) g.2))

-- at most one write entry at a version
pub write_entry_unique : {T : Type 0} (m : Machine T) → IsLawful m → (s : State T) → StateInvariant m s → (run : List Step) → IsRun m s run
    → (t i u j o v l k : ℕ) → At (log m s run t) i (EnteredAt o Writing v l) → At (log m s run u) j (EnteredAt o Writing v k) → (t ≡ u) × (i ≡ j)
write_entry_unique m law s good [] ok t i u j o v l k h g = absurd h
write_entry_unique m law s good (e ∷ run) ok t i u j o v l k h g = elim (event_of_cons_cases m s e run t i (EnteredAt o Writing v l) h) [
  | inl p ↦ elim (event_of_cons_cases m s e run u j (EnteredAt o Writing v k) g) [
    | inl q ↦ (p.who ∙ sym q.who, p.place ∙ sym q.place)
    | inr q ↦ absurd (no_entry_past_writer m law s good e ok.0 run ok.1 o v l p.is u q.0 Writing k q.2)
  ]
  | inr p ↦ elim (event_of_cons_cases m s e run u j (EnteredAt o Writing v k) g) [
    | inl q ↦ absurd (no_entry_past_writer m law s good e ok.0 run ok.1 o v k q.is t p.0 Writing l p.2)
    | inr q ↦ let z = write_entry_unique m law (after m s e) (state_invariant_step m law s good e ok.0) run ok.1 t p.0 u q.0 o v l k p.2 q.2 in
        (z.0, p.1 ∙ ap (λ w. shifted_place (eqb w e.0) (label m s e) p.0) z.0 ∙ ap (shifted_place (eqb u e.0) (label m s e)) z.1 ∙ sym q.1)
  ]
]

reads_of_join_if : {T : Type 0} (o v : ℕ) (b : Bool) (x : T × Label) (xs : List (T × Label))
    → reads o v (events (join_if b x xs)) ≡ cond b (reads_one o v x.1) 0 + reads o v (events xs)
reads_of_join_if o v true x xs = by_label x.1
  where
    by_label : (k : Label) → reads o v (logged k (events xs)) ≡ reads_one o v k + reads o v (events xs)
    by_label Quiet = let g : reads o v (events xs) ≡ 0 + reads o v (events xs) = omega arith in g
    by_label (Answer a w) = refl
    by_label (EnteredAt p a w l) = refl
    by_label (FailedTry p) = refl
    by_label (LeftAt p a w) = let g : reads o v (events xs) ≡ 0 + reads o v (events xs) = omega arith in g
reads_of_join_if o v false x xs = let g : reads o v (events xs) ≡ 0 + reads o v (events xs) = omega arith in g

-- no read entry of a version that none of these is
reads_zero_if_no_entry : (o v : ℕ) (es : List Label) → ((i k : ℕ) → At es i (EnteredAt o Reading v k) → ⊥) → reads o v es ≡ 0
reads_zero_if_no_entry o v [] h = refl
reads_zero_if_no_entry o v (Quiet ∷ es) h = no_more (reads o v es) (reads_zero_if_no_entry o v es (λ i k a. h (suc i) k a))
  where
    no_more : (n : ℕ) → n ≡ 0 → 0 + n ≡ 0
    no_more n p = omega arith
reads_zero_if_no_entry o v (Answer a w ∷ es) h = let g = reads_zero_if_no_entry o v es (λ i k a. h (suc i) k a) in let z : 0 + reads o v es ≡ 0 = omega (arith, g) in z
reads_zero_if_no_entry o v (EnteredAt p Writing w l ∷ es) h = let g = reads_zero_if_no_entry o v es (λ i k a. h (suc i) k a) in let z : 0 + reads o v es ≡ 0 =
    omega (arith, g) in z
reads_zero_if_no_entry o v (FailedTry p ∷ es) h = let g = reads_zero_if_no_entry o v es (λ i k a. h (suc i) k a) in let z : 0 + reads o v es ≡ 0 = omega (arith, g) in z
reads_zero_if_no_entry o v (LeftAt p a w ∷ es) h = let g = reads_zero_if_no_entry o v es (λ i k a. h (suc i) k a) in let z : 0 + reads o v es ≡ 0 = omega (arith, g) in z
reads_zero_if_no_entry o v (EnteredAt p Reading w l ∷ es) h =
    let g = reads_zero_if_no_entry o v es (λ i k a. h (suc i) k a) in
    elim (cases_eq p o) [
      | inr ne ↦ let z : reads_one o v (EnteredAt p Reading w l) ≡ 0 = ap (λ b. cond b (cond (eqb w v) 1 0) 0) (ne_eqb p o ne) in
          omega (arith, g, z)
      | inl e ↦ elim (cases_eq w v) [
        | inl d ↦ absurd (h 0 l (λ y. EnteredAt (e y) Reading (d y) l))
        | inr ne ↦ let z : reads_one o v (EnteredAt p Reading w l) ≡ 0 = ap (λ b. cond b (cond (eqb w v) 1 0) 0) (eq-eqb p o e)
            ∙ ap (λ b. cond b 1 0) (ne_eqb w v ne) in omega (arith, g, z)
      ]
    ]

pub idle_stays_idle : {T : Type 0} (m : Machine T) (s : State T) (n : ℕ) → ((t : ℕ) → n ≤ t → asked m s t ≡ Done) → (e : Step) → Can m s e
    → (e.0 < n) × ((t : ℕ) → n ≤ t → asked m (after m s e) t ≡ Done)
idle_stays_idle m s n idle e can =
    let below : e.0 < n = elim (cases_lt e.0 n)
    [ inl l ↦ l | inr g ↦ absurd (subst (λ q. Admits m (act_of q e.1) (s.objects (target (act_of q e.1)))) (idle e.0 g) can) ] in
    (below, λ t l. ap m.ask (thread_after_other m s e t (λ p. differ e.0 t n below l p)) ∙ idle t l)
  where
    differ : (a t n : ℕ) → a < n → n ≤ t → t ≡ a → ⊥
    differ a t n l g e = omega arith

-- a write entry's readers are those of its version
pub write_left_counts_reads : {T : Type 0} (m : Machine T) → IsLawful m → (n : ℕ) (s : State T) → StateInvariant m s → ((t : ℕ) → n ≤ t → asked m s t ≡ Done)
    → (c : ℕ → ℕ → ℕ → ℕ) → Tally n s c → (run : List Step) → IsRun m s run → (t i o v l : ℕ) → At (log m s run t) i (EnteredAt o Writing v l)
    → l ≡ sum_below n (λ u. c o v u + reads o v (log m s run u))
write_left_counts_reads m law n s good idle c tally [] ok t i o v l h = absurd h
write_left_counts_reads m law n s good idle c tally (e ∷ run) ok t i o v l h = elim (event_of_cons_cases m s e run t i (EnteredAt o Writing v l) h) [
  | inl p ↦
      let q : Act = act m s e in
      let en : Entering m (s.objects (target q)) o Writing v l q = emitted_entry_is_entering m q (s.objects (target q)) o Writing v l (sym p.is) in
      let empty : (u : ℕ) → (s.objects o).inside u ≡ None = subst (λ z. Admits m z (s.objects (target z))) en.does ok.0 in
      let ver : (s.objects o).version ≡ v = ap (λ z. (s.objects (target z)).version) (sym en.does) ∙ en.version in
      let left : (s.objects o).left ≡ l = ap (λ z. (s.objects (target z)).left) (sym en.does) ∙ en.left refl in
      omega (
        arith,
        left,
        tally.balance o,
        ap (λ z. sum_below n (c o z)) ver,
        sum_below_of_zeros n (λ u. one_if_reader ((s.objects o).inside u)) (λ u _. ap one_if_reader (empty u)),
        sum_below_cong n (c o v) (λ u. c o v u + reads o v (log m s (e ∷ run) u)) (λ u _. omega (
          arith,
          reads_of_join_if o v (eqb u e.0) (s.now u, label m s e) (trail m (after m s e) run u),
          not_read (eqb u e.0) (reads_one o v (label m s e)) (ap (reads_one o v) (sym p.is)),
          reads_zero_if_no_entry o v (log m (after m s e) run u) (λ j k a. no_entry_past_writer m law s good e ok.0 run ok.1 o v l p.is u j Reading k a),
        )),
      )
  | inr p ↦
      let st = idle_stays_idle m s n idle e ok.0 in
      write_left_counts_reads m law n (after m s e) (state_invariant_step m law s good e ok.0) st.1 (λ o v u. c o v u + counted_read o v (label m s e) e.0 u)
      (tally_after_step m law n s good c tally e ok.0 st.0) run ok.1 t p.0 o v l p.2
      ∙ sum_below_cong n _ _ (λ u _. omega (arith, reads_of_join_if o v (eqb u e.0) (s.now u, label m s e) (trail m (after m s e) run u)))
]
  where
    not_read : (b : Bool) (k : ℕ) → k ≡ 0 → cond b k 0 ≡ 0
    not_read true k h = h
    not_read false k h = refl

-- versions are made by write entries
pub record VersionsMade {T : Type 0} (s : State T) (Q : ℕ → ℕ → Type 0) : Type 0 where
  pub past : (o v : ℕ) → v < (s.objects o).version → Q o v
  pub inside : (o t : ℕ) → (s.objects o).inside t ≡ Some Writing → Q o (s.objects o).version

writer_after_entry : (b : Object) (t u : ℕ) (a : Access) → upd b.inside t (Some a) u ≡ Some Writing → (b.inside u ≡ Some Writing) ⊎ (a ≡ Writing)
writer_after_entry b t u a = upd_by_cases b.inside t (Some a) u (λ z. z ≡ Some Writing → (b.inside u ≡ Some Writing) ⊎ (a ≡ Writing)) (λ _ h. inr (cc h))
    (λ _ h. inl h)

writer_before_leave : (b : Object) (t u : ℕ) → upd b.inside t None u ≡ Some Writing → b.inside u ≡ Some Writing
writer_before_leave b t u = upd_by_cases b.inside t None u (λ z. z ≡ Some Writing → b.inside u ≡ Some Writing) (λ _ h. absurd (cc h)) (λ _ h. h)

version_property_after_act : {T : Type 0} (m : Machine T) (q : Act) (t : ℕ) (b : Object) → Exclusive b → InsideForAct q (b.inside t) → (P : ℕ → Type 0)
    → ((v : ℕ) → v < b.version → P v) → ((u : ℕ) → b.inside u ≡ Some Writing → P b.version)
    → ((o ans : ℕ) → q ≡ Entered o Writing ans → P b.version)
    → ((v : ℕ) → v < (acted q t b).version → P v) × ((u : ℕ) → (acted q t b).inside u ≡ Some Writing → P (acted q t b).version)
version_property_after_act m Silent t b ex i P p w new = (p, w)
version_property_after_act m (TryFailed _) t b ex i P p w new = (p, w)
version_property_after_act m (Replied k res) t b ex i P p w new = (p, w)
version_property_after_act m (Entered o Reading ans) t b ex i P p w new = (p, λ u h. elim (writer_after_entry b t u Reading h) [ inl g ↦ w u g | inr g ↦ absurd (cc g) ])
version_property_after_act m (Entered o Writing ans) t b ex i P p w new = (p, λ u h. new o ans refl)
version_property_after_act m (Left o Reading) t b ex i P p w new = (p, λ u h. w u (writer_before_leave b t u h))
version_property_after_act m (Left o Writing) t b ex i P p w new = (
  λ v l. elim (cases_lt v b.version)
      [ inl g ↦ p v g | inr g ↦ let e : b.version ≡ v = omega arith in subst P e (w t i) ],
  λ u h. absurd (gone u h),
)
  where
    gone : (u : ℕ) → upd b.inside t None u ≡ Some Writing → ⊥
    gone u h = absurd (upd_by_cases b.inside t None u (λ z. z ≡ Some Writing → ⊥) (λ _ g. cc g) (λ ne g. cc (ex t u (λ e. ne (sym e)) i, g)) h)
version_property_after_act m (Got o j) t b ex i P p w new = (p, w)
version_property_after_act m (Stored o j x) t b ex i P p w new = (p, w)
version_property_after_act m Never t b ex i P p w new = (p, w)

versions_made_step : {T : Type 0} (m : Machine T) → IsLawful m → (s : State T) → StateInvariant m s → (Q : ℕ → ℕ → Type 0) → VersionsMade s Q → (e : Step)
    → ((o v l : ℕ) → label m s e ≡ EnteredAt o Writing v l → Q o v) → VersionsMade (after m s e) Q
unfolding after
versions_made_step m law s good Q made e new =
    let q : Act = act m s e in
    let b : Object = s.objects (target q) in
    let z = version_property_after_act m q e.0 b (good.exclusive (target q)) (inside_for_act_of_step m law s good e) (Q (target q)) (made.past (target q))
    (made.inside (target q))
    (λ o ans is. subst (λ w. Q (target w) (s.objects (target w)).version) (sym is)
    (new o (s.objects o).version (s.objects o).left (ap (λ w. emitted w (s.objects (target w))) is))) in
    record {
      past = λ o v. upd_by_cases s.objects (target q) (acted q e.0 b) o (λ d. v < d.version → Q o v)
          (λ here l. subst (λ w. Q w v) (sym here) (z.0 v l)) (λ _ l. made.past o v l);
      inside = λ o t. upd_by_cases s.objects (target q) (acted q e.0 b) o (λ d. d.inside t ≡ Some Writing → Q o d.version)
          (λ here h. subst (λ w. Q w (acted q e.0 b).version) (sym here) (z.1 t h)) (λ _ h. made.inside o t h);
    }

event_in_join_if : {T : Type 0} (b : Bool) (x : T × Label) (xs : List (T × Label)) (i : ℕ) (k : Label) → At (events xs) i k
    → At (events (join_if b x xs)) (shifted_place b x.1 i) k
event_in_join_if false x xs i k h = h
event_in_join_if true x xs i k h = by_label x.1
  where
    by_label : (y : Label) → At (logged y (events xs)) (shifted_place true y i) k
    by_label Quiet = h
    by_label (Answer a v) = h
    by_label (EnteredAt o a v l) = h
    by_label (FailedTry o) = h
    by_label (LeftAt o a v) = h

write_entry_is_first : {T : Type 0} (m : Machine T) (s : State T) (e : Step) (run : List Step) (o v l : ℕ) → label m s e ≡ EnteredAt o Writing v l
    → At (log m s (e ∷ run) e.0) 0 (EnteredAt o Writing v l)
write_entry_is_first m s e run o v l is = subst (λ b. At (events (join_if b (s.now e.0, label m s e) (trail m (after m s e) run e.0))) 0
    (EnteredAt o Writing v l)) (sym (eq-eqb e.0 e.0 refl))
    (subst (λ z. At (logged z (log m (after m s e) run e.0)) 0 (EnteredAt o Writing v l)) (sym is) refl)

pub later_version_is_written : {T : Type 0} (m : Machine T) → IsLawful m → (s : State T) → StateInvariant m s → (Q : ℕ → ℕ → Type 0) → VersionsMade s Q → (run : List Step)
    → IsRun m s run → ((t i o v l : ℕ) → At (log m s run t) i (EnteredAt o Writing v l) → Q o v)
    → (t i o v l : ℕ) (a : Access) → At (log m s run t) i (EnteredAt o a (suc v) l) → Q o v
later_version_is_written m law s good Q made [] ok all t i o v l a h = absurd h
later_version_is_written m law s good Q made (e ∷ run) ok all t i o v l a h = elim (event_of_cons_cases m s e run t i (EnteredAt o a (suc v) l) h) [
  | inl p ↦
      let q : Act = act m s e in
      let en : Entering m (s.objects (target q)) o a (suc v) l q = emitted_entry_is_entering m q (s.objects (target q)) o a (suc v) l (sym p.is) in
      let ver : (s.objects o).version ≡ suc v = ap (λ z. (s.objects (target z)).version) (sym en.does) ∙ en.version in
      made.past o v (omega arith)
  | inr p ↦ later_version_is_written m law (after m s e) (state_invariant_step m law s good e ok.0) Q
      (versions_made_step m law s good Q made e (λ o v l is. all e.0 0 o v l (write_entry_is_first m s e run o v l is))) run ok.1
      (λ t i o v l g. all t (shifted_place (eqb t e.0) (label m s e) i) o v l
      (event_in_join_if (eqb t e.0) (s.now t, label m s e) (trail m (after m s e) run t) i (EnteredAt o Writing v l) g)) t p.0 o v l a p.2
]

pub own_trace_is_coherent : (n : ℕ) {T : Type 0} (m : Machine T) → IsLawful m → (s : State T) → StateInvariant m s → IsStart m s → IsIdle m s n
    → (run : List Step) → IsRun m s run → IsCoherent n (trace m s run)
own_trace_is_coherent n m law s good st im run ok = record {
  made = λ t i o v l a h. later_version_is_written m law s good (λ o v. (u j k : ℕ) × At (log m s run u) j (EnteredAt o Writing v k))
      (record { past = λ o v l. absurd (omega (arith, st.version o)); inside = λ o t h. absurd (cc (st.inside o t, h)) }) run ok
      (λ t i o v l g. (t, i, l, g)) t i o v l a h;
  writer = λ t i u j o v l k h g. write_entry_unique m law s good run ok t i u j o v l k h g;
  readers = λ t i o v l h. write_left_counts_reads m law n s good im (λ o v u. 0) (tally_at_start m n s st) run ok t i o v l h
      ∙ sum_below_cong n _ _ (λ u _. zero_plus (reads o v (log m s run u)));
}
  where
    zero_plus : (n : ℕ) → 0 + n ≡ n
    zero_plus n = omega arith
