-- The spliced list is a run, in which each thread takes its own steps.
use Rattle.std.proofs.Common.{◌≡◌, ◌≢◌, ℕ, suc, zero, ◌<◌, ◌≤◌, Bool, true, false, cond, eqb, ltb, List, [], ◌∷◌, ◌++◌, map, refl, sym, ap, ◌∙◌, subst, arith, inl, inr, eq-eqb, ne_eqb, append-nil}
use Rattle.std.proofs.lemmas.Bool.{cases_eq, cases_lt, lt-ltb, le-ltb, eqb-true}
use Rattle.ir_lemmas.proofs.CallerLemmas.{prefix_is_whole}
use Rattle.ir_runs.specs.Machine.{Ask, Private, Env, Enter, Try, Leave, Get, Put, Done, Act, act_of, Silent, Replied, Entered, TryFailed}
use Rattle.ir_runs.specs.Machine.{Left, Got, Stored, Never, Machine, upd, Object, target, Admits, acted, reply, emitted, Label}
use Rattle.ir_runs.specs.Shared.{is_shared}
use Rattle.ir_object.specs.Order.{Shared, of_thread, IsAllowedStep, objects_after, order_labels}
use Rattle.ir_runs.proofs.CallerLemmas.{upd_at_own_place, upd_at_other_place, upd_with_old_value, append_of_runs_is_run, trail_append, end_append, upd_twice_is_last_upd}
use Rattle.ir_runs.specs.Run.{State, Step, after_act, Can, after, IsRun, end, trail, join_if, label}
use Rattle.ir_flat.specs.Splice.{shared_steps, lead, led, remain, tail_of, last_steps, splice}
use Rattle.ir_flat.specs.Flat.{MayReply, MayRun, alone_after}
use Rattle.ir_flat.specs.Trails.{alone_label, labels_left, alone_trail}

abbrev pub state_of : {T : Type 0} → (ℕ → T) → (ℕ → Object) → State T
state_of now objects = record { now = now; objects = objects }

-- a step about no object
unshared_changes_nothing : {T : Type 0} (m : Machine T) (q : Ask) (v t : ℕ) (f : ℕ → Object) → is_shared (act_of q v) ≡ false
    → MayReply m (act_of q v) v → Admits m (act_of q v) (f (target (act_of q v))) × (reply (act_of q v) (f (target (act_of q v))) ≡ v)
    × (upd f (target (act_of q v)) (acted (act_of q v) t (f (target (act_of q v)))) ≡ f)
unshared_changes_nothing m Private v t f p h = (tt, sym h, upd_with_old_value f 0 (f 0) refl)
unshared_changes_nothing m (Env k) v t f p h = (h, refl, upd_with_old_value f 0 (f 0) refl)
unshared_changes_nothing m (Enter o a) v t f p h = absurd (cc p)
unshared_changes_nothing m (Try o) zero t f p h = (tt, refl, upd_with_old_value f 0 (f 0) refl)
unshared_changes_nothing m (Try o) (suc zero) t f p h = absurd (cc p)
unshared_changes_nothing m (Try o) (suc (suc v)) t f p h = absurd h
unshared_changes_nothing m (Leave o a) v t f p h = absurd (cc p)
unshared_changes_nothing m (Get o i) v t f p h = absurd (cc p)
unshared_changes_nothing m (Put o i w) v t f p h = absurd (cc p)
unshared_changes_nothing m Done v t f p h = absurd h

-- the state in which thread t is x, and the objects are f
abbrev pub StateWith : {T : Type 0} → (ℕ → T) → ℕ → T → (ℕ → Object) → State T
StateWith now t x f = record { now = upd now t x; objects = f }

-- a step of thread t, from a state where it is x
step_with_thread : {T : Type 0} (m : Machine T) (now : ℕ → T) (t : ℕ) (x : T) (v : ℕ) (f g : ℕ → Object) (q : Act) → act_of (m.ask x) v ≡ q
    → Admits m q (f (target q)) → reply q (f (target q)) ≡ v → upd f (target q) (acted q t (f (target q))) ≡ g
    → Can m (StateWith now t x f) (t, v) × (after m (StateWith now t x f) (t, v) ≡ StateWith now t (m.take x v) g)
unfolding after
step_with_thread m now t x v f g q is can rep obj =
    let p : upd now t x t ≡ x = upd_at_own_place now t x in
    let e : act_of (m.ask (upd now t x t)) v ≡ q = ap (λ z. act_of (m.ask z) v) p ∙ is in (
      subst (λ z. Admits m z (f (target z))) (sym e) can,
      ap (λ z. after_act m (StateWith now t x f) t z (act_of (m.ask z) v)) p
          ∙ ap (λ z. record {
            now = upd (upd now t x) t (m.take x (reply z (f (target z))));
            objects =
                upd f (target z) (acted z t (f (target z)));
          }) is
          ∙ (λ i. record { now = upd (upd now t x) t (m.take x (rep i)); objects = obj i })
          ∙ (λ i. record { now = upd_twice_is_last_upd now t x (m.take x v) i; objects = g }),
    )

-- the private steps of thread t, up to its next object step: the replies, the thread there, the replies from there on
pub record LedToObjectStep {T : Type 0} (m : Machine T) (now : ℕ → T) (t : ℕ) (x : T) (f : ℕ → Object) (vs ls : List ℕ) (y : T) (ws : List ℕ) : Type
    0 where
  pub ok : IsRun m (StateWith now t x f) (map (λ r. (t, r)) ls)
  pub there : end m (StateWith now t x f) (map (λ r. (t, r)) ls) ≡ StateWith now t y f
  pub alone : MayRun m y ws
  pub same_steps : shared_steps m y ws ≡ shared_steps m x vs
  pub next : (r : ℕ) (rs : List ℕ) → ws ≡ r ∷ rs → is_shared (act_of (m.ask y) r) ≡ true
  pub parts : ls ++ ws ≡ vs
  pub rest : alone_after m y ws ≡ alone_after m x vs
  pub trails : (ks : List Label) → trail m (StateWith now t x f) (map (λ r. (t, r)) ls) t ++ alone_trail m y ws ks ≡ alone_trail m x vs ks
  pub others : (u : ℕ) → u ≢ t → trail m (StateWith now t x f) (map (λ r. (t, r)) ls) u ≡ []

-- what a private step emits
pub unshared_emits_alone : {T : Type 0} (m : Machine T) (q : Act) (v : ℕ) (b : Object) (ks : List Label) → is_shared q ≡ false → MayReply m q v
    → emitted q b ≡ alone_label q ks
unshared_emits_alone m Silent v b ks p h = refl
unshared_emits_alone m (TryFailed _) v b ks p h = refl
unshared_emits_alone m (Replied k res) v b ks p h = refl
unshared_emits_alone m (Entered o a ans) v b ks p h = absurd (cc p)
unshared_emits_alone m (Left o a) v b ks p h = absurd (cc p)
unshared_emits_alone m (Got o i) v b ks p h = absurd (cc p)
unshared_emits_alone m (Stored o i w) v b ks p h = absurd (cc p)
unshared_emits_alone m Never v b ks p h = absurd h

same_heads : (v r : ℕ) (vs rs : List ℕ) → (v ∷ vs) ≡ (r ∷ rs) → v ≡ r
same_heads v r vs rs e = cc e

led_to_cons_replies : {T : Type 0} (m : Machine T) (now : ℕ → T) (t : ℕ) (x : T) (f : ℕ → Object) (v : ℕ) (vs : List ℕ) → MayRun m x (v ∷ vs)
    → (b : Bool) → is_shared (act_of (m.ask x) v) ≡ b
    → LedToObjectStep m now t (m.take x v) f vs (lead m (m.take x v) vs) (led m (m.take x v) vs) (remain m (m.take x v) vs)
    → LedToObjectStep m now t x f (v ∷ vs) (cond b [] (v ∷ lead m (m.take x v) vs)) (cond b x (led m (m.take x v) vs))
    (cond b (v ∷ vs) (remain m (m.take x v) vs))
led_to_cons_replies m now t x f v vs h true p k = record {
  ok = tt;
  there = refl;
  alone = h;
  same_steps = refl;
  next =
      λ r rs e. ap (λ z. is_shared (act_of (m.ask x) z)) (sym (same_heads v r vs rs e)) ∙ p;
  parts = refl;
  rest = refl;
  trails =
      λ ks. refl;
  others = λ u ne. refl;
}
led_to_cons_replies m now t x f v vs h false p k =
    let z = unshared_changes_nothing m (m.ask x) v t f p h.0 in
    let g = step_with_thread m now t x v f f (act_of (m.ask x) v) refl z.0 z.1 z.2 in
    record {
      ok = (g.0, subst (λ y. IsRun m y (map (λ r. (t, r)) (lead m (m.take x v) vs))) (sym g.1) k.ok);
      there = ap (λ y. end m y (map (λ r. (t, r)) (lead m (m.take x v) vs))) g.1 ∙ k.there;
      alone = k.alone;
      same_steps = subst (λ b. shared_steps m (led m (m.take x v) vs) (remain m (m.take x v) vs) ≡ join_if b (act_of (m.ask x) v, v)
          (shared_steps m (m.take x v) vs)) (sym p) k.same_steps;
      next = k.next;
      parts = ap (λ y. v ∷ y) k.parts;
      rest = k.rest;
      trails = λ ks.
          ap (λ b. join_if b (upd now t x t, label m (StateWith now t x f) (t, v))
          (trail m (after m (StateWith now t x f) (t, v)) (map (λ r. (t, r)) (lead m (m.take x v) vs)) t) ++ alone_trail m
          (led m (m.take x v) vs) (remain m (m.take x v) vs) ks) (eq-eqb t t refl)
          ∙ ap (λ z. (upd now t x t, label m (StateWith now t x f) (t, v))
          ∷ (trail m z (map (λ r. (t, r)) (lead m (m.take x v) vs)) t ++ alone_trail m (led m (m.take x v) vs) (remain m (m.take x v) vs)
          ks)) g.1
          ∙ ap (λ z. (upd now t x t, label m (StateWith now t x f) (t, v)) ∷ z) (k.trails ks)
          ∙ ap (λ z. (z, emitted (act_of (m.ask z) v) (f (target (act_of (m.ask z) v)))) ∷ alone_trail m (m.take x v) vs ks) (upd_at_own_place now t x)
          ∙ ap (λ z. (x, z) ∷ alone_trail m (m.take x v) vs ks)
          (unshared_emits_alone m (act_of (m.ask x) v) v (f (target (act_of (m.ask x) v))) ks p h.0)
          ∙ ap (λ b. (x, alone_label (act_of (m.ask x) v) ks) ∷ alone_trail m (m.take x v) vs (labels_left b ks)) (sym p);
      others = λ u ne. ap (λ b. join_if b (upd now t x u, label m (StateWith now t x f) (t, v))
          (trail m (after m (StateWith now t x f) (t, v)) (map (λ r. (t, r)) (lead m (m.take x v) vs)) u)) (ne_eqb u t ne)
          ∙ ap (λ z. trail m z (map (λ r. (t, r)) (lead m (m.take x v) vs)) u) g.1 ∙ k.others u ne;
    }

led_to_object_step : {T : Type 0} (m : Machine T) (now : ℕ → T) (t : ℕ) (x : T) (f : ℕ → Object) (vs : List ℕ) → MayRun m x vs
    → LedToObjectStep m now t x f vs (lead m x vs) (led m x vs) (remain m x vs)
led_to_object_step m now t x f [] h = record {
  ok = tt;
  there = refl;
  alone = h;
  same_steps = refl;
  next = λ r rs e. absurd (cc e);
  parts = refl;
  rest =
      refl;
  trails = λ ks. refl;
  others = λ u ne. refl;
}
led_to_object_step m now t x f (v ∷ vs) h = led_to_cons_replies m now t x f v vs h (is_shared (act_of (m.ask x) v)) refl (led_to_object_step m now t (m.take x v) f vs h.1)

-- a run with these steps of the threads, after which they and the objects are these
pub record RunWithTrails {T : Type 0} (m : Machine T) (s : State T) (run : List Step) (W : ℕ → List (T × Label)) (E : ℕ → T) (O : ℕ → Object) :
    Type 0 where
  pub ok : IsRun m s run
  pub trails : (u : ℕ) → trail m s run u ≡ W u
  pub threads : (u : ℕ) → (end m s run).now u ≡ E u
  pub objects : (end m s run).objects ≡ O

-- a run, and what completes it
trails_append_of_runs : {T : Type 0} (m : Machine T) (s s' : State T) (run more : List Step) (W W' : ℕ → List (T × Label)) (E E' : ℕ → T)
    (O : ℕ → Object) → IsRun m s run → end m s run ≡ s' → RunWithTrails m s' more W E O
    → ((u : ℕ) → trail m s run u ++ W u ≡ W' u) → ((u : ℕ) → E u ≡ E' u) → RunWithTrails m s (run ++ more) W' E' O
trails_append_of_runs {T} m s s' run more W W' E E' O ok e c joins ends = record {
  ok = append_of_runs_is_run m s run more ok (subst (λ z. IsRun m z more) (sym e) c.ok);
  trails = λ u. trail_append m s run more u ∙ ap (λ z. trail m s run u ++ trail m z more u) e ∙ ap (λ z. trail m s run u ++ z) (c.trails u)
      ∙ joins u;
  threads = λ u. ap (λ z. z.now u) there ∙ c.threads u ∙ ends u;
  objects = ap (λ z. z.objects) there ∙ c.objects;
}
  where
    there : end m s (run ++ more) ≡ end m s' more
    there = end_append m s run more ∙ ap (λ z. end m z more) e

-- putting a thread where it is changes nothing
state_with_own_thread : {T : Type 0} (now : ℕ → T) (t : ℕ) (f : ℕ → Object) → StateWith now t (now t) f ≡ state_of now f
state_with_own_thread now t f = λ i. record { now = upd_with_old_value now t (now t) refl i; objects = f }

no_shared_no_replies : {T : Type 0} (m : Machine T) (y : T) (ws : List ℕ)
    → ((r : ℕ) (rs : List ℕ) → ws ≡ r ∷ rs → is_shared (act_of (m.ask y) r) ≡ true) → shared_steps m y ws ≡ [] → ws ≡ []
no_shared_no_replies m y [] next e = refl
no_shared_no_replies m y (v ∷ vs) next e = absurd (cc
    (subst (λ b. join_if b (act_of (m.ask y) v, v) (shared_steps m (m.take y v) vs) ≡ []) (next v vs refl) e))

-- the trails where the threads below n are still to go
abbrev pub TrailsLeft : {T : Type 0} → Machine T → (ℕ → T) → (ℕ → List ℕ) → ℕ → ℕ → List (T × Label)
TrailsLeft m now rs n u = cond (ltb u n) (alone_trail m (now u) (rs u) []) []

-- the threads where those below n are still to go
abbrev pub ThreadsAfterLast : {T : Type 0} → Machine T → (ℕ → T) → (ℕ → List ℕ) → ℕ → ℕ → T
ThreadsAfterLast m now rs n u = cond (ltb u n) (alone_after m (now u) (rs u)) (now u)

last_steps_with_trails : {T : Type 0} (m : Machine T) (now : ℕ → T) (f : ℕ → Object) (rs : ℕ → List ℕ) (n : ℕ)
    → ((t : ℕ) → t < n → MayRun m (now t) (rs t) × (shared_steps m (now t) (rs t) ≡ []))
    → RunWithTrails m (state_of now f) (last_steps rs n) (TrailsLeft m now rs n) (ThreadsAfterLast m now rs n) f
last_steps_with_trails m now f rs zero h = record {
  ok = tt;
  trails = λ u. sym (ap (λ b. cond b (alone_trail m (now u) (rs u) []) []) (le-ltb u 0 (omega arith)));
  threads = λ u. sym (ap (λ b. cond b (alone_after m (now u) (rs u)) (now u)) (le-ltb u 0 (omega arith)));
  objects = refl;
}
last_steps_with_trails m now f rs (suc n) h =
    let a = h n (omega arith) in
    let k : LedToObjectStep m now n (now n) f (rs n) (lead m (now n) (rs n)) (led m (now n) (rs n)) (remain m (now n) (rs n)) =
    led_to_object_step m now n (now n) f (rs n) a.0 in
    let none : remain m (now n) (rs n) ≡ [] = no_shared_no_replies m (led m (now n) (rs n)) (remain m (now n) (rs n)) k.next
    (k.same_steps ∙ a.1) in
    let all : lead m (now n) (rs n) ≡ rs n = prefix_is_whole (lead m (now n) (rs n)) (remain m (now n) (rs n)) (rs n) k.parts none in
    let y = led m (now n) (rs n) in
    let there : y ≡ alone_after m (now n) (rs n) = ap (alone_after m y) (sym none) ∙ k.rest in
    let start = state_of now f in
    let same : (u : ℕ) → trail m start (map (λ r. (n, r)) (rs n)) u ≡ trail m (StateWith now n (now n) f)
    (map (λ r. (n, r)) (lead m (now n) (rs n))) u = λ u. ap (λ z. trail m z (map (λ r. (n, r)) (rs n)) u) (sym (state_with_own_thread now n f))
    ∙ ap (λ z. trail m (StateWith now n (now n) f) (map (λ r. (n, r)) z) u) (sym all) in
    trails_append_of_runs m start (StateWith now n y f) (map (λ r. (n, r)) (rs n)) (last_steps rs n) (TrailsLeft m (upd now n y) rs n) (TrailsLeft m now rs (suc n))
    (ThreadsAfterLast m (upd now n y) rs n) (ThreadsAfterLast m now rs (suc n)) f
    (subst (λ z. IsRun m z (map (λ r. (n, r)) (rs n))) (state_with_own_thread now n f)
    (subst (λ z. IsRun m (StateWith now n (now n) f) (map (λ r. (n, r)) z)) all k.ok))
    (ap (λ z. end m z (map (λ r. (n, r)) (rs n))) (sym (state_with_own_thread now n f))
    ∙ ap (λ z. end m (StateWith now n (now n) f) (map (λ r. (n, r)) z)) (sym all) ∙ k.there)
    (last_steps_with_trails m (upd now n y) f rs n
    (λ t l. let ne : t ≢ n = omega arith in let p : upd now n y t ≡ now t = upd_at_other_place now n t y ne in
    subst (λ z. MayRun m z (rs t) × (shared_steps m z (rs t) ≡ [])) (sym p) (h t (omega arith))))
    (λ u. elim (cases_eq u n) [
      | inl e ↦ subst (λ w. trail m start (map (λ r. (n, r)) (rs n)) w ++ TrailsLeft m (upd now n y) rs n w ≡ TrailsLeft m now rs (suc n) w) (sym e)
          (ap (λ b. trail m start (map (λ r. (n, r)) (rs n)) n ++ cond b (alone_trail m (upd now n y n) (rs n) []) [])
          (le-ltb n n (omega arith))
          ∙ ap (λ z. z ++ []) (same n)
          ∙ ap (λ z. trail m (StateWith now n (now n) f) (map (λ r. (n, r)) (lead m (now n) (rs n))) n ++ alone_trail m y z []) (sym none)
          ∙ k.trails []
          ∙ sym (ap (λ b. cond b (alone_trail m (now n) (rs n) []) []) (lt-ltb n (suc n) (omega arith))))
      | inr ne ↦ ap (λ z. z ++ TrailsLeft m (upd now n y) rs n u) (same u ∙ k.others u ne)
          ∙ ap (λ z. cond (ltb u n) (alone_trail m z (rs u) []) []) (upd_at_other_place now n u y ne)
          ∙ ap (λ b. cond b (alone_trail m (now u) (rs u) []) []) (below u n ne)
    ])
    (λ u. elim (cases_eq u n) [
      | inl e ↦ subst (λ w. ThreadsAfterLast m (upd now n y) rs n w ≡ ThreadsAfterLast m now rs (suc n) w) (sym e)
          (ap (λ b. cond b (alone_after m (upd now n y n) (rs n)) (upd now n y n)) (le-ltb n n (omega arith))
          ∙ upd_at_own_place now n y ∙ there
          ∙ sym (ap (λ b. cond b (alone_after m (now n) (rs n)) (now n)) (lt-ltb n (suc n) (omega arith))))
      | inr ne ↦ ap (λ z. cond (ltb u n) (alone_after m z (rs u)) z) (upd_at_other_place now n u y ne)
          ∙ ap (λ b. cond b (alone_after m (now u) (rs u)) (now u)) (below u n ne)
    ])
  where
    below : (u n : ℕ) → u ≢ n → ltb u n ≡ ltb u (suc n)
    below u n ne = elim (cases_lt u n) [
      | inl l ↦ lt-ltb u n l ∙ sym (lt-ltb u (suc n) (omega arith))
      | inr g ↦ le-ltb u n g
          ∙ sym (le-ltb u (suc n) (omega arith))
    ]

pub record StartsWithObjectStep {T : Type 0} (m : Machine T) (y : T) (ws : List ℕ) (q : Act) (v : ℕ) (more : List Shared) : Type 0 where
  pub does : act_of (m.ask y) v ≡ q
  pub alone : MayRun m (m.take y v) (tail_of ws)
  pub steps : shared_steps m (m.take y v) (tail_of ws) ≡ more
  pub rest : alone_after m (m.take y v) (tail_of ws) ≡ alone_after m y ws
  pub trails : (k : Label) (ks : List Label) → alone_trail m y ws (k ∷ ks) ≡ (y, k) ∷ alone_trail m (m.take y v) (tail_of ws) ks

pub shared_alone_label : (q : Act) (k : Label) (ks : List Label) → is_shared q ≡ true → alone_label q (k ∷ ks) ≡ k
shared_alone_label Silent k ks p = absurd (cc p)
shared_alone_label (TryFailed _) k ks p = absurd (cc p)
shared_alone_label (Replied i res) k ks p = absurd (cc p)
shared_alone_label (Entered o a ans) k ks p = refl
shared_alone_label (Left o a) k ks p = refl
shared_alone_label (Got o i) k ks p = refl
shared_alone_label (Stored o i w) k ks p = refl
shared_alone_label Never k ks p = absurd (cc p)

replies_start_on_object : {T : Type 0} (m : Machine T) (y : T) (ws : List ℕ) (q : Act) (v : ℕ) (more : List Shared) → MayRun m y ws
    → ((r : ℕ) (rs : List ℕ) → ws ≡ r ∷ rs → is_shared (act_of (m.ask y) r) ≡ true) → shared_steps m y ws ≡ (q, v) ∷ more
    → StartsWithObjectStep m y ws q v more
replies_start_on_object m y [] q v more h next e = absurd (cc e)
replies_start_on_object m y (r ∷ rs) q v more h next e =
    let is : is_shared (act_of (m.ask y) r) ≡ true = next r rs refl in
    let g : (act_of (m.ask y) r, r) ∷ shared_steps m (m.take y r) rs ≡ (q, v) ∷ more =
    subst (λ b. join_if b (act_of (m.ask y) r, r) (shared_steps m (m.take y r) rs) ≡ (q, v) ∷ more) is e in
    let pair : ◌≡◌ {A = Shared} (act_of (m.ask y) r, r) (q, v) = cc g in
    let same : r ≡ v = ap (λ z. z.1) pair in
    let does : act_of (m.ask y) r ≡ q = ap (λ z. z.0) pair in
    record {
      does = ap (act_of (m.ask y)) (sym same) ∙ does;
      alone = subst (λ z. MayRun m (m.take y z) rs) same h.1;
      steps = subst (λ z. shared_steps m (m.take y z) rs ≡ more) same (cc g);
      rest = ap (λ z. alone_after m (m.take y z) rs) (sym same);
      trails = λ k ks. ap (λ z. (y, z) ∷ alone_trail m (m.take y r) rs (labels_left (is_shared (act_of (m.ask y) r)) (k ∷ ks)))
          (shared_alone_label (act_of (m.ask y) r) k ks is)
          ∙ ap (λ b. (y, k) ∷ alone_trail m (m.take y r) rs (labels_left b (k ∷ ks))) is
          ∙ ap (λ z. (y, k) ∷ alone_trail m (m.take y z) rs ks) same;
    }

-- two tables that changed at one place
two_upds_by_cases : {A B : Type 0} (f : ℕ → A) (g : ℕ → B) (t : ℕ) (a : A) (b : B) (u : ℕ) (P : ℕ → A → B → Type 0) → P t a b → (u ≢ t → P u (f u) (g u))
    → P u (upd f t a u) (upd g t b u)
two_upds_by_cases f g t a b u P here other = elim (cases_eq u t) [
  | inl e ↦ subst (λ w. P w (upd f t a w) (upd g t b w)) (sym e)
      (subst (λ z. P t z (upd g t b t)) (sym (upd_at_own_place f t a)) (subst (λ z. P t a z) (sym (upd_at_own_place g t b)) here))
  | inr ne ↦ subst (λ z. P u z (upd g t b u)) (sym (upd_at_other_place f t u a ne))
      (subst (λ z. P u (f u) z) (sym (upd_at_other_place g t u b ne)) (other ne))
]

two_upds_elsewhere : {A B : Type 0} (f : ℕ → A) (g : ℕ → B) (t : ℕ) (a : A) (b : B) (u : ℕ) (P : A → B → Type 0) → u ≢ t → P (f u) (g u)
    → P (upd f t a u) (upd g t b u)
two_upds_elsewhere f g t a b u P ne h = subst (λ z. P z (upd g t b u)) (sym (upd_at_other_place f t u a ne))
    (subst (λ z. P (f u) z) (sym (upd_at_other_place g t u b ne)) h)

-- where the object steps of each thread alone are those in the order, the splice is a run, and each thread's steps are its own
pub splice_runs_with_trails : {T : Type 0} (m : Machine T) (now : ℕ → T) (f : ℕ → Object) (rs : ℕ → List ℕ) (n : ℕ) (order : List (ℕ × Shared))
    → ((t : ℕ) → n ≤ t → rs t ≡ []) → ((t : ℕ) → MayRun m (now t) (rs t)) → ((t : ℕ) → shared_steps m (now t) (rs t) ≡ of_thread t order)
    → IsAllowedStep m f order → RunWithTrails m (state_of now f) (splice m now rs n order)
    (λ u. alone_trail m (now u) (rs u) (of_thread u (order_labels f order))) (λ u. alone_after m (now u) (rs u)) (objects_after f order)
splice_runs_with_trails m now f rs n [] idle alone steps allowed =
    let k : RunWithTrails m (state_of now f) (last_steps rs n) (TrailsLeft m now rs n) (ThreadsAfterLast m now rs n) f =
    last_steps_with_trails m now f rs n (λ t _. (alone t, steps t)) in
    record {
      ok = k.ok;
      trails = λ u. k.trails u ∙ elim (cases_lt u n) [
        | inl l ↦ ap (λ b. cond b (alone_trail m (now u) (rs u) []) []) (lt-ltb u n l)
        | inr g ↦ ap (λ b. cond b (alone_trail m (now u) (rs u) []) []) (le-ltb u n g)
            ∙ ap (λ z. alone_trail m (now u) z []) (sym (idle u g))
      ];
      threads = λ u. k.threads u ∙ elim (cases_lt u n) [
        | inl l ↦ ap (λ b. cond b (alone_after m (now u) (rs u)) (now u)) (lt-ltb u n l)
        | inr g ↦ ap (λ b. cond b (alone_after m (now u) (rs u)) (now u)) (le-ltb u n g) ∙ ap (alone_after m (now u)) (sym (idle u g))
      ];
      objects = k.objects;
    }
splice_runs_with_trails {T} m now f rs n (x ∷ xs) idle alone steps allowed =
    let t : ℕ = x.0 in let q : Act = x.1.0 in let v : ℕ = x.1.1 in
    let y = led m (now t) (rs t) in let ws : List ℕ = remain m (now t) (rs t) in
    let f' : ℕ → Object = upd f (target q) (acted q t (f (target q))) in
    let k : LedToObjectStep m now t (now t) f (rs t) (lead m (now t) (rs t)) y ws = led_to_object_step m now t (now t) f (rs t) (alone t) in
    let here : shared_steps m (now t) (rs t) ≡ (q, v) ∷ of_thread t xs = steps t
    ∙ ap (λ b. join_if b x.1 (of_thread t xs)) (eq-eqb t t refl) in
    let c : StartsWithObjectStep m y ws q v (of_thread t xs) = replies_start_on_object m y ws q v (of_thread t xs) k.alone k.next (k.same_steps ∙ here) in
    let g = step_with_thread m now t y v f f' q c.does allowed.0 allowed.1 refl in
    let low : (u : ℕ) → n ≤ u → u ≢ t = λ u l e. cc
    (ap (λ b. shared_steps m (now b) (rs b)) e ∙ here, ap (shared_steps m (now u)) (idle u l)) in
    let more : List Step = splice m (upd now t (m.take y v)) (upd rs t (tail_of ws)) n xs in
    let W = λ (u : ℕ). alone_trail m (upd now t (m.take y v) u) (upd rs t (tail_of ws) u) (of_thread u (order_labels f' xs)) in
    let E = λ (u : ℕ). alone_after m (upd now t (m.take y v) u) (upd rs t (tail_of ws) u) in
    let ih : RunWithTrails m (state_of (upd now t (m.take y v)) f') more W E (objects_after f' xs) =
    splice_runs_with_trails m (upd now t (m.take y v)) f' (upd rs t (tail_of ws)) n xs
    (λ u l. upd_at_other_place rs t u (tail_of ws) (low u l) ∙ idle u l)
    (λ u. two_upds_by_cases now rs t (m.take y v) (tail_of ws) u (λ w a b. MayRun m a b) c.alone (λ ne. alone u))
    (λ u. two_upds_by_cases now rs t (m.take y v) (tail_of ws) u (λ w a b. shared_steps m a b ≡ of_thread w xs) c.steps
    (λ ne. steps u ∙ ap (λ b. join_if b x.1 (of_thread u xs)) (ne_eqb u t ne)))
    allowed.2 in
    let k0 : Label = emitted q (f (target q)) in
    let marked : label m (StateWith now t y f) (t, v) ≡ k0 =
    ap (λ w. emitted (act_of (m.ask w) v) (f (target (act_of (m.ask w) v)))) (upd_at_own_place now t y) ∙ ap (λ w. emitted w (f (target w))) c.does in
    let same : (u : ℕ) → trail m (state_of now f) (map (λ r. (t, r)) (lead m (now t) (rs t))) u ≡ trail m (StateWith now t (now t) f)
    (map (λ r. (t, r)) (lead m (now t) (rs t))) u =
    λ u. ap (λ w. trail m w (map (λ r. (t, r)) (lead m (now t) (rs t))) u) (sym (state_with_own_thread now t f)) in
    trails_append_of_runs m (state_of now f) (StateWith now t y f) (map (λ r. (t, r)) (lead m (now t) (rs t))) ((t, v) ∷ more)
    (λ u. join_if (eqb u t) (y, k0) (W u)) (λ u. alone_trail m (now u) (rs u) (of_thread u (order_labels f (x ∷ xs)))) E
    (λ u. alone_after m (now u) (rs u)) (objects_after f' xs)
    (subst (λ w. IsRun m w (map (λ r. (t, r)) (lead m (now t) (rs t)))) (state_with_own_thread now t f) k.ok)
    (ap (λ w. end m w (map (λ r. (t, r)) (lead m (now t) (rs t)))) (sym (state_with_own_thread now t f)) ∙ k.there)
    (record {
      ok = (g.0, subst (λ w. IsRun m w more) (sym g.1) ih.ok);
      threads = λ u. ap (λ w. (end m w more).now u) g.1 ∙ ih.threads u;
      objects = ap (λ w. (end m w more).objects) g.1 ∙ ih.objects;
      trails = λ u. ap (λ w. join_if (eqb u t) (upd now t y u, label m (StateWith now t y f) (t, v)) (trail m w more u)) g.1
          ∙ ap (join_if (eqb u t) (upd now t y u, label m (StateWith now t y f) (t, v))) (ih.trails u)
          ∙ ap (λ w. join_if (eqb u t) (upd now t y u, w) (W u)) marked
          ∙ head_of u (eqb u t) refl y now t k0 (W u);
    })
    (λ u. elim (cases_eq u t) [
      | inl e ↦ subst (λ w. trail m (state_of now f) (map (λ r. (t, r)) (lead m (now t) (rs t))) w ++ join_if (eqb w t) (y, k0) (W w) ≡
          alone_trail m (now w) (rs w) (of_thread w (order_labels f (x ∷ xs)))) (sym e)
          (ap (λ b. trail m (state_of now f) (map (λ r. (t, r)) (lead m (now t) (rs t))) t ++ join_if b (y, k0) (W t)) (eq-eqb t t refl)
          ∙ ap (λ w. w ++ (y, k0) ∷ W t) (same t)
          ∙ ap (λ w. trail m (StateWith now t (now t) f) (map (λ r. (t, r)) (lead m (now t) (rs t))) t ++ (y, k0) ∷ w)
          (two_upds_by_cases now rs t (m.take y v) (tail_of ws) t
          (λ w a b. alone_trail m a b (of_thread t (order_labels f' xs)) ≡ alone_trail m (m.take y v) (tail_of ws)
          (of_thread t (order_labels f' xs))) refl (λ ne. absurd (ne refl)))
          ∙ ap (λ w. trail m (StateWith now t (now t) f) (map (λ r. (t, r)) (lead m (now t) (rs t))) t ++ w)
          (sym (c.trails k0 (of_thread t (order_labels f' xs))))
          ∙ k.trails (k0 ∷ of_thread t (order_labels f' xs))
          ∙ ap (λ b. alone_trail m (now t) (rs t) (join_if b k0 (of_thread t (order_labels f' xs)))) (sym (eq-eqb t t refl)))
      | inr ne ↦ ap (λ b. trail m (state_of now f) (map (λ r. (t, r)) (lead m (now t) (rs t))) u ++ join_if b (y, k0) (W u)) (ne_eqb u t ne)
          ∙ ap (λ w. w ++ W u) (same u ∙ k.others u ne)
          ∙ two_upds_elsewhere now rs t (m.take y v) (tail_of ws) u
          (λ a b. alone_trail m a b (of_thread u (order_labels f' xs)) ≡ alone_trail m (now u) (rs u) (of_thread u (order_labels f' xs))) ne
          refl
          ∙ ap (λ b. alone_trail m (now u) (rs u) (join_if b k0 (of_thread u (order_labels f' xs)))) (sym (ne_eqb u t ne))
    ])
    (λ u. two_upds_by_cases now rs t (m.take y v) (tail_of ws) u (λ w a b. alone_after m a b ≡ alone_after m (now w) (rs w)) (c.rest ∙ k.rest)
    (λ ne. refl))
  where
    head_of : (u : ℕ) (b : Bool) → eqb u x.0 ≡ b → (y : T) (now : ℕ → T) (t : ℕ) (k : Label) (xs : List (T × Label))
        → join_if (eqb u x.0) (upd now x.0 y u, k) xs ≡ join_if (eqb u x.0) (y, k) xs
    head_of u true p y now t k xs = ap (λ w. join_if (eqb u x.0) (w, k) xs) (ap (upd now x.0 y) (eqb-true u x.0 p) ∙ upd_at_own_place now x.0 y)
    head_of u false p y now t k xs = ap (λ b. join_if b (upd now x.0 y u, k) xs) p ∙ ap (λ b. join_if b (y, k) xs) (sym p)
