-- In a run each thread takes the steps that it takes alone.
use Rattle.std.proofs.Common.{◌≡◌, ℕ, suc, zero, ◌+◌, ◌&&◌, Bool, true, false, List, [], ◌∷◌, length, refl, sym, ap, ◌∙◌, subst, arith, inl, inr, eq-eqb, ne_eqb}
use Rattle.std.proofs.lemmas.Bool.{cases_eq}
use Rattle.ir_runs.specs.Machine.{Ask, Private, Env, Enter, Try, Leave, Get, Put, Done, Act, act_of, Machine, Object, target, Admits, reply, emitted, Label}
use Rattle.ir_runs.specs.Shared.{is_shared}
use Rattle.ir_runs.proofs.CallerLemmas.{upd_at_own_place, upd_at_other_place}
use Rattle.ir_runs.specs.Run.{State, Step, act, after, label, IsRun, end, join_if, trail}
use Rattle.ir_thread.specs.State.{start_state}
use Rattle.ir_flat.specs.Flat.{start_flat, tables, machine, MayReply}
use Rattle.ir_flat.specs.Trails.{alone_label, labels_left, alone_trail}
use Rattle.ir_flat.specs.Replies.{replied, shared_labels, StepsAlone, EachAlone}
use Rattle.ir_flat.proofs.Bounded.{get_or-start_threads}
use Rattle.ir_flat.proofs.Splice.{unshared_emits_alone, shared_alone_label}

-- a step that is admitted, with what it is answered as its result, does the same, and this may be answered to the thread alone
admitted_step_may_reply : {T : Type 0} (m : Machine T) (q : Ask) (r : ℕ) (b : Object) → Admits m (act_of q r) b
    → (act_of q (reply (act_of q r) b) ≡ act_of q r) × MayReply m (act_of q r) (reply (act_of q r) b)
admitted_step_may_reply m Private r b can = (refl, refl)
admitted_step_may_reply m (Env k) r b can = (refl, can)
admitted_step_may_reply m (Enter o a) r b can = (refl, refl)
admitted_step_may_reply m (Try o) zero b can = (refl, refl)
admitted_step_may_reply m (Try o) (suc zero) b can = (refl, refl)
admitted_step_may_reply m (Try o) (suc (suc r)) b can = absurd can
admitted_step_may_reply m (Leave o a) r b can = (refl, refl)
admitted_step_may_reply m (Get o i) r b can = (refl, tt)
admitted_step_may_reply m (Put o i w) r b can = (refl, refl)
admitted_step_may_reply m Done r b can = absurd can

-- what a step emits is what it emits alone, and the labels that are left are those of the steps after it
emitted_is_alone_label : {T : Type 0} (m : Machine T) (q : Act) (v : ℕ) (b : Object) (ks : List Label) → MayReply m q v → (is : Bool) → is_shared q ≡ is
    → (emitted q b ≡ alone_label q (join_if is (emitted q b) ks)) × (ks ≡ labels_left (is_shared q) (join_if is (emitted q b) ks))
emitted_is_alone_label m q v b ks may true p = (sym (shared_alone_label q (emitted q b) ks p), ap (λ z. labels_left z (emitted q b ∷ ks)) (sym p))
emitted_is_alone_label m q v b ks may false p = (unshared_emits_alone m q v b ks p may, ap (λ z. labels_left z ks) (sym p))

-- a thread alone with one step before its others
steps_alone_of_cons : {T : Type 0} (m : Machine T) (x y : T) (v : ℕ) (q : Act) (b : Object) (vs : List ℕ) (ks : List Label) (steps : List (T × Label))
    → act_of (m.ask x) v ≡ q → MayReply m q v → StepsAlone m (m.take x v) y vs ks steps
    → StepsAlone m x y (v ∷ vs) (join_if (is_shared q) (emitted q b) ks) ((x, emitted q b) ∷ steps)
steps_alone_of_cons m x y v q b vs ks steps is may rest =
    let l = emitted_is_alone_label m q v b ks may (is_shared q) refl in
    let ls : List Label = join_if (is_shared q) (emitted q b) ks in
    record {
      may = (subst (λ z. MayReply m z v) (sym is) may, rest.may);
      trail = ap (λ z. (x, emitted q b) ∷ z) rest.trail
          ∙ ap (λ z. (x, emitted q b) ∷ alone_trail m (m.take x v) vs z) l.1
          ∙ ap (λ z. (x, z) ∷ alone_trail m (m.take x v) vs (labels_left (is_shared q) ls)) l.0
          ∙ ap (λ z. (x, alone_label z ls) ∷ alone_trail m (m.take x v) vs (labels_left (is_shared z) ls)) (sym is);
      ends = rest.ends;
    }

-- each thread's steps in a run are its steps alone
pub trail_is_alone : {T : Type 0} (m : Machine T) (s : State T) (run : List Step) (t : ℕ) → IsRun m s run
    → StepsAlone m (s.now t) ((end m s run).now t) (replied m s run t) (shared_labels m s run t) (trail m s run t)
unfolding after
trail_is_alone m s [] t ok = record { may = tt; trail = refl; ends = refl }
trail_is_alone {T} m s (e ∷ run) t ok =
    let q : Act = act m s e in
    let b : Object = s.objects (target q) in
    let next : State T = after m s e in
    let y : T = (end m next run).now t in
    let vs : List ℕ = replied m next run t in
    let ks : List Label = shared_labels m next run t in
    let more : List (T × Label) = trail m next run t in
    let rest : StepsAlone m (next.now t) y vs ks more = trail_is_alone m next run t ok.1 in
    elim (cases_eq t e.0) [
      | inl same ↦ (
          let r = admitted_step_may_reply m (m.ask (s.now e.0)) e.1 b ok.0 in
          let here : next.now t ≡ m.take (s.now t) (reply q b) = ap (next.now) same
          ∙ upd_at_own_place s.now e.0 (m.take (s.now e.0) (reply q b)) ∙ ap (λ z. m.take (s.now z) (reply q b)) (sym same) in
          subst (λ z. StepsAlone m (s.now t) y (join_if z (reply q b) vs) (join_if (z && is_shared q) (label m s e) ks)
          (join_if z (s.now t, label m s e) more)) (sym (eq-eqb t e.0 same))
          (steps_alone_of_cons m (s.now t) y (reply q b) q b vs ks more (ap (λ z. act_of (m.ask (s.now z)) (reply q b)) same ∙ r.0) r.1
          (subst (λ z. StepsAlone m z y vs ks more) here rest)))
      | inr other ↦ subst (λ z. StepsAlone m (s.now t) y (join_if z (reply q b) vs) (join_if (z && is_shared q) (label m s e) ks)
          (join_if z (s.now t, label m s e) more)) (sym (ne_eqb t e.0 other))
          (subst (λ z. StepsAlone m z y vs ks more) (upd_at_other_place s.now e.0 t (m.take (s.now e.0) (reply q b)) other) rest)
    ]

-- the threads of a guest
pub each_thread_runs_alone : EachAlone
each_thread_runs_alone guest budget profile run t ok l =
    let f = start_flat guest budget profile in
    subst (λ x. StepsAlone (machine f) x ((end (machine f) (tables f) run).now t) (replied (machine f) (tables f) run t)
    (shared_labels (machine f) (tables f) run t) (trail (machine f) (tables f) run t))
    (get_or-start_threads guest budget profile 0 (length guest.entries) t l
    ∙ ap (λ k. start_state guest k budget profile) (let e : 0 + t ≡ t = omega arith in e)) (trail_is_alone (machine f) (tables f) run t ok)
