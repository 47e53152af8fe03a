-- What a step of a thread in a run emits, and the thread after it, by the thread before it.
use Rattle.std.proofs.Common.{◌≡◌, ◌≢◌, ℕ, suc, zero, List, [], ◌∷◌, refl, sym, ap, ◌∙◌, subst, inl, inr, eq-eqb, ne_eqb}
use Rattle.std.proofs.lemmas.Bool.{cases_eq}
use Rattle.ir_runs.specs.Machine.{Machine, Ask, act_of, upd, Object, target, reply, emitted, Admits, Label, Quiet, Answer, EnteredAt, FailedTry, LeftAt}
use Rattle.ir_runs.specs.Machine as machine
use Rattle.ir_runs.specs.declared.access.Access.{Access}
use Rattle.ir_runs.specs.declared.access.Access.TheVariants.{Reading, Writing}
use Rattle.ir_runs.proofs.CallerLemmas.{thread_after_other, thread_after_own_step}
use Rattle.ir_runs.specs.Run.{State, Step, act, Can, IsRun, after, label, end, join_if, trail, thread_in, th, At, Emits, IsNeededBy}

pub record StepOf {T : Type 0} (m : Machine T) (x y : T) (a : Label) : Type 0 where
  pub result : ℕ
  pub object : Object
  pub can : Admits m (act_of (m.ask x) result) object
  pub emits : a ≡ emitted (act_of (m.ask x) result) object
  pub next : y ≡ m.take x (reply (act_of (m.ask x) result) object)

pub thread_at_zero_is_start : {T : Type 0} (m : Machine T) (s : State T) (run : List Step) (t : ℕ) → th m s run t 0 ≡ s.now t
thread_at_zero_is_start m s [] t = refl
thread_at_zero_is_start m s (e ∷ run) t = elim (cases_eq t e.0) [
  | inl same ↦ subst (λ b. thread_in (join_if b (s.now t, label m s e) (trail m (after m s e) run t)) 0 ((end m (after m s e) run).now t) ≡
      s.now t) (sym (eq-eqb t e.0 same)) refl
  | inr other ↦ subst (λ b. thread_in (join_if b (s.now t, label m s e) (trail m (after m s e) run t)) 0 ((end m (after m s e) run).now t) ≡
      s.now t) (sym (ne_eqb t e.0 other)) (thread_at_zero_is_start m (after m s e) run t ∙ thread_after_other m s e t other)
]

-- the first step of a trail, or a later one
cons_trail_is_step_of : {T : Type 0} (m : Machine T) (s : State T) (e : Step) (run : List Step) (t k : ℕ) (a : Label) (x : T) → Can m s e
    → ((j : ℕ) → At (trail m (after m s e) run t) j (x, a) → StepOf m (th m (after m s e) run t j) (th m (after m s e) run t (suc j)) a)
    → t ≡ e.0
    → At ((s.now t, label m s e) ∷ trail m (after m s e) run t) k (x, a)
    → StepOf m (thread_in ((s.now t, label m s e) ∷ trail m (after m s e) run t) k ((end m (after m s e) run).now t))
    (thread_in ((s.now t, label m s e) ∷ trail m (after m s e) run t) (suc k) ((end m (after m s e) run).now t)) a
cons_trail_is_step_of m s e run t zero a x can later same at =
    subst (λ u. StepOf m (s.now u) (thread_in (trail m (after m s e) run u) 0 ((end m (after m s e) run).now u)) a) (sym same) (record {
      result = e.1;
      object = s.objects (target (act m s e));
      can = can;
      emits = sym (ap (λ z. z.1) at);
      next = thread_at_zero_is_start m (after m s e) run e.0 ∙ thread_after_own_step m s e;
    })
cons_trail_is_step_of m s e run t (suc k) a x can later same at = later k at

pub emitting_is_step_of : {T : Type 0} (m : Machine T) (s : State T) (run : List Step) → IsRun m s run → (t k : ℕ) (a : Label) → Emits m s run t k a
    → StepOf m (th m s run t k) (th m s run t (suc k)) a
emitting_is_step_of m s [] ok t k a h = absurd h.1
emitting_is_step_of m s (e ∷ run) ok t k a h = elim (cases_eq t e.0) [
  | inl same ↦ subst
      (λ b. At (join_if b (s.now t, label m s e) (trail m (after m s e) run t)) k (h.0, a)
      → StepOf m (thread_in (join_if b (s.now t, label m s e) (trail m (after m s e) run t)) k ((end m (after m s e) run).now t))
      (thread_in (join_if b (s.now t, label m s e) (trail m (after m s e) run t)) (suc k) ((end m (after m s e) run).now t)) a)
      (sym (eq-eqb t e.0 same)) (cons_trail_is_step_of m s e run t k a h.0 ok.0 (λ j at. emitting_is_step_of m (after m s e) run ok.1 t j a (h.0, at)) same) h.1
  | inr other ↦ subst
      (λ b. At (join_if b (s.now t, label m s e) (trail m (after m s e) run t)) k (h.0, a)
      → StepOf m (thread_in (join_if b (s.now t, label m s e) (trail m (after m s e) run t)) k ((end m (after m s e) run).now t))
      (thread_in (join_if b (s.now t, label m s e) (trail m (after m s e) run t)) (suc k) ((end m (after m s e) run).now t)) a)
      (sym (ne_eqb t e.0 other)) (λ at. emitting_is_step_of m (after m s e) run ok.1 t k a (h.0, at)) h.1
]

-- what isn't an entry needs nothing
pub no_entry_needs_nothing : (b : Label) (q : Ask) (r : ℕ) (x : Object) → ((o : ℕ) (a : Access) → q ≢ machine.Enter o a) → ((o : ℕ) → q ≢ machine.Try o)
    → IsNeededBy b (emitted (act_of q r) x) → ⊥
no_entry_needs_nothing b q r x ne nt n = none b (emitted (act_of q r) x) (quiet q r x ne nt) n
  where
    NotIn : Label → Type 0
    NotIn Quiet = Unit {0}
    NotIn (Answer k v) = Unit {0}
    NotIn (EnteredAt o a v l) = ⊥
    NotIn (FailedTry o) = Unit {0}
    NotIn (LeftAt o a v) = Unit {0}

    quiet : (q : Ask) (r : ℕ) (x : Object) → ((o : ℕ) (a : Access) → q ≢ machine.Enter o a) → ((o : ℕ) → q ≢ machine.Try o)
        → NotIn (emitted (act_of q r) x)
    quiet machine.Private r x ne nt = tt
    quiet (machine.Env k) r x ne nt = tt
    quiet (machine.Enter o a) r x ne nt = absurd (ne o a refl)
    quiet (machine.Try o) r x ne nt = absurd (nt o refl)
    quiet (machine.Leave o a) r x ne nt = tt
    quiet (machine.Get o i) r x ne nt = tt
    quiet (machine.Put o i w) r x ne nt = tt
    quiet machine.Done r x ne nt = tt

    none : (b a : Label) → NotIn a → IsNeededBy b a → ⊥
    none b (EnteredAt o c v l) h n = h
    none (LeftAt o Reading w) Quiet h n = n
    none (LeftAt o Writing w) Quiet h n = n
    none (LeftAt o Reading w) (Answer k v) h n = n
    none (LeftAt o Writing w) (Answer k v) h n = n
    none (LeftAt o Reading w) (FailedTry p) h n = n
    none (LeftAt o Writing w) (FailedTry p) h n = n
    none (LeftAt o Reading w) (LeftAt p c v) h n = n
    none (LeftAt o Writing w) (LeftAt p c v) h n = n
    none Quiet a h n = n
    none (Answer i u) a h n = n
    none (EnteredAt p d u m) a h n = n
    none (FailedTry p) a h n = n
