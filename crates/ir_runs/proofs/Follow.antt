-- A maximal run that follows a run's own trace goes all the way.
use Rattle.std.proofs.Common.{◌≡◌, ℕ, pred, ◌≤◌, eqb, List, [], ◌∷◌, ◌++◌, length, refl, sym, ap, ◌∙◌, subst, arith, append-nil, append_assoc}
use Rattle.ir_runs.specs.Machine.{Machine, Label, logged}
use Rattle.ir_runs.specs.Lawful.{IsLawful, Ends}
use Rattle.ir_runs.specs.Run.{State, Step, after, IsRun, end, trail, events, log, count, label}
use Rattle.ir_runs.specs.Bounds.{trace}
use Rattle.ir_runs.proofs.Good.{StateInvariant}
use Rattle.ir_runs.proofs.Append.{join_if-append, trail_append, append_of_runs_is_run}
use Rattle.ir_runs.proofs.Same.{BeginsRun, beginning_logs_begin_run}
use Rattle.ir_runs.specs.Alike.{Reaches}
use Rattle.ir_runs.specs.Verdicts.{left_log, Check, unlogged, Fits, Follows, IsMaximal}

logged_append_is_whole : (k : Label) (xs ys zs : List Label) → xs ++ ys ≡ zs → logged k xs ++ ys ≡ logged k zs
logged_append_is_whole Label.Quiet xs ys zs h = h
logged_append_is_whole (Label.Answer i v) xs ys zs h = ap (λ z. Label.Answer i v ∷ z) h
logged_append_is_whole (Label.EnteredAt o a v l) xs ys zs h = ap (λ z. Label.EnteredAt o a v l ∷ z) h
logged_append_is_whole (Label.FailedTry o) xs ys zs h = ap (λ z. Label.FailedTry o ∷ z) h
logged_append_is_whole (Label.LeftAt o a v) xs ys zs h = h

pub events_then_left_log : {T : Type 0} (E : Check T) (n : ℕ) (es : List Label) (xs : List (T × Label)) → Fits E n es xs
    → events xs ++ left_log xs es ≡ es
events_then_left_log E n es [] h = refl
events_then_left_log E n es (x ∷ xs) h = logged_append_is_whole x.1 (events xs) (left_log xs (unlogged x.1 es)) (unlogged x.1 es)
    (events_then_left_log E (pred n) (unlogged x.1 es) xs h.3) ∙ h.1

pub fits_length_bound : {T : Type 0} (E : Check T) (n : ℕ) (es : List Label) (xs : List (T × Label)) → Fits E n es xs → length xs ≤ n
fits_length_bound E n es [] h = omega arith
fits_length_bound E n es (x ∷ xs) h = omega (arith, fits_length_bound E (pred n) (unlogged x.1 es) xs h.3, h.0)

pub fitting_prefix_fits : {T : Type 0} (E : Check T) (n : ℕ) (es : List Label) (xs ys : List (T × Label)) → Fits E n es (xs ++ ys) → Fits E n es xs
fitting_prefix_fits E n es [] ys h = tt
fitting_prefix_fits E n es (x ∷ xs) ys h = (h.0, h.1, h.2, fitting_prefix_fits E (pred n) (unlogged x.1 es) xs ys h.3)

-- where the follower stops nothing is left
maximal_leaves_nothing : {T : Type 0} (E : ℕ → Check T) (m : Machine T) (s : State T) (run follower : List Step)
    → ((t : ℕ) → Fits (E t) (count m s run t) (log m s run t) (trail m s run t)) → IsRun m s follower
    → IsMaximal E m s (trace m s run) follower
    → (rest : List Step) → IsRun m (end m s follower) rest
    → ((u : ℕ) → trail m s follower u ++ trail m (end m s follower) rest u ≡ trail m s run u) → rest ≡ []
maximal_leaves_nothing E m s run follower own ok top [] okr same = refl
maximal_leaves_nothing E m s run follower own ok top (e ∷ rest) okr same = absurd (top e (
  append_of_runs_is_run m s follower (e ∷ []) ok (okr.0, tt),
  λ t. fitting_prefix_fits (E t) (count m s run t) (log m s run t) (trail m s (follower ++ e ∷ []) t) (trail m (after m (end m s follower) e) rest t)
      (subst (Fits (E t) (count m s run t) (log m s run t)) (sym (same t) ∙ whole t) (own t)),
))
  where
    whole : (t : ℕ) → trail m s follower t ++ trail m (end m s follower) (e ∷ rest) t ≡ trail m s (follower ++ e ∷ []) t ++ trail m
        (after m (end m s follower) e) rest t
    whole t = ap (λ z. trail m s follower t ++ z)
        (join_if-append (eqb t e.0) ((end m s follower).now t, label m (end m s follower) e) []
        (trail m (after m (end m s follower) e) rest t))
        ∙ sym (append_assoc (trail m s follower t) (trail m (end m s follower) (e ∷ []) t) (trail m (after m (end m s follower) e) rest t))
        ∙ ap (λ z. z ++ trail m (after m (end m s follower) e) rest t) (sym (trail_append m s follower (e ∷ []) t))

pub maximal_reaches_own_run : {T : Type 0} (E : ℕ → Check T) (m : Machine T) → IsLawful m → (s : State T) → StateInvariant m s → (run : List Step)
    → Follows E m s (trace m s run) run → (follower : List Step) → Follows E m s (trace m s run) follower
    → IsMaximal E m s (trace m s run) follower → Reaches m s follower run
maximal_reaches_own_run E m law s good run own follower f top =
    let g : BeginsRun m s follower run = beginning_logs_begin_run m law s good follower run f.0 own.0 (λ t. left_log (trail m s follower t) (log m s run t))
    (λ t. events_then_left_log (E t) (count m s run t) (log m s run t) (trail m s follower t) (f.1 t))
    (λ t. fits_length_bound (E t) (count m s run t) (log m s run t) (trail m s follower t) (f.1 t)) in
    let none : g.rest ≡ [] = maximal_leaves_nothing E m s run follower own.1 f.0 top g.rest g.ok g.same_trail in
    record {
      trails = λ u. sym (append-nil _) ∙ ap (λ z. trail m s follower u ++ trail m (end m s follower) z u) (sym none) ∙ g.same_trail u;
      states = ap (end m (end m s follower)) (sym none) ∙ g.same_end;
    }

unlogged_logged : (k : Label) (es : List Label) → unlogged k (logged k es) ≡ es
unlogged_logged Label.Quiet es = refl
unlogged_logged (Label.Answer i v) es = refl
unlogged_logged (Label.EnteredAt o a v l) es = refl
unlogged_logged (Label.FailedTry o) es = refl
unlogged_logged (Label.LeftAt o a v) es = refl

-- a thread's steps follow their own number and log
pub trail_fits_own_log : {T : Type 0} (E : Check T) (xs : List (T × Label)) → Ends E xs → Fits E (length xs) (events xs) xs
trail_fits_own_log E [] h = tt
trail_fits_own_log E (x ∷ xs) h = (
  omega arith,
  ap (logged x.1) (unlogged_logged x.1 (events xs)),
  h.0,
  subst (λ z. Fits E (length xs) z xs)
      (sym (unlogged_logged x.1 (events xs))) (trail_fits_own_log E xs h.1),
)
