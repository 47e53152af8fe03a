-- Runs one after the other.
use Rattle.std.proofs.Common.{◌≡◌, ℕ, Bool, true, false, eqb, List, [], ◌∷◌, ◌++◌, refl, ap, ◌∙◌}
use Rattle.ir_runs.specs.Machine.{Machine, Label, Quiet, Answer, EnteredAt, FailedTry, LeftAt, logged}
use Rattle.ir_runs.specs.Run.{State, Step, after, label, IsRun, end, join_if, trail, events, log}

pub join_if-append : {A : Type 0} (b : Bool) (x : A) (xs ys : List A) → join_if b x (xs ++ ys) ≡ join_if b x xs ++ ys
join_if-append true x xs ys = refl
join_if-append false x xs ys = refl

pub trail_append : {T : Type 0} (m : Machine T) (s : State T) (run more : List Step) (t : ℕ)
    → trail m s (run ++ more) t ≡ trail m s run t ++ trail m (end m s run) more t
trail_append m s [] more t = refl
trail_append m s (e ∷ run) more t = ap (join_if (eqb t e.0) (s.now t, label m s e)) (trail_append m (after m s e) run more t)
    ∙ join_if-append (eqb t e.0) (s.now t, label m s e) (trail m (after m s e) run t) (trail m (end m (after m s e) run) more t)

pub append_of_runs_is_run : {T : Type 0} (m : Machine T) (s : State T) (run more : List Step) → IsRun m s run → IsRun m (end m s run) more
    → IsRun m s (run ++ more)
append_of_runs_is_run m s [] more ok ok' = ok'
append_of_runs_is_run m s (e ∷ run) more ok ok' = (ok.0, append_of_runs_is_run m (after m s e) run more ok.1 ok')

pub end_append : {T : Type 0} (m : Machine T) (s : State T) (run more : List Step) → end m s (run ++ more) ≡ end m (end m s run) more
end_append m s [] more = refl
end_append m s (e ∷ run) more = end_append m (after m s e) run more

logged_append : (k : Label) (xs ys : List Label) → logged k (xs ++ ys) ≡ logged k xs ++ ys
logged_append Quiet xs ys = refl
logged_append (Answer i v) xs ys = refl
logged_append (EnteredAt o a v l) xs ys = refl
logged_append (FailedTry o) xs ys = refl
logged_append (LeftAt o a v) xs ys = refl

pub events_append : {T : Type 0} (xs ys : List (T × Label)) → events (xs ++ ys) ≡ events xs ++ events ys
events_append [] ys = refl
events_append (x ∷ xs) ys = ap (logged x.1) (events_append xs ys) ∙ logged_append x.1 (events xs) (events ys)

pub log_append : {T : Type 0} (m : Machine T) (s : State T) (run more : List Step) (t : ℕ)
    → log m s (run ++ more) t ≡ log m s run t ++ log m (end m s run) more t
log_append m s run more t = ap events (trail_append m s run more t) ∙ events_append (trail m s run t) (trail m (end m s run) more t)
