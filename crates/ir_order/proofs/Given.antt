-- What the world of a thread answers next.
use Rattle.std.proofs.Common.{◌≡◌, ◌<◌, ℕ, zero, suc, Bool, true, false, List, ◌∷◌, refl, sym, ap, ◌∙◌, subst}
use Rattle.ir_runs.specs.Machine.{Ask, Private, Env, Enter, Try, Leave, Get, Put, Done, Act, act_of, Silent, Replied, Entered, TryFailed}
use Rattle.ir_runs.specs.Machine.{Left, Got, Stored, Never, Machine, upd, Object, target, Admits, emitted, Label, logged}
use Rattle.ir_runs.specs.declared.access.Access.TheVariants.{Reading, Writing}
use Rattle.ir_runs.specs.Run.{State, Step, asked, act, after, events, log}
use Rattle.ir_runs.proofs.CallerLemmas.{upd_by_cases, trail_cons_own, trail_cons_other}
use Rattle.ir_record.specs.Refusing.{Tries}
use Rattle.ir_record.specs.Worlds.{answers_in}
use Rattle.ir_world.specs.Sources.{Source, given, Gave}

-- the act has the answer that comes next
abbrev pub TakesNextAnswer : Act → Source → Type 0
TakesNextAnswer Silent s = Unit {0}
TakesNextAnswer (Replied k v) s = v ≡ (given k s).0
TakesNextAnswer (Entered o a v) s = Unit {0}
TakesNextAnswer (TryFailed o) s = Unit {0}
TakesNextAnswer (Left o a) s = Unit {0}
TakesNextAnswer (Got o i) s = Unit {0}
TakesNextAnswer (Stored o i w) s = Unit {0}
TakesNextAnswer Never s = Unit {0}

-- what is left after the act
abbrev pub source_left_by : Act → Source → Source
source_left_by Silent s = s
source_left_by (Replied k v) s = (given k s).1
source_left_by (Entered o a v) s = s
source_left_by (TryFailed o) s = s
source_left_by (Left o a) s = s
source_left_by (Got o i) s = s
source_left_by (Stored o i w) s = s
source_left_by Never s = s

-- the answers in a log were given in turn from here on
abbrev pub HasGiven : Source → List Label → Type 0
HasGiven s es = (left : Source) × Gave s (answers_in es) left

pub given_splits_off_act : (q : Act) (b : Object) (es : List Label) (s : Source) → HasGiven s (logged (emitted q b) es)
    → TakesNextAnswer q s × HasGiven (source_left_by q s) es
given_splits_off_act Silent b es s h = (tt, h)
given_splits_off_act (Replied k v) b es s h = (h.1.0, (h.0, h.1.1))
given_splits_off_act (Entered o Reading v) b es s h = (tt, h)
given_splits_off_act (Entered o Writing v) b es s h = (tt, h)
given_splits_off_act (TryFailed o) b es s h = (tt, h)
given_splits_off_act (Left o a) b es s h = (tt, h)
given_splits_off_act (Got o i) b es s h = (tt, h)
given_splits_off_act (Stored o i w) b es s h = (tt, h)
given_splits_off_act Never b es s h = (tt, h)

-- each of n threads was answered from what is left to it
abbrev pub AreGiven : {T : Type 0} → Machine T → State T → ℕ → (ℕ → Source) → List Step → Type 0
AreGiven m s n sources run = (t : ℕ) → t < n → HasGiven (sources t) (log m s run t)

given_splits_off_step : {T : Type 0} (m : Machine T) (s : State T) (e : Step) (run : List Step) (source : Source) → HasGiven source (log m s (e ∷ run) e.0)
    → TakesNextAnswer (act m s e) source × HasGiven (source_left_by (act m s e) source) (log m (after m s e) run e.0)
given_splits_off_step m s e run source h =
    given_splits_off_act (act m s e) (s.objects (target (act m s e))) (log m (after m s e) run e.0) source
    (subst (HasGiven source) (ap events (trail_cons_own m s e run)) h)

-- a step's act has the answer that comes next
pub first_takes_next_answer : {T : Type 0} (m : Machine T) (s : State T) (n : ℕ) (sources : ℕ → Source) (e : Step) (run : List Step)
    → AreGiven m s n sources (e ∷ run) → e.0 < n → TakesNextAnswer (act m s e) (sources e.0)
first_takes_next_answer m s n sources e run h l = (given_splits_off_step m s e run (sources e.0) (h e.0 l)).0

-- and what is left after it answers the others
pub rest_is_given : {T : Type 0} (m : Machine T) (s : State T) (n : ℕ) (sources : ℕ → Source) (e : Step) (run : List Step)
    → AreGiven m s n sources (e ∷ run) → AreGiven m (after m s e) n (upd sources e.0 (source_left_by (act m s e) (sources e.0))) run
rest_is_given m s n sources e run h t l =
    upd_by_cases sources e.0 (source_left_by (act m s e) (sources e.0)) t (λ source. HasGiven source (log m (after m s e) run t))
    (λ same. subst (λ u. HasGiven (source_left_by (act m s e) (sources e.0)) (log m (after m s e) run u)) (sym same)
    (given_splits_off_step m s e run (sources e.0) (h e.0 (subst (λ u. u < n) same l))).1)
    (λ other. subst (HasGiven (sources t)) (ap events (trail_cons_other m s e run t other)) (h t l))

-- ---- there is one act of a thread

-- a try is refused, or enters if it can
abbrev pub EntersIfItCan : {T : Type 0} → Machine T → (ℕ → Object) → Bool → Ask → ℕ → Type 0
EntersIfItCan m objects true q r = (o : ℕ) → q ≡ Try o → r ≡ 0
EntersIfItCan m objects false q r = (o : ℕ) → q ≡ Try o → Admits m (act_of q 1) (objects (target (act_of q 1))) → r ≡ 1

pub trying_enters_if_it_can : {T : Type 0} (m : Machine T) (s : State T) (t r : ℕ) (refused : Bool) → Tries m s refused (t, r)
    → EntersIfItCan m s.objects refused (asked m s t) r
trying_enters_if_it_can m s t r true h = h
trying_enters_if_it_can m s t r false h = h

pub source_act_unique : {T : Type 0} (m : Machine T) (objects : ℕ → Object) (source : Source) (refused : Bool) (q : Ask) (r w : ℕ)
    → Admits m (act_of q r) (objects (target (act_of q r))) → Admits m (act_of q w) (objects (target (act_of q w)))
    → EntersIfItCan m objects refused q r → EntersIfItCan m objects refused q w → TakesNextAnswer (act_of q r) source → TakesNextAnswer (act_of q w) source
    → act_of q r ≡ act_of q w
source_act_unique m objects source refused Private r w can can' enters enters' takes takes' = refl
source_act_unique m objects source refused (Env k) r w can can' enters enters' takes takes' = ap (Replied k) (takes ∙ sym takes')
source_act_unique m objects source refused (Enter o a) r w can can' enters enters' takes takes' = refl
source_act_unique m objects source true (Try o) r w can can' enters enters' takes takes' = ap (act_of (Try o)) (enters o refl ∙ sym (enters' o refl))
source_act_unique m objects source false (Try o) zero zero can can' enters enters' takes takes' = refl
source_act_unique m objects source false (Try o) zero (suc zero) can can' enters enters' takes takes' = absurd (cc (enters o refl can'))
source_act_unique m objects source false (Try o) zero (suc (suc w)) can can' enters enters' takes takes' = absurd can'
source_act_unique m objects source false (Try o) (suc zero) zero can can' enters enters' takes takes' = absurd (cc (enters' o refl can))
source_act_unique m objects source false (Try o) (suc zero) (suc zero) can can' enters enters' takes takes' = refl
source_act_unique m objects source false (Try o) (suc zero) (suc (suc w)) can can' enters enters' takes takes' = absurd can'
source_act_unique m objects source false (Try o) (suc (suc r)) w can can' enters enters' takes takes' = absurd can
source_act_unique m objects source refused (Leave o a) r w can can' enters enters' takes takes' = refl
source_act_unique m objects source refused (Get o i) r w can can' enters enters' takes takes' = refl
source_act_unique m objects source refused (Put o i v) r w can can' enters enters' takes takes' = refl
source_act_unique m objects source refused Done r w can can' enters enters' takes takes' = absurd can
