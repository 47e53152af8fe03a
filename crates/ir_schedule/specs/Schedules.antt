-- Runs in which threads change at rest alone.
use Rattle.std.specs.Prelude.{◌≡◌, ◌<◌, ℕ, zero, suc, Bool, true, false, List, [], ◌∷◌, ◌++◌, ◌⊎◌, map}
use Rattle.ir_runs.specs.Machine.{Ask, Private, Env, Enter, Try, Leave, Get, Put, Done, Machine}
use Rattle.ir_runs.specs.Run.{State, Step, asked, Can, after, end, IsDone, EntersIfFree}
use Rattle.ir_schedule.specs.Choices.{chosen}
use Rattle.ir_schedule.specs.declared.chooser.Chooser.{Chooser}

-- where a thread rests: before an entry or a try, and when it is done; if there are tries, also before it leaves an object, since a
-- try is refused only while a thread is inside
abbrev pub is_rest : Bool → Ask → Bool
is_rest tries Private = false
is_rest tries (Env kind) = false
is_rest tries (Enter object access) = true
is_rest tries (Try object) = true
is_rest tries (Leave object access) = tries
is_rest tries (Get object index) = false
is_rest tries (Put object index value) = false
is_rest tries Done = true

-- whether thread t rests
abbrev pub rests : {T : Type 0} → Bool → Machine T → State T → ℕ → Bool
rests tries m s t = is_rest tries (asked m s t)

-- those of the first n threads that have a step, by rising numbers; all threads rest
abbrev pub AreReady : {T : Type 0} → Machine T → State T → ℕ → List ℕ → Type 0
AreReady m s zero ready = ready ≡ []
AreReady m s (suc n) ready = ((lower : List ℕ) × AreReady m s n lower × Can m s (n, 0) × (ready ≡ lower ++ n ∷ []))
    ⊎ (AreReady m s n ready × (Can m s (n, 0) → ⊥))

-- thread t isn't at rest, and each lower one is
abbrev pub IsUnderWay : {T : Type 0} → Bool → Machine T → State T → ℕ → Type 0
IsUnderWay tries m s t = (rests tries m s t ≡ false) × ((u : ℕ) → u < t → rests tries m s u ≡ true)

-- all n threads rest, and thread t is the chosen one of those that have a step; the chooser is d afterwards
pub record IsChosen {T : Type 0} (tries : Bool) (m : Machine T) (n : ℕ) (s : State T) (c : Chooser) (t : ℕ) (d : Chooser) : Type 0 where
  pub rest : (u : ℕ) → u < n → rests tries m s u ≡ true
  pub ready : List ℕ
  pub are : AreReady m s n ready
  pub choice : (t, d) ≡ chosen c ready

-- the next step, of one of the n threads: a thread under way continues, the lowest first; if all rest, the chosen one goes
abbrev pub IsNextChosen : {T : Type 0} → Bool → Machine T → ℕ → State T → Chooser → Step → Chooser → Type 0
IsNextChosen tries m n s c e d = (e.0 < n) × Can m s e × EntersIfFree m s e × ((IsUnderWay tries m s e.0 × (d ≡ c)) ⊎ IsChosen tries m n s c e.0 d)

-- the steps of a run by the chooser, which is d after them
abbrev pub ChoosesSteps : {T : Type 0} → Bool → Machine T → ℕ → State T → Chooser → List Step → Chooser → Type 0
ChoosesSteps tries m n s c [] d = d ≡ c
ChoosesSteps tries m n s c (e ∷ run) d = (b : Chooser) × IsNextChosen tries m n s c e b × ChoosesSteps tries m n (after m s e) b run d

-- the complete run by the chooser
pub record IsSchedule {T : Type 0} (tries : Bool) (m : Machine T) (n : ℕ) (s : State T) (c : Chooser) (run : List Step) : Type 0 where
  pub last : Chooser
  pub leads : ChoosesSteps tries m n s c run last
  pub done : IsDone m (end m s run)

-- whose steps these are
abbrev pub chosen_threads : List Step → List ℕ
chosen_threads run = map (λ e. e.0) run
