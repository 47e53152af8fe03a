-- What each event of a trace is.
use Rattle.std.specs.Prelude.{◌≡◌, ℕ, ◌<◌, true, List, ◌∷◌, None}
use Rattle.ir_runs.specs.Machine.{Ask, Env, Try, Machine, Label, Quiet, Answer, EnteredAt, FailedTry, LeftAt, Trace}
use Rattle.ir_runs.specs.declared.access.Access.TheVariants.{Reading, Writing}
use Rattle.ir_runs.specs.Run.{State, At}

-- what a trace may hold: results that fit, entries and refused tries
abbrev pub IsEvent : {T : Type 0} → Machine T → Label → Type 0
IsEvent m Quiet = ⊥
IsEvent m (Answer k v) = m.fits k v ≡ true
IsEvent m (EnteredAt o Reading v l) = l ≡ 0
IsEvent m (EnteredAt o Writing v l) = Unit {0}
IsEvent m (FailedTry o) = Unit {0}
IsEvent m (LeftAt o a v) = ⊥

-- each log of the trace holds such
abbrev pub HoldsEvents : {T : Type 0} → Machine T → Trace → Type 0
HoldsEvents m tr = (t i : ℕ) (k : Label) → At (tr.logs t) i k → IsEvent m k

-- none of the first n threads has ended
abbrev pub IsLive : {T : Type 0} → Machine T → State T → ℕ → Type 0
IsLive m s n = (t : ℕ) → t < n → m.ended (s.now t) ≡ None

-- the one result with which a step that asks so can follow this log
abbrev pub result_of : Ask → List Label → ℕ
result_of (Env k) (Answer j v ∷ es) = v
result_of (Try o) (EnteredAt p c v l ∷ es) = 1
result_of _ _ = 0
