-- What an event needs, and where a trace goes in a circle.
use Rattle.std.specs.Prelude.{◌≡◌, ℕ, suc, ◌<◌, ◌≤◌, ◌⊎◌, ⊤, cond, eqb, ◌+◌, List, [], ◌∷◌, length}
use Rattle.ir_trace.specs.Recorded.{Recorded, recorded_thread}
use Rattle.ir_past.specs.Past.{IsReadAt, IsWriteAt}

-- event i of thread t enters object o at version v
abbrev pub IsEntryOf : Recorded → ℕ → ℕ → ℕ → ℕ → Type 0
IsEntryOf r t i o v = IsReadAt r t i o v ⊎ ((l : ℕ) × IsWriteAt r t i o v l)

-- event j of thread u made the version that event i of thread t enters
pub record IsMakerOf (r : Recorded) (t i u j : ℕ) : Type 0 where
  pub object : ℕ
  pub version : ℕ
  pub readers : ℕ
  pub entry : IsEntryOf r t i object (suc version)
  pub made : IsWriteAt r u j object version readers

-- event j of thread u read the version over which event i of thread t writes
pub record IsReaderFor (r : Recorded) (t i u j : ℕ) : Type 0 where
  pub object : ℕ
  pub version : ℕ
  pub readers : ℕ
  pub write : IsWriteAt r t i object version readers
  pub read : IsReadAt r u j object version

-- event i of thread t needs event j of thread u, which may be an event of the same thread
abbrev pub Needs : Recorded → ℕ → ℕ → ℕ → ℕ → Type 0
Needs r t i u j = IsMakerOf r t i u j ⊎ IsReaderFor r t i u j

-- how many of these are thread t: so many of its first events are placed where each number places its thread's next event
abbrev pub placed : List ℕ → ℕ → ℕ
placed [] t = 0
placed (u ∷ us) t = cond (eqb u t) 1 0 + placed us t

-- the event of thread t after its first c t can be placed: there is one, and all that it needs is placed
pub record CanFollowBox (r : Recorded) (c : ℕ → ℕ) (t : ℕ) : Type 0 where
  pub there : c t < length (recorded_thread r t).events
  pub needs : (u j : ℕ) → Needs r t (c t) u j → j < c u

-- these threads, the last one first, place their events so that each comes after all it needs
abbrev pub IsOrder : Recorded → List ℕ → Type 0
IsOrder r [] = ⊤
IsOrder r (t ∷ ts) = IsOrder r ts × CanFollowBox r (placed ts) t

-- such an order that places as many events of each thread as any
pub record IsFullOrder (r : Recorded) (order : List ℕ) : Type 0 where
  pub is : IsOrder r order
  pub most : (other : List ℕ) → IsOrder r other → (t : ℕ) → placed other t ≤ placed order t

-- all events can be placed
abbrev pub HasNoCircle : Recorded → Type 0
HasNoCircle r = (order : List ℕ) × IsOrder r order × ((t : ℕ) → placed order t ≡ length (recorded_thread r t).events)

-- thread t is the lowest whose next event, event e, can never be placed
pub record IsCircleAt (r : Recorded) (t e : ℕ) : Type 0 where
  pub order : List ℕ
  pub full : IsFullOrder r order
  pub next : placed order t ≡ e
  pub left : e < length (recorded_thread r t).events
  pub lowest : (u : ℕ) → u < t → placed order u ≡ length (recorded_thread r u).events
