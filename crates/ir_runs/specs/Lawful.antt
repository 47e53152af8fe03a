-- Machines that enter and leave as they should.
use Rattle.std.specs.Prelude.{◌≡◌, ◌≢◌, ℕ, suc, ◌≤◌, Option, Some, None, length, List, [], ◌∷◌}
use Rattle.ir_runs.specs.declared.access.Access.{Access}
use Rattle.ir_runs.specs.declared.access.Access.TheVariants.{Writing}
use Rattle.ir_runs.specs.Machine.{Ask, Private, Env, Enter, Try, Leave, Get, Put, Done, Act, Silent, Replied, Entered, TryFailed, Left, Got, Stored, Never, act_of, Machine, upd, Label, logged}
use Rattle.ir_runs.specs.Run.{events}
use Rattle.ir_runs.specs.Verdicts.{Check}

-- what is held after an act
abbrev pub held_after : Act → (ℕ → Option Access) → ℕ → Option Access
held_after Silent h o = h o
held_after (Replied k v) h o = h o
held_after (Entered i a v) h o = upd h i (Some a) o
held_after (TryFailed i) h o = h o
held_after (Left i a) h o = upd h i None o
held_after (Got i j) h o = h o
held_after (Stored i j w) h o = h o
held_after Never h o = h o

-- what the asks say of the objects that are held
abbrev pub Holds : Ask → (ℕ → Option Access) → Type 0
Holds Private h = Unit {0}
Holds (Env k) h = Unit {0}
Holds (Enter o a) h = (i : ℕ) → o ≤ i → h i ≡ None
Holds (Try o) h = (i : ℕ) → o ≤ i → h i ≡ None
Holds (Leave o a) h = h o ≡ Some a
Holds (Get o i) h = h o ≢ None
Holds (Put o i w) h = h o ≡ Some Writing
Holds Done h = (i : ℕ) → h i ≡ None

-- a machine that enters in order, uses what it holds, and is done when it holds nothing
pub record IsLawful {T : Type 0} (m : Machine T) : Type 0 where
  pub holds : (x : T) → Holds (m.ask x) (m.held x)
  pub takes : (x : T) (r o : ℕ) → m.held (m.take x r) o ≡ held_after (act_of (m.ask x) r) (m.held x) o

-- a machine that ends by a private step, then leaves what it holds, one object a step, and then is done
pub record IsClosing {T : Type 0} (m : Machine T) : Type 0 where
  pub ends : (x : T) (r : ℕ) (e : ℕ × ℕ) → m.ended x ≡ None → m.ended (m.take x r) ≡ Some e → (m.ask x ≡ Private)
      × (m.size (m.take x r) ≡ m.size x)
  pub stays : (x : T) (r : ℕ) (e : ℕ × ℕ) → m.ended x ≡ Some e → m.ended (m.take x r) ≡ Some e
  pub leaves : (x : T) (r : ℕ) (e : ℕ × ℕ) → m.ended x ≡ Some e → m.ask x ≢ Done → (o : ℕ) × (a : Access) × (m.ask x ≡ Leave o a)
      × (m.size x ≡ suc (m.size (m.take x r)))
  pub done : (x : T) → m.ask x ≡ Done → (e : ℕ × ℕ) × (m.ended x ≡ Some e) × (m.size x ≡ 0)

-- each step of the thread meets what the trace says of its end
abbrev pub Ends : {T : Type 0} → Check T → List (T × Label) → Type 0
Ends E [] = Unit {0}
Ends E (x ∷ xs) = E x.0 (suc (length xs)) (logged x.1 (events xs)) × Ends E xs
