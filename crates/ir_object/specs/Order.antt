-- Object steps of several threads in one order.
use Rattle.std.specs.Prelude.{◌≡◌, ◌≢◌, ℕ, ◌^◌, ◌<◌, Bool, true, false, eqb, List, [], ◌∷◌, Option, Some, None}
use Rattle.ir_image.specs.Guest.{most_object_words}
use Rattle.ir_runs.specs.Machine.{Act, Silent, Replied, Entered, TryFailed, Left, Got, Stored, Never, Machine, upd, Object, target, Admits, acted, reply, emitted, Label}
use Rattle.ir_runs.specs.Run.{join_if}
use Rattle.ir_runs.specs.declared.access.Access.{Access}
use Rattle.ir_runs.specs.declared.access.Access.TheVariants.{Writing}

-- an object step: what is done, and the answer
abbrev pub Shared : Type 0
Shared = Act × ℕ

-- what thread t has in an order of all
abbrev pub of_thread : {A : Type 0} → ℕ → List (ℕ × A) → List A
of_thread t [] = []
of_thread t (x ∷ xs) = join_if (eqb t x.0) x.1 (of_thread t xs)

-- the objects after an object step
abbrev pub objects_then : (ℕ → Object) → ℕ × Shared → ℕ → Object
objects_then f x = upd f (target x.1.0) (acted x.1.0 x.0 (f (target x.1.0)))

-- the objects after object steps in this order
abbrev pub objects_after : (ℕ → Object) → List (ℕ × Shared) → ℕ → Object
objects_after f [] = f
objects_after f (x ∷ xs) = objects_after (objects_then f x) xs

-- each object step is allowed after those before it, and answers what it says
abbrev pub IsAllowedStep : {T : Type 0} → Machine T → (ℕ → Object) → List (ℕ × Shared) → Type 0
IsAllowedStep m f [] = Unit {0}
IsAllowedStep m f (x ∷ xs) = Admits m x.1.0 (f (target x.1.0)) × (reply x.1.0 (f (target x.1.0)) ≡ x.1.1) × IsAllowedStep m (objects_then f x) xs

-- what each object step of the order emits
abbrev pub order_labels : (ℕ → Object) → List (ℕ × Shared) → List (ℕ × Label)
order_labels f [] = []
order_labels f (x ∷ xs) = (x.0, emitted x.1.0 (f (target x.1.0))) ∷ order_labels (objects_then f x) xs

-- how a thread is inside the object that it does this to
abbrev pub Uses : Act → Option Access → Type 0
Uses Silent i = ⊥
Uses (Replied k v) i = ⊥
Uses (Entered o a v) i = i ≡ None
Uses (TryFailed o) i = ⊥
Uses (Left o a) i = i ≡ Some a
Uses (Got o j) i = (j < most_object_words) × (i ≢ None)
Uses (Stored o j w) i = (j < most_object_words) × (w < 2 ^ 32) × (i ≡ Some Writing)
Uses Never i = ⊥

-- the object step is one of n threads' and of `count` objects', its thread is inside as it has to be, it is admitted, and this is its
-- answer
pub record IsObjectStep {T : Type 0} (m : Machine T) (n count : ℕ) (f : ℕ → Object) (x : ℕ × Shared) : Type 0 where
  pub thread : x.0 < n
  pub object : target x.1.0 < count
  pub uses : Uses x.1.0 ((f (target x.1.0)).inside x.0)
  pub admits : Admits m x.1.0 (f (target x.1.0))
  pub answers : reply x.1.0 (f (target x.1.0)) ≡ x.1.1

-- each object step is one after those before it
abbrev pub IsLegal : {T : Type 0} → Machine T → ℕ → ℕ → (ℕ → Object) → List (ℕ × Shared) → Type 0
IsLegal m n count f [] = Unit {0}
IsLegal m n count f (x ∷ xs) = IsObjectStep m n count f x × IsLegal m n count (objects_then f x) xs

-- how a thread is inside an object after an act about it
abbrev pub inside_then : Act → Option Access → Option Access
inside_then Silent i = i
inside_then (Replied k v) i = i
inside_then (Entered o a v) i = Some a
inside_then (TryFailed o) i = i
inside_then (Left o a) i = None
inside_then (Got o j) i = i
inside_then (Stored o j w) i = i
inside_then Never i = i

abbrev pub inside_if : Bool → Act → Option Access → Option Access
inside_if true q i = inside_then q i
inside_if false q i = i

-- how it is inside object o after these object steps of its own
abbrev pub inside_after : ℕ → Option Access → List Shared → Option Access
inside_after o i [] = i
inside_after o i (x ∷ xs) = inside_after o (inside_if (eqb o (target x.0)) x.0 i) xs
