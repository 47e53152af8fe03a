-- A thread as a machine that asks and is answered, whatever it computes.
use Rattle.std.specs.Prelude.{ℕ, suc, zero, Bool, cond, eqb, Option, ◌≡◌, ◌≢◌, true, Some, None, List, ◌∷◌}
use Rattle.ir_runs.specs.declared.access.Access.{Access}
use Rattle.ir_runs.specs.declared.access.Access.TheVariants.{Writing, Reading}
use Rattle.ir_runs.specs.declared.env_kind.EnvKind.{EnvKind}

-- what a thread asks for next; a try may enter for writing if no thread is inside, may always be refused, and never waits
pub data Ask : Type 0 where
  Private : Ask
  Env : (kind : EnvKind) → Ask
  Enter : (object : ℕ) → (access : Access) → Ask
  Try : (object : ℕ) → Ask
  Leave : (object : ℕ) → (access : Access) → Ask
  Get : (object index : ℕ) → Ask
  Put : (object index value : ℕ) → Ask
  Done : Ask

-- what a step does: an ask, and the result of the step where it has one
pub data Act : Type 0 where
  Silent : Act
  Replied : (kind : EnvKind) → (value : ℕ) → Act
  Entered : (object : ℕ) → (access : Access) → (answer : ℕ) → Act
  TryFailed : (object : ℕ) → Act
  Left : (object : ℕ) → (access : Access) → Act
  Got : (object index : ℕ) → Act
  Stored : (object index value : ℕ) → Act
  Never : Act

-- what a step with this result does; a try with 1 is an entry for writing, with 0 a refused try, and there is no other
abbrev pub act_of : Ask → ℕ → Act
act_of Private r = Silent
act_of (Env k) r = Replied k r
act_of (Enter o a) r = Entered o a 0
act_of (Try o) zero = TryFailed o
act_of (Try o) (suc zero) = Entered o Writing 1
act_of (Leave o a) r = Left o a
act_of (Get o i) r = Got o i
act_of (Put o i w) r = Stored o i w
act_of q r = Never

-- what a thread does, T being the thread's state
pub record Machine (T : Type 0) : Type 0 where
  -- what it asks next
  pub ask : T → Ask
  -- the thread after its next step, with this reply
  pub take : T → ℕ → T
  -- which objects it holds; only proofs look at it
  pub held : T → ℕ → Option Access
  -- which results suit a call of the environment
  pub fits : EnvKind → ℕ → Bool
  -- its end and code, once it has ended
  pub ended : T → Option (ℕ × ℕ)
  -- how many objects it holds
  pub size : T → ℕ

-- the table f, but v at i
unfoldable pub upd : {A : Type 0} → (ℕ → A) → ℕ → A → ℕ → A
upd f i v j = cond (eqb j i) v (f j)

-- an object at one moment
pub record Object : Type 0 where
  -- how many times a writer has left it
  pub version : ℕ
  -- how many readers have left this version
  pub left : ℕ
  -- what each thread is inside for, if it is inside
  pub inside : ℕ → Option Access
  pub words : ℕ → ℕ

-- the object that an act enters, leaves, reads or writes; any other act has object 0, which it doesn't change
abbrev pub target : Act → ℕ
target (Entered o a v) = o
target (Left o a) = o
target (Got o i) = o
target (Stored o i w) = o
target q = 0

-- whether the act can be taken now: a reader waits while a writer is inside, a writer while anyone is, and a result suits its call
abbrev pub Admits : {T : Type 0} → Machine T → Act → Object → Type 0
Admits m (Replied k v) b = m.fits k v ≡ true
Admits m (Entered o Reading v) b = (u : ℕ) → b.inside u ≢ Some Writing
Admits m (Entered o Writing v) b = (u : ℕ) → b.inside u ≡ None
Admits m Never b = ⊥
Admits m q b = Unit {0}

-- the object after the act of thread t: a reader's leave adds 1 to left, a writer's leave makes a new version that no reader has left
abbrev pub acted : Act → ℕ → Object → Object
acted (Entered o a v) t b = record b { inside = upd b.inside t (Some a) }
acted (Left o Reading) t b = record b { left = suc b.left; inside = upd b.inside t None }
acted (Left o Writing) t b = record b { version = suc b.version; left = 0; inside = upd b.inside t None }
acted (Stored o i w) t b = record b { words = upd b.words i w }
acted q t b = b

-- what the thread is answered
abbrev pub reply : Act → Object → ℕ
reply (Replied k v) b = v
reply (Entered o a v) b = v
reply (Got o i) b = b.words i
reply q b = 0

-- what a step emits: nothing, the result of a call of the environment, an entry, a refused try, or a leave
pub data Label : Type 0 where
  Quiet : Label
  Answer : (kind : EnvKind) → (value : ℕ) → Label
  EnteredAt : (object : ℕ) → (access : Access) → (version left : ℕ) → Label
  FailedTry : (object : ℕ) → Label
  LeftAt : (object : ℕ) → (access : Access) → (version : ℕ) → Label

-- what the act emits: an entry emits the version that it finds and, for writing, how many readers have left it
abbrev pub emitted : Act → Object → Label
emitted (Replied k v) b = Answer k v
emitted (Entered o Reading v) b = EnteredAt o Reading b.version 0
emitted (Entered o Writing v) b = EnteredAt o Writing b.version b.left
emitted (TryFailed o) b = FailedTry o
emitted (Left o a) b = LeftAt o a b.version
emitted q b = Quiet

-- es, with what is logged of the label before it: results, entries and refused tries
abbrev pub logged : Label → List Label → List Label
logged Quiet es = es
logged (LeftAt o a v) es = es
logged event es = event ∷ es

-- the trace of a run: of each thread how many steps it takes, its log, and its end and code
pub record Trace : Type 0 where
  pub steps : ℕ → ℕ
  pub logs : ℕ → List Label
  pub ends : ℕ → Option (ℕ × ℕ)
