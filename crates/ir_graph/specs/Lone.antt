-- A thread that goes on beside some objects.
use Rattle.std.specs.Prelude.{◌≡◌, ◌<◌, ℕ, zero, suc, Bool, true, false, List, length, slice_index, slice_set}
use Rattle.std.specs.List.{slice_index_or}
use Rattle.ir_image.specs.Guest.{most_object_words}
use Rattle.ir_object.specs.Cell.{Cell}
use Rattle.ir_object.specs.Standing.{Admitted, CanLeave}
use Rattle.ir_object.specs.Word.{IsFields, entered_word, left_by}
use Rattle.ir_object.specs.declared.fields.Fields.{Fields}
use Rattle.ir_runs.specs.declared.access.Access.TheVariants.{Writing}
use Rattle.ir_search_laws.specs.Sources.{left_of_source}
use Rattle.ir_thread.specs.State.{ThreadState, ask_of, after_ask, shared_ask, is_result}
use Rattle.ir_thread.specs.declared.ask.Ask.{Ask}
use Rattle.ir_thread.specs.declared.ask.Ask.TheVariants as ask
use Rattle.ir_thread.specs.declared.ask.Reply.{Reply}
use Rattle.ir_thread.specs.declared.ask.Reply.TheVariants.{Go, Value}
use Rattle.ir_world.specs.Sources.{Source, given}
use Rattle.ir_flat.specs.Flat.{Flat, IsFlat, thread_of, cell_of}
use Rattle.ir_flat.specs.Next.{MayTry}
use Rattle.ir_object.specs.Empty.{empty}
use Rattle.ir_graph.specs.Hand.{IsHandOf}
use Rattle.ir_graph.specs.Plain.{IsFair, Rests, result_by}

-- an ask is about no object but this one
abbrev pub IsAbout : ℕ → Ask → Type 0
IsAbout o ask.Private = Unit {0}
IsAbout o (ask.Env kind) = Unit {0}
IsAbout o (ask.Enter p access) = p ≡ o
IsAbout o (ask.Try p) = p ≡ o
IsAbout o (ask.Leave p access) = p ≡ o
IsAbout o (ask.Get p index) = p ≡ o
IsAbout o (ask.Put p index value) = p ≡ o
IsAbout o ask.Print = Unit {0}
IsAbout o (ask.End e) = Unit {0}
IsAbout o ask.Done = ⊥

-- what the source answers suits the call, if it is one
abbrev pub IsGiven : Source → Ask → Type 0
IsGiven source (ask.Env kind) = is_result kind (given kind source).0 ≡ true
IsGiven source _ = Unit {0}

-- what the object or the source answers; of a try it is known whether it is refused
abbrev pub answer_from : Bool → Cell → Source → Ask → Reply
answer_from refused c source ask.Private = Go
answer_from refused c source (ask.Env kind) = Value (given kind source).0
answer_from refused c source (ask.Enter p access) = Go
answer_from refused c source (ask.Try p) = Value (result_by refused)
answer_from refused c source (ask.Leave p access) = Go
answer_from refused c source (ask.Get p index) = Value (slice_index c.words index)
answer_from refused c source (ask.Put p index value) = Go
answer_from refused c source ask.Print = Go
answer_from refused c source (ask.End e) = Go
answer_from refused c source ask.Done = Go

-- the object after a try
abbrev pub cell_after_try : Bool → Cell → Cell
cell_after_try true c = c
cell_after_try false c = record c { fields = entered_word Writing c.fields }

-- the object after what is asked of it
abbrev pub cell_after : Bool → Cell → Ask → Cell
cell_after refused c ask.Private = c
cell_after refused c (ask.Env kind) = c
cell_after refused c (ask.Enter p access) = record c { fields = entered_word access c.fields }
cell_after refused c (ask.Try p) = cell_after_try refused c
cell_after refused c (ask.Leave p access) = record c { fields = left_by access c.fields }
cell_after refused c (ask.Get p index) = c
cell_after refused c (ask.Put p index value) = record c { words = slice_set c.words index value }
cell_after refused c ask.Print = c
cell_after refused c (ask.End e) = c
cell_after refused c ask.Done = c

-- the thread and its source, and the object, after the thread's next step
abbrev pub lone_thread : List ℕ → Bool → ThreadState × Source → Cell → ThreadState × Source
lone_thread code refused x c = (
  after_ask code x.0 (ask_of code x.0) (answer_from refused c x.1 (ask_of code x.0)),
  left_of_source given (shared_ask (ask_of code x.0)) x.1,
)

abbrev pub lone_cell : List ℕ → Bool → ThreadState × Source → Cell → Cell
lone_cell code refused x c = cell_after refused c (ask_of code x.0)

-- y and after are x and cells, the objects of these numbers, after so many steps of the thread, none of which can be refused, each of which is about
-- no object but one of them, and whose calls are answered by its source
abbrev pub GoesAmong : List ℕ → List ℕ → ℕ → ThreadState × Source → List Cell → ThreadState × Source → List Cell → Type 0
GoesAmong code numbers zero x cells y after = (x ≡ y) × (cells ≡ after)
GoesAmong code numbers (suc k) x cells y after = (p : ℕ) × (p < length numbers) × IsFair (ask_of code x.0)
    × IsAbout (slice_index numbers p) (ask_of code x.0) × IsGiven x.1 (ask_of code x.0)
    × GoesAmong code numbers k (lone_thread code false x (slice_index_or cells p empty))
    (slice_set cells p (lone_cell code false x (slice_index_or cells p empty))) y after

-- a thread that asks so can begin a turn with this object: it enters, or its try is refused or enters
abbrev pub MayBegin : Bool → ℕ → Fields → Ask → Type 0
MayBegin refused o fields (ask.Enter p access) = (refused ≡ false) × (p ≡ o) × Admitted access fields
MayBegin refused o fields (ask.Try p) = (p ≡ o) × MayTry fields (result_by refused)
MayBegin refused o fields _ = ⊥

-- a thread that asks so has to wait: it enters this object, or tries to and isn't refused, and the object doesn't admit it
abbrev pub MustWait : Bool → ℕ → Fields → Ask → Type 0
MustWait refused o fields (ask.Enter p access) = (refused ≡ false) × (p ≡ o) × (Admitted access fields → ⊥)
MustWait refused o fields (ask.Try p) = (refused ≡ false) × (p ≡ o) × (Admitted Writing fields → ⊥)
MustWait refused o fields _ = ⊥

-- A thread that rests enters the first of the objects of these numbers, or tries to, and goes on, by steps about these objects alone, to where it
-- rests again: x and cells become y and after.
pub record TakesTurn (code numbers : List ℕ) (refused : Bool) (x : ThreadState × Source) (cells : List Cell) (y : ThreadState × Source) (after : List Cell) : Type 0 where
  pub begins : MayBegin refused (slice_index numbers 0) (slice_index_or cells 0 empty).fields (ask_of code x.0)
  pub steps : ℕ
  pub goes : GoesAmong code numbers steps (lone_thread code refused x (slice_index_or cells 0 empty))
      (slice_set cells 0 (lone_cell code refused x (slice_index_or cells 0 empty))) y after
  pub rests : Rests (ask_of code y.0)

-- a thread and an object of some state of a guest
pub record AreBeside (code : List ℕ) (o : ℕ) (x : ThreadState) (c : Cell) : Type 0 where
  pub flat : Flat
  pub thread : ℕ
  pub is : IsFlat flat
  pub runs : flat.code ≡ code
  pub has_thread : thread < length flat.threads
  pub has_object : o < length flat.objects
  pub here : thread_of flat thread ≡ x
  pub there : cell_of flat o ≡ c

-- a thread and the objects of these numbers of some state of a guest
pub record AreAmong (code numbers : List ℕ) (x : ThreadState) (cells : List Cell) : Type 0 where
  pub flat : Flat
  pub thread : ℕ
  pub is : IsFlat flat
  pub runs : flat.code ≡ code
  pub has_thread : thread < length flat.threads
  pub here : thread_of flat thread ≡ x
  pub hand : IsHandOf flat.objects numbers cells

-- the object may be tried so
abbrev pub MayTakeTry : Bool → Cell → Type 0
MayTakeTry true c = Unit {0}
MayTakeTry false c = Admitted Writing c.fields × IsFields (entered_word Writing c.fields)

-- the object may be asked so
abbrev pub MayTake : Bool → Cell → Ask → Type 0
MayTake refused c ask.Private = Unit {0}
MayTake refused c (ask.Env kind) = Unit {0}
MayTake refused c (ask.Enter p access) = Admitted access c.fields × IsFields (entered_word access c.fields)
MayTake refused c (ask.Try p) = MayTakeTry refused c
MayTake refused c (ask.Leave p access) = CanLeave access c.fields × IsFields (left_by access c.fields)
MayTake refused c (ask.Get p index) = index < most_object_words
MayTake refused c (ask.Put p index value) = index < most_object_words
MayTake refused c ask.Print = Unit {0}
MayTake refused c (ask.End e) = Unit {0}
MayTake refused c ask.Done = ⊥
