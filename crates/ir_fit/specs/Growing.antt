-- Where a thread's events and leaves are among its steps, while it takes them.
use Rattle.std.specs.Prelude.{ℕ, List, [], ◌∷◌, ◌++◌, slice_set}
use Rattle.std.specs.List.{slice_index_or}
use Rattle.ir_thread.specs.declared.ask.Ask.{Ask}
use Rattle.ir_thread.specs.declared.ask.Ask.TheVariants.{Env, Enter, Try, Leave as Leaves}
use Rattle.ir_flat.specs.Flat.{Flat, thread_of, cell_of}
use Rattle.ir_fit.specs.Placed.{Placed, places_from, leaves_from}
use Rattle.ir_fit.specs.declared.leave.Leave.{Leave}
use Rattle.ir_runs.specs.Machine.{Label}

-- what is kept of the steps so far: the positions of the events, the leaves, and for how many of each there is room
pub record Growing : Type 0 where
  pub entries : List ℕ
  pub leaves : List Leave
  pub room : ℕ

-- without the room
abbrev pub grown : Growing → Placed
grown g = record { entries = g.entries; leaves = g.leaves }

-- nothing, and room for nothing
abbrev pub none_growing : Growing
none_growing = record { entries = []; leaves = []; room = 0 }

-- what is kept of thread t
abbrev pub growing_at : List Growing → ℕ → Growing
growing_at ps t = slice_index_or ps t none_growing

-- the same, and the step that thread t asks for
abbrev pub placed_by : Flat → ℕ → Growing → Ask → Growing
placed_by f t p (Env kind) = record p { entries = p.entries ++ (thread_of f t).steps ∷ [] }
placed_by f t p (Enter o a) = record p { entries = p.entries ++ (thread_of f t).steps ∷ [] }
placed_by f t p (Try o) = record p { entries = p.entries ++ (thread_of f t).steps ∷ [] }
placed_by f t p (Leaves o a) = record p {
  leaves =
      p.leaves ++ record { position = (thread_of f t).steps; object = o; access = a; version = (cell_of f o).fields.version } ∷ [];
}
placed_by f t p _ = p

-- what is kept of all threads, and that step
abbrev pub placed_more : Flat → List Growing → ℕ → Ask → List Growing
placed_more f ps t q = slice_set ps t (placed_by f t (growing_at ps t) q)

-- for each event of a thread, in order, how many steps it took before
abbrev pub places_of : {T : Type 0} → List (T × Label) → List ℕ
places_of steps = places_from 0 steps

-- the leaves of a thread, in order, each with how many steps it took before
abbrev pub leaves_of : {T : Type 0} → List (T × Label) → List Leave
leaves_of steps = leaves_from 0 steps

-- nothing
abbrev pub none_placed : Placed
none_placed = record { entries = []; leaves = [] }
