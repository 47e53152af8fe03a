-- What a thread holds, in words.
use Rattle.std.specs.Prelude.{ℕ, ◌+◌, List, ◌++◌, codes, decimal, Option}
use Rattle.std.specs.List.{slice_index_or}
use Rattle.ir_flat.specs.Flat.{idle}
use Rattle.ir_thread.specs.State.{held_at}
use Rattle.ir_thread.specs.State as thread
use Rattle.ir_runs.specs.declared.access.Access.{Access}
use Rattle.ir_runs.specs.declared.access.Access.TheVariants.{Reading, Writing}
use Rattle.ir_runs.specs.Machine.{Object}
use Rattle.ir_text.specs.Texts.{inside_for, joined}

-- what a thread is inside an object for, if it is inside
abbrev pub held_by : List thread.ThreadState → ℕ → ℕ → Option Access
held_by threads o t = held_at (slice_index_or threads t idle).held o

-- the first line of an object by the number of threads
abbrev pub state_line : ℕ → Object → List ℕ
state_line threads o =
    codes "version " ++ decimal o.version ++ codes " left " ++ decimal o.left
    ++ codes " readers " ++ joined (inside_for Reading o.inside threads) ++ codes " writer " ++ joined (inside_for Writing o.inside threads)
    ++ codes "\n"

-- ---- events
