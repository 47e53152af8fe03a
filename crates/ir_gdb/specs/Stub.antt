-- What is held for gdb beside the run.
use Rattle.std.specs.Prelude.{◌<◌, ◌≤◌, ◌≡◌, ◌+◌, ◌*◌, ⊤, None, Some, true, false, nat_le, Bool, ℕ, List, [], length, Option}
use Rattle.std.specs.List.{AllByRecursion, filter}
use Rattle.ir_image.specs.Guest.{most_objects}
use Rattle.ir_mach.specs.Core.{memory_start, memory_size}
use Rattle.ir_fit.specs.Fit.{FittedTrace}
use Rattle.ir_cut.specs.Positions.{threads_of}
use Rattle.ir_hits.specs.Hits.{objects_start, object_size}
use Rattle.ir_debug.specs.Machine as desk
use Rattle.ir_debug.specs.Machine.{Desk}
use Rattle.ir_packet.specs.declared.reply.Reason.TheVariants.{Step}
use Rattle.ir_gdb.specs.declared.point.Watched.{Watched}
use Rattle.ir_gdb.specs.declared.stopped.Told.{Told}
use Rattle.ir_gdb.specs.Guards.{Guarded}

pub record Stub : Type 0 where
  -- the small machine of a session: the guest, its trace, and the position of each thread
  pub desk : Desk
  -- the thread of `g`, `p` and `m`
  pub general : ℕ
  -- the thread of `s`, `c`, `bs` and `bc`, if `Hc` named one
  pub chosen : Option ℕ
  -- the thread of the last stop, or of a later `T`
  pub current : ℕ
  -- whether gdb moves all threads together: it does at first, and each move says it again but one step of a thread alone
  pub together : Bool
  pub breaks : List Guarded
  pub watches : List Watched
  -- the last stop
  pub told : Told
  -- whether the next move is answered as interrupted, and not made
  pub interrupted : Bool
  -- whether gdb may run the program again: after `!`
  pub extended : Bool

-- before the first stop
abbrev pub first_told : Told
first_told = record { interrupted = false; thread = 0; reason = Step }

-- thread 0 current, no points
abbrev pub stub_of : Desk → Stub
stub_of d = record {
  desk = d;
  general = 0;
  chosen = None;
  current = 0;
  together = true;
  breaks = [];
  watches = [];
  told = first_told;
  interrupted = false;
  extended = false;
}

-- after an answer of the small machine that is no move's
abbrev pub stub_spoken : Stub → Stub
stub_spoken s = record s { desk = desk.spoken s.desk }

-- the most bytes of a watch
abbrev pub most_watched : ℕ
most_watched = 256

-- a thread that `Hc` may have named
abbrev pub IsChoice : FittedTrace → Option ℕ → Type 0
IsChoice f None = ⊤
IsChoice f (Some t) = t < threads_of f

-- the most breakpoints and watches together
abbrev pub most_stub_points : ℕ
most_stub_points = 64

-- whether a watch is of the objects, which all threads share; any other is of private memory
abbrev pub is_shared_break : Watched → Bool
is_shared_break w = nat_le objects_start w.address

-- the watches of the objects
abbrev pub shared_breaks : List Watched → List Watched
shared_breaks watches = filter is_shared_break watches

-- a watch is of a few bytes, all of private memory or all of objects
pub record IsWatched (w : Watched) : Type 0 where
  pub some : 0 < w.size
  pub few : w.size ≤ most_watched
  pub low : memory_start ≤ w.address
  pub high : w.address + w.size ≤ objects_start + object_size * most_objects
  pub own : is_shared_break w ≡ false → w.address + w.size ≤ memory_start + memory_size

-- what is always so
pub record IsStub (s : Stub) : Type 0 where
  pub general : s.general < threads_of s.desk.fitted
  pub chosen : IsChoice s.desk.fitted s.chosen
  pub current : s.current < threads_of s.desk.fitted
  pub told : s.told.thread < threads_of s.desk.fitted
  pub watches : AllByRecursion IsWatched s.watches
  pub few : length s.breaks + length s.watches ≤ most_stub_points
